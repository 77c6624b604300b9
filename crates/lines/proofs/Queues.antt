-- Queues that stand for lines: one of them changed, and all of them empty. Assumes nothing.
use Rattle.std.proofs.Common.{◌≡◌, ℕ, ◌<◌, ◌≤◌, List, length, get_or, set, replicate, arith}
use Rattle.std.proofs.lemmas.Grind.{common_steps}
use Rattle.std.proofs.lemmas.Bool.Decides.{nat_tests}
use Rattle.protocol.specs.Limits.{max_stations}
use Rattle.queue.specs.Contents.{contents, vacant}
use Rattle.queue.specs.declared.Queue.{Queue}
use Rattle.queue.proofs.Turns.{contents_vacant}
use Rattle.wires.specs.Lines.{Lines, silent}
use Rattle.wires.specs.Calls.{changed}
use Rattle.wires.proofs.Changes.{with_at}
use Rattle.lines.specs.LineWire.{places_of, line_at}

-- the lines of so many stations, by their queues and all places
abbrev pub of : {T : Type 0} → ℕ → List Queue → List T → Lines T
of roll queues places = record { roll = roll; at = line_at roll queues places }

module _ {T : Type 0} where
  -- the queue of s and its places are new, and hold what g makes of the old line; the other places are the same
  pub line_changed : (roll : ℕ) (queues : List Queue) (places now : List T) (s : ℕ) (q : Queue) (g : List T → List T)
      → s < roll → roll ≤ length queues
      → contents q (places_of now s) ≡ g (contents (get_or queues s vacant) (places_of places s))
      → ((t : ℕ) → (t ≡ s → ⊥) → places_of now t ≡ places_of places t)
      → of roll (set queues s q) now ≡ changed (of roll queues places) s g
  line_changed roll queues places now s q g s_in many here there = with_at roll (λ t. grind (arith, common_steps, nat_tests, there t))

  -- queues that hold nothing
  pub line_silent : (roll : ℕ) (q : Queue) (places : List T) → q ≡ vacant → of roll (replicate max_stations q) places ≡ silent roll
  line_silent roll q places e = with_at roll (λ t. grind (arith, common_steps, nat_tests, contents_vacant (places_of places t)))
