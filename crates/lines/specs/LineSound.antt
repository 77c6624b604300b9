-- The lines of a wire that keeps a queue for each station are sound. Assumes nothing.
use Rattle.std.specs.Prelude.{◌≡◌, ℕ, ◌+◌, ◌-◌, ◌*◌, ◌≤◌, [], length, drop, vec_items, slice_index_or}
use Rattle.std.proofs.Common.{arith, length-take}
use Rattle.std.proofs.lemmas.Bool.Decides.{nat_tests}
use Rattle.protocol.specs.Limits.{line_places}
use Rattle.queue.specs.Contents.{vacant}
use Rattle.queue.proofs.Turns.{contents_length}
use Rattle.wires.specs.Lines.{Sound}
use Rattle.lines.specs.LineWire.{places_of, line_lines}
use Rattle.lines.specs.declared.line_wire.LineWire.{LineWire}

pub line_sound : {T : Type 0} (w : LineWire T) → Sound (line_lines w)
line_sound w = record { some = w.some; few = w.few; short = short; off = off }
  where
    short : (s : ℕ) → length ((line_lines w).at s) ≤ line_places
    short s = grind (
      arith,
      nat_tests,
      contents_length (slice_index_or w.queues s vacant) (places_of (vec_items w.places) s),
      length-take (s * line_places + line_places - s * line_places) (drop (s * line_places) (vec_items w.places)),
    )

    off : (s : ℕ) → w.roll ≤ s → (line_lines w).at s ≡ []
    off s h = grind (arith, nat_tests)
