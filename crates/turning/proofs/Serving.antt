-- The ways of serving a wish. Assumes nothing.
use Rattle.std.proofs.Common.{◌≡◌, ℕ, ◌+◌, ◌-◌, ◌<◌, ◌≤◌, min, Bool, true, false, cond, List, [], length, take, drop, sym, ap, ◌∙◌, ⊎_elim, arith}
use Rattle.std.proofs.lemmas.List.{take_all, length-drop}
use Rattle.std.proofs.lemmas.Bool.{cases_lt}
use Rattle.protocol.specs.Limits.{resent_per_turn}
use Rattle.vote.specs.Mask.{adding}
use Rattle.protocol.specs.declared.entry.Body.TheVariants as body
use Rattle.journal.specs.Core.{Core}
use Rattle.journal.specs.Journal.{turn_at}
use Rattle.journal.specs.Settle.{view}
use Rattle.protocol.specs.declared.entry.Entry.{Entry}
use Rattle.protocol.specs.declared.frame.Frame.{Frame}
use Rattle.turning.specs.Posts.{Performed, Posting, after, frames_of, say_body}
use Rattle.turning.specs.Steps.{lets_in, serve}
use Rattle.wires.specs.Calls.{posted_all}
use Rattle.wires.specs.Lines.{Lines}
use Rattle.turning.proofs.Posting.{post_append}

-- frames posted before a rule's
pub after_frames : (s : ℕ) (fs : List Frame) (q : Posting) (m : Core) (w u v : Lines Frame) → u ≡ posted_all w s fs → Performed s q m u v → Performed s (after fs q) m w v
after_frames s fs q m w u v e p = record {
  station = p.station;
  lines = p.lines ∙ ap (λ (z : Lines Frame). posted_all z s q.1) e ∙ sym (post_append s fs q.1 w);
}

-- at most 8 items after a place, as a part of the whole
pub part_is : {X : Type 0} (xs : List X) (p n : ℕ) → p ≤ length xs → n ≡ min (length xs) (p + resent_per_turn) → take (n - p) (drop p xs) ≡ take resent_per_turn (drop p xs)
part_is xs p n h e =
    ⊎_elim
    (λ (short : length xs < p + resent_per_turn).
    let l = length-drop p xs in
    take_all (n - p) (drop p xs) (omega arith) ∙ sym (take_all resent_per_turn (drop p xs) (omega arith)))
    (λ (long : p + resent_per_turn ≤ length xs). let z : n - p ≡ resent_per_turn = omega arith in ap (λ k. take k (drop p xs)) z)
    (cases_lt (length xs) (p + resent_per_turn))

-- the frames that are posted again, of the journal as the code has it
pub again_lines : (s b p n : ℕ) (h j : List Entry) (w u : Lines Frame) → h ≡ j → p ≤ length j → n ≡ min (length h) (p + resent_per_turn) → b ≡ turn_at h p
    → u ≡ posted_all w s (frames_of s b (take (n - p) (drop p h)))
    → u ≡ posted_all w s (frames_of s (turn_at j p) (take resent_per_turn (drop p j)))
again_lines s b p n h j w u e fits en eb eu =
    let l = ap length e in
    let f : p ≤ length h = omega arith in
    eu ∙ ap (λ (x : List Entry). posted_all w s (frames_of s b x)) (part_is h p n f en)
    ∙ ap (λ x. posted_all w s (frames_of s x (take resent_per_turn (drop p h)))) eb
    ∙ ap (λ (x : List Entry). posted_all w s (frames_of s (turn_at x p) (take resent_per_turn (drop p x)))) e

module _ (t k p : ℕ) (m : Core) where
  abbrev again : List Frame
  again = frames_of m.me (turn_at m.journal p) (take resent_per_turn (drop p m.journal))

  pub serve_in : (v x : ℕ) (b : Bool) → b ≡ lets_in (length m.journal) p → b ≡ true → v ≡ view m → x ≡ adding v k → serve t k p m ≡ after again (say_body t (body.View x) m)
  unfolding serve
  serve_in v x b eb y ev ex =
      ap (λ (c : Bool). after again (cond c (say_body t (body.View (adding (view m) k)) m) (m, []))) (sym eb ∙ y)
      ∙ ap (λ i. after again (say_body t (body.View i) m)) (sym (ex ∙ ap (λ i. adding i k) ev))

  pub serve_only : (b : Bool) → b ≡ lets_in (length m.journal) p → b ≡ false → serve t k p m ≡ after again (m, [])
  unfolding serve
  serve_only b eb y =
      ap (λ (c : Bool). after again (cond c (say_body t (body.View (adding (view m) k)) m) (m, []))) (sym eb ∙ y)
