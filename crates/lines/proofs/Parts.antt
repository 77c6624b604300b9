-- Places in parts, one for each line, and a part of them that is written. Assumes nothing.
use Rattle.std.proofs.Common.{◌≡◌, ℕ, ◌+◌, ◌-◌, ◌*◌, ◌<◌, ◌≤◌, List, length, take, drop, ap, ⊎_elim, arith, rules}
use borrow.Rule.Slice.PartMut.{put_mid}
use Rattle.protocol.specs.Limits.{line_places}
use Rattle.std.proofs.lemmas.List.{length-append, length-take, length-drop}
use Rattle.std.proofs.lemmas.Slice.{overwrites, between_is, take-put_mid_below, drop-put_mid}
use Rattle.std.proofs.lemmas.Bool.{cases_lt}
use Rattle.lines.specs.LineWire.{places_of}

module _ {X : Type 0} (xs : List X) (n s : ℕ) (s_in : s < n) (fits : n * line_places ≤ length xs) where
  pub part_length : length (places_of xs s) ≡ line_places
  part_length = simp (length-take, length-drop) (omega arith)

  -- the places of s are written with ws
  module _ (ws : List X) (ws_long : length ws ≡ line_places) where
    abbrev pub written : List X
    written = put_mid (s * line_places) line_places xs ws

    pub written_length : length written ≡ length xs
    written_length = simp (length-append, length-take, length-drop) (omega arith)

    in_places : s * line_places ≤ length xs
    in_places = omega arith

    pub written_here : places_of written s ≡ ws
    written_here = let l : length ws ≡ s * line_places + line_places - s * line_places = omega arith in let i = in_places in search (rules, overwrites)

    pub written_there : (t : ℕ) → (t ≡ s → ⊥) → places_of written t ≡ places_of xs t
    written_there t apart = let i = in_places in ⊎_elim
        (λ (lt : t < s).
        let below : t * line_places + line_places ≤ s * line_places = omega arith in
        simp between_is (ap (drop (t * line_places)) (take-put_mid_below (s * line_places) line_places xs ws (t * line_places + line_places) below i)))
        (λ (ge : s ≤ t).
        let above : s * line_places + line_places ≤ t * line_places = omega arith in
        ap (take (t * line_places + line_places - t * line_places)) (drop-put_mid (s * line_places) line_places xs ws (t * line_places) above i ws_long))
        (cases_lt t s)
