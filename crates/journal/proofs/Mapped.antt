-- What an array's `map` makes of a table. Assumes nothing.
use Rattle.std.proofs.Common.{◌≡◌, ℕ, ◌<◌, List, map, length, get_or, sym, ◌∙◌, arith}
use Rattle.std.proofs.lemmas.List.{same_lists, get_or-map, length-map}
use denote.Param.Members.{Mut, Called}
use Rattle.std.specs.Array.{IsMapOf}

-- calls that act as h give the list mapped by h
pub mapped : {F A : Type 0} (g : Mut F (A × Unit {0}) A) (h : A → A) (f : F) (xs ys : List A) (n : ℕ) → IsMapOf g f xs ys n → length xs ≡ n →
    ((p : F) (x y : A) (q : F) → Called g p (x, tt) y q → y ≡ h x) → ys ≡ map h xs
mapped {A = A} g h f xs ys n m l acts = same_lists ys (map h xs) (m.long ∙ sym (simp length-map l)) each
  where
    each : (k : ℕ) (d : A) → k < length ys → get_or ys k d ≡ get_or (map h xs) k d
    each k d b =
        let s = m.long in
        let c = m.at k d d (omega arith) in
        acts c.0 (get_or xs k d) (get_or ys k d) c.1 c.2
        ∙ sym (get_or-map h xs k d d (omega arith))
