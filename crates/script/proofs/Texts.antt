-- The first line of a text, and the lines after it.
use Rattle.std.proofs.Common.{◌≡◌, ℕ, suc, false, eqb, List, [], ◌∷◌, ◌++◌, length, Some, None, MatchOption, Option, refl, ap, ◌∙◌, arith, Bor}
use Rattle.std.specs.Prelude.{not, ◌==◌}
use Rattle.std.specs.Bool.{then_some}
use Rattle.std.specs.List.{onto_first}
use Rattle.std.proofs.lemmas.Bool.Decides.{nat_tests}
use Rattle.script.specs.Words.{Free}
use Rattle.script.specs.Lines.{lines, lines_left, unless_empty}

other_byte : (x : ℕ) → (x ≡ 10 → ⊥) → eqb x 10 ≡ false
other_byte x h = grind (arith, nat_tests)

pub first_of : (l t : List ℕ) → Free 10 l → lines (l ++ (10 ∷ t)) ≡ l ∷ unless_empty t (lines t)
first_of [] t f = refl
first_of (x ∷ xs) t f = rw (other_byte x f.0) (ap (onto_first x) (first_of xs t f.1))

pub last_of : (l : List ℕ) → Free 10 l → lines l ≡ l ∷ []
last_of [] f = refl
last_of (x ∷ xs) f = rw (other_byte x f.0) (ap (onto_first x) (last_of xs f.1))

more : (n : ℕ) → (suc n == 0) ≡ false
more n = grind (arith, nat_tests)

-- the text after a line is left if it has a byte
unless : (t : Bor (List ℕ)) (xs : List ℕ) → xs ≡ t.now → unless_empty xs (lines xs) ≡ lines_left (then_some (not (length xs == 0)) t)
unless t [] e = refl
unless t (x ∷ xs) e = rw (more (length xs)) (ap lines e)

-- the first line that is left, and what is left after it
pub next_line : (text line : List ℕ) (rest next : Option (Bor (List ℕ))) → Free 10 line → MatchOption rest (text ≡ line) (λ t. text ≡ line ++ (10 ∷ t.now))
    → MatchOption rest (next ≡ None) (λ t. next ≡ then_some (not (length t.now == 0)) t) → lines text ≡ line ∷ lines_left next
next_line text line None next f e n = rw n (ap lines e ∙ last_of line f)
next_line text line (Some t) next f e n = rw n (ap lines e ∙ first_of line t.now f ∙ ap (λ (ls : List (List ℕ)). line ∷ ls) (unless t t.now refl))
