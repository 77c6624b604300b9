-- The last turn of a journal by recursion, and what a place, an end and a match come to by it. Assumes nothing.
use Rattle.std.proofs.Common.{◌≡◌, ℕ, zero, suc, ◌≤◌, true, ◌&&◌, eqb, ltb, leb, ◌⊎◌, List, [], ◌∷◌, map, length, get_or, take, sym, refl, ap, ◌∙◌, inl, inr, arith}
use Rattle.std.proofs.lemmas.Bool.{leb-true, eqb-true, eq-eqb, le-leb, lt-ltb, and_parts, and_from, or_cases, or_right}
use Rattle.protocol.specs.declared.entry.Entry.{Entry}
use Rattle.journal.specs.Journal.{turn_at, last_turn, end_of, holds, is_start, matches}

-- the turn of the last entry, or `t` where there is none
abbrev pub last_from : ℕ → List Entry → ℕ
last_from t [] = t
last_from t (e ∷ j) = last_from e.turn j

abbrev pub last_of : List Entry → ℕ
last_of j = last_from 0 j

-- the turn of the last of the first p entries
abbrev pub turn_to : List Entry → ℕ → ℕ
turn_to j p = last_of (take p j)

last_is : (t : ℕ) (j : List Entry) → get_or (t ∷ map (λ e. e.turn) j) (length j) 0 ≡ last_from t j
last_is t [] = refl
last_is t (e ∷ j) = last_is e.turn j

pub same_last : (j : List Entry) → last_turn j ≡ last_of j
same_last j = last_is 0 j

turn_is : (t : ℕ) (j : List Entry) (p : ℕ) → p ≤ length j → get_or (t ∷ map (λ e. e.turn) j) p 0 ≡ last_from t (take p j)
turn_is t j zero h = refl
turn_is t [] (suc p) h = absurd (omega arith)
turn_is t (e ∷ j) (suc p) h = turn_is e.turn j p (omega arith)

pub same_turn : (j : List Entry) (p : ℕ) → p ≤ length j → turn_at j p ≡ turn_to j p
same_turn j p h = turn_is 0 j p h

-- the first p entries are there, and end in turn t
abbrev pub EndsAt : List Entry → ℕ → ℕ → Type 0
EndsAt j p t = (p ≤ length j) × (turn_to j p ≡ t)

pub holds_so : (j : List Entry) (p t : ℕ) → holds j p t ≡ true → EndsAt j p t
holds_so j p t h =
    let c = and_parts (leb p (length j)) (eqb (turn_at j p) t) (and_parts (ltb 0 p) (leb p (length j) && eqb (turn_at j p) t) h).1 in
    let l = leb-true p (length j) c.0 in
    (l, sym (same_turn j p l) ∙ eqb-true (turn_at j p) t c.1)

pub matches_so : (j : List Entry) (e : ℕ × ℕ) → matches j e ≡ true → EndsAt j e.0 e.1
matches_so j e h = go (or_cases (is_start e) (holds j e.0 e.1) h)
  where
    start : (p t : ℕ) → p ≡ 0 → t ≡ 0 → EndsAt j p t
    start p t a b = (omega (arith, a), ap (λ k. turn_to j k) a ∙ sym b)

    go : (is_start e ≡ true) ⊎ (holds j e.0 e.1 ≡ true) → EndsAt j e.0 e.1
    go (inl s) = let c = and_parts (eqb e.0 0) (eqb e.1 0) s in start e.0 e.1 (eqb-true e.0 0 c.0) (eqb-true e.1 0 c.1)
    go (inr s) = holds_so j e.0 e.1 s

-- a journal matches its own end
pub end_matches : (j : List Entry) → matches j (end_of j) ≡ true
end_matches [] = refl
end_matches (e ∷ j) =
    or_right (is_start (end_of (e ∷ j))) (holds (e ∷ j) (length (e ∷ j)) (last_turn (e ∷ j)))
    (and_from (ltb 0 (length (e ∷ j))) (leb (length (e ∷ j)) (length (e ∷ j)) && eqb (turn_at (e ∷ j) (length (e ∷ j))) (last_turn (e ∷ j))) (lt-ltb 0 (length (e ∷ j)) (omega arith))
    (and_from (leb (length (e ∷ j)) (length (e ∷ j))) (eqb (turn_at (e ∷ j) (length (e ∷ j))) (last_turn (e ∷ j)))
    (le-leb (length (e ∷ j)) (length (e ∷ j)) (omega arith)) (eq-eqb (turn_at (e ∷ j) (length (e ∷ j))) (last_turn (e ∷ j)) refl)))
