-- Making one more station, and a new ring. Assumes nothing.
use Rattle.std.proofs.Common.{◌≡◌, ℕ, zero, suc, ◌+◌, ◌-◌, ◌<◌, ◌≤◌, List, [], ◌∷◌, ◌++◌, map, length, sym, refl, ap, ◌∙◌, arith}
use mathlib.Core.List.{map-append}
use Rattle.std.proofs.lemmas.List.{length-map, append_assoc, append-nil}
use Rattle.protocol.specs.declared.frame.Frame.{Frame}
use Rattle.wires.specs.Lines.{Lines, silent}
use Rattle.station.specs.Model.{Model, new_model}
use Rattle.runs.specs.Rings.{Rules, Ring, new_stations, new_ring}

module _ {S : Type 0} (roll : ℕ) (b : S) where
  -- the next station to make, and those after it
  left : (s k : ℕ) → s < k → new_stations roll b s (k - s) ≡ new_model s roll b ∷ new_stations roll b (s + 1) (k - (s + 1))
  unfolding new_stations
  left s k l =
      let e : k - s ≡ suc (k - (s + 1)) = omega (arith, l) in
      let f : suc s ≡ s + 1 = omega arith in
      ap (new_stations roll b s) e ∙ ap (λ n. new_model s roll b ∷ new_stations roll b n (k - (s + 1))) f

  pub one_more : {X : Type 0} (f : X → Model S) (xs ys : List X) (x : X) (s : ℕ) (all : List (Model S)) → s < roll → ys ≡ xs ++ x ∷ [] → f x ≡ new_model s roll b →
      map f xs ++ new_stations roll b s (roll - s) ≡ all → map f ys ++ new_stations roll b (s + 1) (roll - (s + 1)) ≡ all
  one_more f xs ys x s all l e h i =
      ap (λ z. map f z ++ rest) e ∙
      (ap (λ z. z ++ rest) (map-append f xs (x ∷ [])) ∙
      (append_assoc (map f xs) (f x ∷ []) rest ∙
      (ap (λ z. map f xs ++ z ∷ rest) h ∙
      (ap (λ z. map f xs ++ z) (sym (left s roll l)) ∙ i))))
    where
      rest : List (Model S)
      rest = new_stations roll b (s + 1) (roll - (s + 1))

  -- at last none is left
  pub all_made : (xs : List (Model S)) (s : ℕ) (all : List (Model S)) → roll ≤ s → xs ++ new_stations roll b s (roll - s) ≡ all → xs ≡ all
  unfolding new_stations
  all_made xs s all l e =
      let z : roll - s ≡ 0 = omega (arith, l) in
      sym (append-nil xs) ∙ (ap (λ k. xs ++ new_stations roll b s k) (sym z) ∙ e)

  how_many : (s k : ℕ) → length (new_stations roll b s k) ≡ k
  unfolding new_stations
  how_many s zero = refl
  how_many s (suc k) = ap suc (how_many (suc s) k)

  pub as_many : {X : Type 0} (f : X → Model S) (xs : List X) → map f xs ≡ new_stations roll b 0 roll → length xs ≡ roll
  as_many f xs e = sym (length-map xs f) ∙ (ap length e ∙ how_many 0 roll)

-- new stations and silent lines make a new ring
pub is_new : {S : Type 0} (R : Rules S) (b : S) (n : ℕ) (xs : List (Model S)) (w : Lines Frame) → n ≡ R.size → xs ≡ new_stations n b 0 n → w ≡ silent n →
    ◌≡◌ {A = Ring S} (record { stations = xs; lines = w; turn = 1 }) (new_ring R b)
unfolding new_ring
is_new R b n xs w e p q =
    (λ i. record { stations = p i; lines = q i; turn = 1 }) ∙ ap (λ (k : ℕ). record { stations = new_stations k b 0 k; lines = silent k; turn = 1 }) e
