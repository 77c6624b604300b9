-- What stands at a place of a list, after changes, for elements of any type. Assumes nothing.
use Rattle.std.proofs.Common.{◌≡◌, ℕ, zero, suc, ◌-◌, ◌<◌, ◌≤◌, leb, ◌⊎◌, List, [], ◌∷◌, ◌++◌, length, set, Some, None, Option, refl, ap, ◌∙◌, inl, inr, arith}
use Rattle.std.specs.List.{slice_get}
use Rattle.std.proofs.lemmas.Bool.{cond-true, cond_both, le-leb, leb-true}
use Rattle.books.specs.Places.{at_place}

module _ {X : Type 0} where
  pub nth_push : (xs : List X) (y : X) (j : ℕ) (x : X) → slice_get xs j ≡ Some x → slice_get (xs ++ (y ∷ [])) j ≡ Some x
  nth_push [] y j x h = let z : ◌≡◌ {A = ℕ} 0 1 = cc in absurd (omega arith)
  nth_push (z ∷ zs) y zero x h = h
  nth_push (z ∷ zs) y (suc j) x h = nth_push zs y j x h

  -- what stands there after a push stood there before, or is the new element
  pub nth_pushed : (xs : List X) (y : X) (j : ℕ) (x : X) → slice_get (xs ++ (y ∷ [])) j ≡ Some x → (slice_get xs j ≡ Some x) ⊎ (y ≡ x)
  nth_pushed [] y zero x h = inr cc
  nth_pushed [] y (suc j) x h = let z : ◌≡◌ {A = ℕ} 0 1 = cc in absurd (omega arith)
  nth_pushed (z ∷ zs) y zero x h = inl h
  nth_pushed (z ∷ zs) y (suc j) x h = nth_pushed zs y j x h

  pub nth_set_here : (xs : List X) (i : ℕ) (y : X) → i < length xs → slice_get (set xs i y) i ≡ Some y
  nth_set_here [] i y h = absurd (omega arith)
  nth_set_here (z ∷ zs) zero y h = refl
  nth_set_here (z ∷ zs) (suc i) y h = nth_set_here zs i y (omega arith)

  pub nth_set_there : (xs : List X) (i j : ℕ) (y : X) → (j ≡ i → ⊥) → slice_get (set xs i y) j ≡ slice_get xs j
  nth_set_there [] i j y ne = refl
  nth_set_there (z ∷ zs) zero zero y ne = absurd (ne refl)
  nth_set_there (z ∷ zs) zero (suc j) y ne = refl
  nth_set_there (z ∷ zs) (suc i) zero y ne = refl
  nth_set_there (z ∷ zs) (suc i) (suc j) y ne = nth_set_there zs i j y (λ e. ne (ap suc e))

  -- places counted from 1, as those counted from 0
  pub at_nth : (p : ℕ) (xs : List X) (x : X) → at_place p xs ≡ Some x → (1 ≤ p) × (slice_get xs (p - 1) ≡ Some x)
  at_nth p xs x =
      cond_both (leb 1 p) (slice_get xs (p - 1)) None (λ (o : Option X). o ≡ Some x → (1 ≤ p) × (slice_get xs (p - 1) ≡ Some x)) (λ e h. (leb-true 1 p e, h))
      (λ e h. let z : ◌≡◌ {A = ℕ} 0 1 = cc in absurd (omega arith))

  pub nth_at : (p : ℕ) (xs : List X) (x : X) → 1 ≤ p → slice_get xs (p - 1) ≡ Some x → at_place p xs ≡ Some x
  nth_at p xs x low h = cond-true (leb 1 p) (slice_get xs (p - 1)) None (le-leb 1 p low) ∙ h
