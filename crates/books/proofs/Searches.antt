-- What a search for the first element that passes a test finds. Assumes nothing.
use Rattle.std.proofs.Common.{◌≡◌, ℕ, ◌<◌, ◌≤◌, Bool, true, not, eqb, List, length, map, get_or, position, find, Some, None, refl, sym, ap, ◌∙◌, ⊎_elim, Bor, arith}
use Rattle.std.specs.List.{slice_get, position_or_len}
use denote.Param.Members.{Shared, MutLaws, FnLaws}
use Rattle.std.proofs.lemmas.Bool.{both_ways, cond-true, cases_lt, lt-ltb, ltb-true, eqb-false}
use Rattle.std.proofs.lemmas.Fn.{says_at}
use Rattle.std.proofs.lemmas.Option.{cond_some, none-some, slice_get_past}
use Rattle.std.proofs.lemmas.List.{length-map, get_or-map}
use Rattle.std.proofs.lemmas.List.Folds.{find_at}
use Rattle.std.proofs.lemmas.List.Sums.{fails_before_first, prefix_len-le-length}
use Rattle.books.specs.Places.{Tells}

-- a call of a test that tells p answers p, and leaves the test as it was
module _ {F T : Type 0} (calls : Shared F (Bor T × Unit {0}) Bool) (once : MutLaws calls) (stays : FnLaws calls) (test : F) (p : T → Bool) (tells : Tells calls test p) where
  pub told : (x : Bor T) (answer : Bool) (after : F) → calls.steps test (x, tt) answer after → (after ≡ test) × (answer ≡ p x.now)
  told x answer after step =
      (stays.step_stays _ _ _ _ (record { met = step }), tells x.now answer (says_at calls ((once.post_iff _ _ _).1 (after, record { met = step })) refl))

module _ {X : Type 0} (p : X → Bool) (xs : List X) where
  pub place_bound : position_or_len p xs ≤ length xs
  place_bound = prefix_len-le-length (λ x. not (p x)) xs

  pub place_least : (k : ℕ) (d : X) → k < length xs → p (get_or xs k d) ≡ true → position_or_len p xs ≤ k
  place_least k d h t =
      ⊎_elim (λ (lt : k < position_or_len p xs). absurd (both_ways (p (get_or xs k d)) (fails_before_first p xs k d lt) t))
      (λ (ge : position_or_len p xs ≤ k). ge) (cases_lt k (position_or_len p xs))

  pub found_at : (i : ℕ) → Some i ≡ position p xs → (i ≡ position_or_len p xs) × (i < length xs)
  found_at i at =
      let both = cond_some _ _ _ (sym at) in
      let lt = ltb-true (position_or_len p xs) (length xs) both.0 in
      (sym both.1, omega (arith, lt, both.1))

  pub found_none : None ≡ position p xs → position_or_len p xs ≡ length xs
  found_none at =
      let n = position_or_len p xs in
      ⊎_elim (λ (lt : n < length xs). absurd (none-some n (at ∙ cond-true _ _ _ (lt-ltb n (length xs) lt))))
      (λ (ge : length xs ≤ n). let b = place_bound in omega arith) (cases_lt n (length xs))

  -- what stands at the first place is the first element
  pub first_read : (i : ℕ) → Some i ≡ position p xs → slice_get xs i ≡ find p xs
  first_read i at = ap (λ (k : ℕ). slice_get xs k) (found_at i at).0 ∙ sym (find_at p xs)

  pub first_none : None ≡ position p xs → None ≡ find p xs
  first_none at = sym (find_at p xs ∙ slice_get_past xs (position_or_len p xs) (omega (arith, found_none at)))

-- a number that a search by key does not find is the key of none
module _ {X : Type 0} (key : X → ℕ) (xs : List X) where
  pub key_new : (n : ℕ) (x : X) → position_or_len (λ x. eqb (key x) n) xs ≡ length xs → (k : ℕ) (d : ℕ) → k < length (map key xs) → get_or (map key xs) k d ≡ n → ⊥
  key_new n x none k d h e =
      let len = length-map xs key in
      let lt : k < length xs = omega arith in
      eqb-false (key (get_or xs k x)) n (fails_before_first (λ x. eqb (key x) n) xs k x (omega arith)) (sym (get_or-map key xs k x d lt) ∙ e)
