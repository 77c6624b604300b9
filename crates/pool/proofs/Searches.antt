-- A pool searched for one station. Assumes nothing.
use Rattle.std.proofs.Common.{◌≡◌, ℕ, zero, suc, ◌<◌, true, false, List, [], ◌∷◌, length, take, Some, None, Option, refl, subst, arith}
use Rattle.std.specs.List.{filter, AllWithin, HoldsAt}
use Rattle.std.specs.Option.{MatchOption}
use Rattle.std.proofs.lemmas.List.{take_all}
use Rattle.std.proofs.lemmas.Grind.{common_steps}
use Rattle.vote.specs.Mask.{has}
use Rattle.pool.specs.Pool.{line_of, First}
use Rattle.pool.specs.declared.place.Place.{Place}

module _ {T : Type 0} (s : ℕ) where
  -- a line is as long as there are places that wait for the station
  pub line_length : (ps : List (Place T)) → length (filter (λ p. has p.waits s) ps) ≡ length (line_of s ps)
  line_length [] = refl
  line_length (p ∷ ps) = grind (arith, common_steps, line_length ps)

  -- and empty where none does
  pub none_waits : (ps : List (Place T)) (i : ℕ) → AllWithin (λ p. has p.waits s ≡ false) ps 0 i → line_of s (take i ps) ≡ []
  none_waits [] zero none = refl
  none_waits [] (suc i) none = refl
  none_waits (p ∷ ps) zero none = refl
  none_waits (p ∷ ps) (suc i) none = rw (none 0 p (omega arith) (omega arith)) (none_waits ps i (λ k d l h. none (suc k) d (omega arith) (omega arith)))

  -- what `position` finds is the place of the oldest frame
  pub oldest_found : (ps : List (Place T)) (r : Option ℕ)
      → MatchOption r (AllWithin (λ p. has p.waits s ≡ false) ps 0 (length ps)) (λ i. (i < length ps) × HoldsAt (λ p. has p.waits s ≡ true) ps i × AllWithin (λ p. has p.waits s ≡ false) ps 0 i)
      → MatchOption r (line_of s ps ≡ []) (λ i. First s ps i)
  oldest_found ps None none = subst (λ (qs : List (Place T)). line_of s qs ≡ []) (take_all (length ps) ps (omega arith)) (none_waits ps (length ps) none)
  oldest_found ps (Some i) h = record { within = h.0; waits = h.1; before = none_waits ps i h.2 }
