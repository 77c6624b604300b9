-- A pool never lacks a place while a line has room. Assumes nothing.
use Rattle.std.proofs.Common.{◌≡◌, ℕ, zero, suc, ◌+◌, ◌*◌, ◌<◌, ◌≤◌, true, cond, List, [], ◌∷◌, length, refl, arith}
use Rattle.std.proofs.lemmas.Bool.Decides.{nat_tests}
use Rattle.protocol.specs.Limits.{line_places, max_stations, pool_places}
use Rattle.vote.specs.Mask.{has}
use Rattle.vote.specs.Masks.{has_some}
use Rattle.pool.specs.Pool.{line_of, Busy, Listed, Short}
use Rattle.pool.specs.declared.place.Place.{Place}

-- how many of the stations below n are in the mask
abbrev members : ℕ → ℕ → ℕ
members zero m = 0
members (suc n) m = members n m + cond (has m n) 1 0

-- a station of the mask is counted
counted : (n m s : ℕ) → s < n → has m s ≡ true → 0 < members n m
counted zero m s h there = absurd (omega arith)
counted (suc n) m s h there = grind (arith, nat_tests, counted n m s)

module _ {T : Type 0} where
  -- the frames in the lines of the stations below n
  abbrev total : ℕ → List (Place T) → ℕ
  total zero ps = 0
  total (suc n) ps = total n ps + length (line_of n ps)

  total_cons : (n : ℕ) (p : Place T) (ps : List (Place T)) → total n (p ∷ ps) ≡ members n p.waits + total n ps
  total_cons zero p ps = refl
  total_cons (suc n) p ps = grind (arith, nat_tests, total_cons n p ps)

  -- each place is in some line
  places_total : (roll : ℕ) (ps : List (Place T)) → Busy ps → Listed roll ps → length ps ≤ total roll ps
  places_total roll [] busy listed = omega arith
  places_total roll (p ∷ ps) busy listed =
      let some = has_some roll p.waits (listed 0 p (omega arith)) (busy 0 p (omega arith)) in
      omega (arith, counted roll p.waits some.0 some.1 some.2, total_cons roll p ps, places_total roll ps (λ k d h. busy (suc k) d (omega arith)) (λ k d h. listed (suc k) d (omega arith)))

  total_most : (n : ℕ) (ps : List (Place T)) → Short ps → total n ps ≤ n * line_places
  total_most zero ps short = omega arith
  total_most (suc n) ps short = omega (arith, total_most n ps short, short n)

  total_room : (n t : ℕ) (ps : List (Place T)) → Short ps → t < n → length (line_of t ps) < line_places → total n ps < n * line_places
  total_room zero t ps short h room = absurd (omega arith)
  total_room (suc n) t ps short h room = grind (arith, nat_tests, total_most n ps short, total_room n t ps short, short n)

  -- the pool never holds more than 256 frames
  pub never_more : (roll : ℕ) (ps : List (Place T)) → roll ≤ max_stations → Busy ps → Listed roll ps → Short ps → length ps ≤ pool_places
  never_more roll ps few busy listed short = omega (arith, places_total roll ps busy listed, total_most roll ps short)

  -- and fewer while a line has room
  pub room_left : (roll t : ℕ) (ps : List (Place T)) → roll ≤ max_stations → Busy ps → Listed roll ps → Short ps → t < roll → length (line_of t ps) < line_places → length ps < pool_places
  room_left roll t ps few busy listed short h room = omega (arith, places_total roll ps busy listed, total_room roll t ps short h room)
