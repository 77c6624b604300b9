-- Where a thing stands in a list, for elements of any type. Assumes nothing.
use Rattle.std.specs.Prelude.{◌≡◌, ℕ, ◌-◌, Bool, cond, List, length, None, Option, ◌≢◌, nat_le, nat_lt}
use Rattle.std.specs.Borrow.{Bor}
use Rattle.std.specs.List.{slice_get, position_or_len, AllPairs}
use Rattle.std.specs.Fn.{FnReturnsAt, Shared}

-- a call of the test answers what p says of the element
abbrev pub Tells : {F T : Type 0} → Shared F (Bor T × Unit {0}) Bool → F → (T → Bool) → Type 0
Tells {F} {T} calls test p = (x : T) (answer : Bool) → FnReturnsAt calls test x answer → answer ≡ p x

-- whether any element passes the test
abbrev pub any_where : {X : Type 0} → (X → Bool) → List X → Bool
any_where test xs = nat_lt (position_or_len test xs) (length xs)

-- no number stands twice
abbrev pub Apart : List ℕ → Type 0
Apart ns = AllPairs (λ m n. m ≢ n) ns

-- what stands at a place, counted from 1: nothing outside
abbrev pub at_place : {X : Type 0} → ℕ → List X → Option X
at_place p xs = cond (nat_le 1 p) (slice_get xs (p - 1)) None
