-- The set of the stations that pass a test, as a mask. Assumes nothing.
use Rattle.std.specs.Prelude.{ℕ, zero, suc, ◌+◌, ◌*◌, Bool, cond}

-- the mask of those stations below n that pass a test
unfoldable pub mask_of : ℕ → (ℕ → Bool) → ℕ
mask_of zero test = 0
mask_of (suc n) test = cond (test 0) 1 0 + 2 * mask_of n (λ s. test (suc s))
