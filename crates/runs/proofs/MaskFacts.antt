-- A mask made of a test has just the stations that pass.
use Rattle.std.proofs.Common.{◌≡◌, ℕ, zero, suc, ◌+◌, ◌*◌, ◌/◌, ◌%◌, ◌^◌, ◌<◌, ◌≤◌, Bool, true, false, cond, eqb, ◌⊎◌, ap, ◌∙◌, inl, inr, arith}
use Rattle.std.proofs.lemmas.Bool.{eq-eqb, ne_eqb, cases_lt, both_ways}
use Rattle.vote.specs.Masks.{has_zero, has_suc, has_off}
use Rattle.vote.specs.Mask.{has, Within}
use Rattle.runs.specs.Masks.{mask_of}

low_bit : (b : Bool) (m : ℕ) → eqb ((cond b 1 0 + 2 * m) % 2) 1 ≡ b
low_bit true m = eq-eqb ((1 + 2 * m) % 2) 1 (omega arith)
low_bit false m = ne_eqb ((0 + 2 * m) % 2) 1 (omega arith)

high_bits : (b : Bool) (m : ℕ) → (cond b 1 0 + 2 * m) / 2 ≡ m
high_bits true m = omega arith
high_bits false m = omega arith

pub has_mask : (n : ℕ) (test : ℕ → Bool) (s : ℕ) → s < n → has (mask_of n test) s ≡ test s
unfolding mask_of
has_mask zero test s h = absurd (omega (arith, h))
has_mask (suc n) test zero h = has_zero (mask_of (suc n) test) ∙ low_bit (test 0) (mask_of n (λ s. test (suc s)))
has_mask (suc n) test (suc s) h =
    has_suc (mask_of (suc n) test) s ∙ ap (λ w. has w s) (high_bits (test 0) (mask_of n (λ k. test (suc k)))) ∙ has_mask n (λ k. test (suc k)) s (omega arith)

below_bit : (b : Bool) (m k : ℕ) → m < k → cond b 1 0 + 2 * m < 2 * k
below_bit true m k h = omega arith
below_bit false m k h = omega arith

pub mask_below : (n : ℕ) (test : ℕ → Bool) → mask_of n test < 2 ^ n
unfolding mask_of
mask_below zero test = omega arith
mask_below (suc n) test = omega (arith, below_bit (test 0) (mask_of n (λ s. test (suc s))) (2 ^ n) (mask_below n (λ s. test (suc s))))

-- a set of the roll is in another that has each of its stations on the roll
pub within_roll : (n v w : ℕ) → v < 2 ^ n → ((q : ℕ) → q < n → has v q ≡ true → has w q ≡ true) → Within v w
within_roll n v w l h s e = go (cases_lt s n)
  where
    go : (s < n) ⊎ (n ≤ s) → has w s ≡ true
    go (inl on) = h s on e
    go (inr off) = absurd (both_ways (has v s) (has_off n v s l off) e)
