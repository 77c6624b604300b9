-- The laws of a majority by weight, for any weights. Assumes nothing.
use Rattle.std.specs.Prelude.{◌≡◌, ℕ, zero, suc, ◌+◌, ◌*◌, ◌/◌, ◌%◌, ◌^◌, ◌<◌, ◌≤◌, true, false, ◌&&◌, ◌⊎◌, List, [], ◌∷◌, length, take, drop, nat_lt, slice_index, refl}
use Rattle.std.proofs.Common.{subst, sym, ap, ◌∙◌, inl, inr, arith, zero-mul, one-mul}
use Rattle.std.specs.Int.Count.{ones, ones_step}
use Rattle.std.proofs.lemmas.List.{at_drop_more, at_drop_all, length-replicate, length-take-le}
use Rattle.std.proofs.lemmas.Bool.{ltb-true, lt-ltb, and_parts, le-ltb, and_from, and_left, eq-eqb, eqb-true}
use Rattle.vote.specs.Mask.{everyone, Within, Share}
use Rattle.vote.specs.Majority.{total, weight, majority, heads}
use Rattle.vote.specs.Masks.{has_zero, has_suc, half_below, everyone_below, everyone_odd, everyone_half}

-- the lowest bit adds nothing or the weight
pub bit_weighs : (m w : ℕ) → ((m % 2 ≡ 0) × (m % 2 * w ≡ 0)) ⊎ ((m % 2 ≡ 1) × (m % 2 * w ≡ w))
bit_weighs m w = elim (low m) [ inl e ↦ inl (e, ap (λ x. x * w) e ∙ zero-mul w) | inr e ↦ inr (e, ap (λ x. x * w) e ∙ one-mul w) ]
  where
    low : (n : ℕ) → (n % 2 ≡ 0) ⊎ (n % 2 ≡ 1)
    low n = grind arith

-- a set weighs no more than all
pub weight_le : (ws : List ℕ) (m : ℕ) → weight ws m ≤ total ws
unfolding weight total
weight_le [] m = omega arith
weight_le (w ∷ ws) m = omega (arith, bit_weighs m w, weight_le ws (m / 2))

next_shares : (n a b : ℕ) → Share n (a / 2) (b / 2) → Share (suc n) a b
next_shares n a b h = (suc h.0, omega arith, has_suc a h.0 ∙ h.2, has_suc b h.0 ∙ h.3)

-- sets that together weigh more than all share a station
pub weight_shares : (ws : List ℕ) (a b : ℕ) → total ws < weight ws a + weight ws b → Share (length ws) a b
unfolding weight total
weight_shares [] a b more = absurd (omega arith)
weight_shares (w ∷ ws) a b more =
    elim (bit_weighs a w) [
      | inl p ↦ next_shares (length ws) a b (weight_shares ws (a / 2) (b / 2) (omega (arith, bit_weighs b w)))
      | inr p ↦ elim (bit_weighs b w) [
        | inl q ↦ next_shares (length ws) a b (weight_shares ws (a / 2) (b / 2) (omega arith))
        | inr q ↦ (0, omega arith, has_zero a ∙ eq-eqb (a % 2) 1 p.0, has_zero b ∙ eq-eqb (b % 2) 1 q.0)
      ]
    ]

low_within : (a b : ℕ) → Within a b → a % 2 ≡ 1 → b % 2 ≡ 1
low_within a b within e = eqb-true (b % 2) 1 (sym (has_zero b) ∙ within 0 (has_zero a ∙ eq-eqb (a % 2) 1 e))

half_within : (a b : ℕ) → Within a b → Within (a / 2) (b / 2)
half_within a b within s h = sym (has_suc b s) ∙ within (suc s) (has_suc a s ∙ h)

-- a set in another weighs no more than it
pub weight_grows : (ws : List ℕ) (a b : ℕ) → Within a b → weight ws a ≤ weight ws b
unfolding weight
weight_grows [] a b within = omega arith
weight_grows (w ∷ ws) a b within =
    let rest = weight_grows ws (a / 2) (b / 2) (half_within a b within) in
    elim (bit_weighs a w) [
      | inl p ↦ omega arith
      | inr p ↦ omega (arith, bit_weighs b w, low_within a b within p.0)
    ]

-- the whole roll weighs all
pub weight_everyone : (ws : List ℕ) → weight ws (everyone (length ws)) ≡ total ws
unfolding weight total
weight_everyone [] = refl
weight_everyone (w ∷ ws) = rw (everyone_odd, everyone_half, one-mul) (ap (λ x. w + x) (weight_everyone ws))

-- ---- a loop over the weights: what is left gives the rest

pub total_more : (ws : List ℕ) (i : ℕ) → i < length ws → total (drop i ws) ≡ slice_index ws i + total (drop (i + 1) ws)
unfolding total
total_more ws i h = at_drop_more total ws i 0 h

pub total_all : (ws : List ℕ) (i : ℕ) → length ws ≤ i → total (drop i ws) ≡ 0
unfolding total
total_all ws i h = at_drop_all total ws i h

pub weight_more : (ws : List ℕ) (i m : ℕ) → i < length ws → weight (drop i ws) m ≡ m % 2 * slice_index ws i + weight (drop (i + 1) ws) (m / 2)
unfolding weight
weight_more ws i m h = at_drop_more (λ xs. weight xs m) ws i 0 h

pub weight_all : (ws : List ℕ) (i m : ℕ) → length ws ≤ i → weight (drop i ws) m ≡ 0
unfolding weight
weight_all ws i m h = at_drop_all (λ xs. weight xs m) ws i h

-- ---- a majority, told by the weights

more_than_half : (ws : List ℕ) (m : ℕ) → majority ws m ≡ true → total ws < 2 * weight ws m
unfolding majority
more_than_half ws m p = ltb-true (total ws) (2 * weight ws m) (and_parts (nat_lt m (2 ^ length ws)) (nat_lt (total ws) (2 * weight ws m)) p).1

made_majority : (ws : List ℕ) (m : ℕ) → m < 2 ^ length ws → total ws < 2 * weight ws m → majority ws m ≡ true
unfolding majority
made_majority ws m p q = and_from (nat_lt m (2 ^ length ws)) (nat_lt (total ws) (2 * weight ws m)) (lt-ltb _ _ p) (lt-ltb _ _ q)

-- on the roll the weight decides, and off it there is no majority
pub majority_on : (ws : List ℕ) (m : ℕ) → m ≤ everyone (length ws) → majority ws m ≡ nat_lt (total ws) (2 * weight ws m)
unfolding majority
majority_on ws m on = ap (λ b. b && nat_lt (total ws) (2 * weight ws m)) (lt-ltb m (2 ^ length ws) (omega (arith, everyone_below (length ws))))

pub majority_off : (ws : List ℕ) (m : ℕ) → everyone (length ws) < m → majority ws m ≡ false
unfolding majority everyone
majority_off ws m off = and_left _ _ (le-ltb m (2 ^ length ws) (omega arith))

-- ---- the laws, for n weights

pub majority_roll : {n : ℕ} (ws : List ℕ) → length ws ≡ n → (m : ℕ) → majority ws m ≡ true → m < 2 ^ n
unfolding majority
majority_roll ws len m p =
    subst (λ k. m < 2 ^ k) len (ltb-true m (2 ^ length ws) (and_parts (nat_lt m (2 ^ length ws)) (nat_lt (total ws) (2 * weight ws m)) p).0)

pub majority_shares : {n : ℕ} (ws : List ℕ) → length ws ≡ n → (a b : ℕ) → majority ws a ≡ true → majority ws b ≡ true → Share n a b
majority_shares ws len a b p q =
    subst (λ k. Share k a b) len (weight_shares ws a b (omega (arith, more_than_half ws a p, more_than_half ws b q)))

pub majority_grows : {n : ℕ} (ws : List ℕ) → length ws ≡ n → (a b : ℕ) → Within a b → b < 2 ^ n → majority ws a ≡ true → majority ws b ≡ true
majority_grows ws len a b within below p =
    made_majority ws b (subst (λ k. b < 2 ^ k) (sym len) below) (omega (arith, weight_grows ws a b within, more_than_half ws a p))

pub majority_everyone : {n : ℕ} (ws : List ℕ) → length ws ≡ n → 0 < total ws → majority ws (everyone n) ≡ true
majority_everyone ws len some =
    subst (λ k. majority ws (everyone k) ≡ true) len
    (made_majority ws (everyone (length ws)) (everyone_below (length ws)) (omega (arith, weight_everyone ws)))

-- ---- by heads: each station weighs 1, so a set weighs as many as it has stations

pub total_heads : (n : ℕ) → total (heads n) ≡ n
unfolding total
total_heads zero = refl
total_heads (suc n) = omega (arith, total_heads n)

pub weight_heads : (n m : ℕ) → m < 2 ^ n → weight (heads n) m ≡ ones m
unfolding weight ones
weight_heads zero m below = let z : m ≡ 0 = omega arith in sym (ap ones z)
weight_heads (suc n) m below = omega (arith, ones_step m, weight_heads n (m / 2) (half_below n m below))

pub length_heads : (n : ℕ) → length (heads n) ≡ n
length_heads n = length-replicate n 1

-- the first n of m weights are n
pub length_taken : (n m : ℕ) (ws : List ℕ) → n ≤ m → length ws ≡ m → length (take n ws) ≡ n
length_taken n m ws few all = length-take-le n ws (omega arith)

-- more than half of n heads, as a count of the mask's bits
pub heads_on : (n m : ℕ) → m ≤ everyone n → majority (heads n) m ≡ nat_lt n (2 * ones m)
heads_on n m on =
    let below : m < 2 ^ n = omega (arith, everyone_below n) in
    majority_on (heads n) m (rw length_heads on) ∙ rw (total_heads, weight_heads n m below)

pub heads_off : (n m : ℕ) → everyone n < m → majority (heads n) m ≡ false
heads_off n m off = majority_off (heads n) m (rw length_heads off)
