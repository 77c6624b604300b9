-- Membership in a mask: by halves, by bits, and after adding or removing. Assumes nothing.
use Rattle.std.specs.Prelude.{◌≡◌, ℕ, zero, suc, ◌-◌, ◌*◌, ◌/◌, ◌%◌, ◌^◌, ◌<◌, ◌≤◌, min, true, false, not, ◌&&◌, ◌||◌, ◌==◌, bit_and, bit_or, nat_eq, nat_lt, refl}
use Rattle.std.proofs.Common.{sym, ap, ◌∙◌, ⊎_elim, arith, div-one}
use Rattle.std.proofs.Math.Nat.{pow-succ', div-div-eq-div-mul}
use Rattle.std.proofs.Math.Dec.{leb-suc-suc, eqb-suc-zero, eqb-zero-suc, eqb-suc-suc}
use Rattle.std.proofs.lemmas.Nat.{pow_pos, pow_below, and_shr, or_shr, and_mod, or_mod, or_lt, and_le_l}
use Rattle.std.proofs.lemmas.Bool.{cond-true, lt-ltb, le-ltb, eq-eqb, ne_eqb, cases_eq, cases_lt, or_left, or_right, and_parts}
use Rattle.std.proofs.lemmas.Bool.Decides.{nat_tests}
use Rattle.vote.specs.Mask.{has, Within, everyone, adding, removing}

-- ---- by halves: station 0 is the lowest bit, and station s + 1 is station s of the half

pub has_zero : (m : ℕ) → has m 0 ≡ (m % 2 == 1)
unfolding has
has_zero m = ap (λ x. nat_eq (x % 2) 1) (div-one m)

pub has_suc : (m s : ℕ) → has m (suc s) ≡ has (m / 2) s
unfolding has
has_suc m s = ap (λ x. nat_eq (x % 2) 1) (ap (λ x. m / x) (pow-succ' 2 s) ∙ sym (div-div-eq-div-mul m 2 (2 ^ s)))

pub has_none : (s : ℕ) → has 0 s ≡ false
has_none zero = has_zero 0
has_none (suc s) = has_suc 0 s ∙ has_none s

pub half_below : (n m : ℕ) → m < 2 ^ suc n → m / 2 < 2 ^ n
half_below n m h = omega (arith, pow-succ' 2 n)

-- no station at or above n where the mask is below 2 ^ n
pub has_off : (n m s : ℕ) → m < 2 ^ n → n ≤ s → has m s ≡ false
has_off zero m s below above = let z : m ≡ 0 = omega arith in ap (λ x. has x s) z ∙ has_none s
has_off (suc n) m zero below above = absurd (omega arith)
has_off (suc n) m (suc s) below above = has_suc m s ∙ has_off n (m / 2) s (half_below n m below) (omega arith)

-- the first n stations, and no others
pub has_everyone : (n s : ℕ) → has (everyone n) s ≡ nat_lt s n
unfolding everyone
has_everyone zero s = has_none s ∙ sym (le-ltb s 0 (omega arith))
has_everyone (suc n) zero = has_zero (2 ^ suc n - 1) ∙ eq-eqb _ 1 (omega (arith, pow-succ' 2 n, pow_pos n)) ∙ sym (lt-ltb 0 (suc n) (omega arith))
has_everyone (suc n) (suc s) = has_suc (2 ^ suc n - 1) s ∙ ap (λ x. has x s) (omega (arith, pow-succ' 2 n)) ∙ has_everyone n s ∙ sym (leb-suc-suc (suc s) n)

pub everyone_below : (n : ℕ) → everyone n < 2 ^ n
unfolding everyone
everyone_below n = omega (arith, pow_pos n)

-- what `whole` answers, at a roll of at most 8
pub everyone_few : (n : ℕ) → n ≤ 8 → everyone (min n 8) ≡ everyone n
everyone_few n few = let e : min n 8 ≡ n = omega arith in ap everyone e

pub everyone_odd : (n : ℕ) → everyone (suc n) % 2 ≡ 1
unfolding everyone
everyone_odd n = omega (arith, pow-succ' 2 n, pow_pos n)

pub everyone_half : (n : ℕ) → everyone (suc n) / 2 ≡ everyone n
unfolding everyone
everyone_half n = omega (arith, pow-succ' 2 n, pow_pos n)

-- masks below 2 ^ n with the same stations are equal
pub same_mask : (n a b : ℕ) → a < 2 ^ n → b < 2 ^ n → ((s : ℕ) → s < n → has a s ≡ has b s) → a ≡ b
same_mask zero a b p q same = omega arith
same_mask (suc n) a b p q same =
    let low : nat_eq (a % 2) 1 ≡ nat_eq (b % 2) 1 = sym (has_zero a) ∙ same 0 (omega arith) ∙ has_zero b in
    let high : a / 2 ≡ b / 2 = same_mask n (a / 2) (b / 2) (half_below n a p) (half_below n b q) (λ s h. sym (has_suc a s) ∙ same (suc s) (omega arith) ∙ has_suc b s) in
    grind (arith, nat_tests)

-- ---- by bits

and_bit : (p q : ℕ) → p < 2 → q < 2 → (bit_and p q == 1) ≡ (p == 1 && q == 1)
and_bit zero zero h k = refl
and_bit zero (suc zero) h k = refl
and_bit zero (suc (suc q)) h k = absurd (omega arith)
and_bit (suc zero) zero h k = refl
and_bit (suc zero) (suc zero) h k = refl
and_bit (suc zero) (suc (suc q)) h k = absurd (omega arith)
and_bit (suc (suc p)) q h k = absurd (omega arith)

or_bit : (p q : ℕ) → p < 2 → q < 2 → (bit_or p q == 1) ≡ (p == 1 || q == 1)
or_bit zero zero h k = refl
or_bit zero (suc zero) h k = refl
or_bit zero (suc (suc q)) h k = absurd (omega arith)
or_bit (suc zero) zero h k = refl
or_bit (suc zero) (suc zero) h k = refl
or_bit (suc zero) (suc (suc q)) h k = absurd (omega arith)
or_bit (suc (suc p)) q h k = absurd (omega arith)

pub has_and : (a b s : ℕ) → has (bit_and a b) s ≡ (has a s && has b s)
unfolding has
has_and a b s =
    ap (λ x. nat_eq x 1) (ap (λ x. x % 2) (and_shr a b s) ∙ and_mod (a / 2 ^ s) (b / 2 ^ s) 1)
    ∙ and_bit (a / 2 ^ s % 2) (b / 2 ^ s % 2) (omega arith) (omega arith)

pub has_or : (a b s : ℕ) → has (bit_or a b) s ≡ (has a s || has b s)
unfolding has
has_or a b s =
    ap (λ x. nat_eq x 1) (ap (λ x. x % 2) (or_shr a b s) ∙ or_mod (a / 2 ^ s) (b / 2 ^ s) 1)
    ∙ or_bit (a / 2 ^ s % 2) (b / 2 ^ s % 2) (omega arith) (omega arith)

-- the mask of one station
pub has_one : (s t : ℕ) → has (2 ^ s) t ≡ (t == s)
has_one zero zero = has_zero 1
has_one zero (suc t) = has_suc 1 t ∙ has_none t ∙ sym (eqb-suc-zero t)
has_one (suc s) zero = has_zero (2 ^ suc s) ∙ ne_eqb _ 1 (λ e. omega (arith, pow-succ' 2 s)) ∙ sym (eqb-zero-suc s)
has_one (suc s) (suc t) = has_suc (2 ^ suc s) t ∙ ap (λ x. has x t) (omega (arith, pow-succ' 2 s)) ∙ has_one s t ∙ sym (eqb-suc-suc t s)

low_of_others : (h m : ℕ) → m < 2 * h → ((2 * h - 1 - m) % 2 == 1) ≡ not (m % 2 == 1)
low_of_others h m below = grind (arith, nat_tests)

-- the complement within the first n stations
pub has_others : (n m s : ℕ) → m < 2 ^ n → s < n → has (2 ^ n - 1 - m) s ≡ not (has m s)
has_others zero m s below on = absurd (omega arith)
has_others (suc n) m zero below on = has_zero (2 ^ suc n - 1 - m) ∙ ap (λ x. nat_eq ((x - 1 - m) % 2) 1) (pow-succ' 2 n) ∙ low_of_others (2 ^ n) m (omega (arith, pow-succ' 2 n)) ∙ ap not (sym (has_zero m))
has_others (suc n) m (suc s) below on =
    has_suc (2 ^ suc n - 1 - m) s
    ∙ ap (λ x. has x s) (omega (arith, pow-succ' 2 n))
    ∙ has_others n (m / 2) s (half_below n m below) (omega arith)
    ∙ ap not (sym (has_suc m s))

-- ---- after adding and removing

pub has_adding : (m s t : ℕ) → s < 8 → has (adding m s) t ≡ (has m t || t == s)
unfolding adding
has_adding m s t on =
    ap (λ x. has x t) (cond-true (nat_lt s 8) (bit_or m (2 ^ s)) m (lt-ltb s 8 on)) ∙ has_or m (2 ^ s) t ∙ ap (λ x. has m t || x) (has_one s t)

pub has_removing : (m o t : ℕ) → m < 256 → o < 256 → has (removing m o) t ≡ (has m t && not (has o t))
has_removing m o t p q =
    has_and m (255 - o) t
    ∙ ⊎_elim
    (λ h. ap (λ x. has m t && x) (has_others 8 o t q h))
    (λ h. let off : has m t ≡ false = has_off 8 m t p h in ap (λ x. x && has (255 - o) t) off ∙ sym (ap (λ x. x && not (has o t)) off))
    (cases_lt t 8)

pub has_added : (m s : ℕ) → s < 8 → has (adding m s) s ≡ true
has_added m s on = has_adding m s s on ∙ or_right (has m s) (s == s) (eq-eqb s s refl)

pub within_adding : (m s : ℕ) → s < 8 → Within m (adding m s)
within_adding m s on t h = has_adding m s t on ∙ or_left (has m t) (t == s) h

pub adding_below : (n m s : ℕ) → n ≤ 8 → s < n → m < 2 ^ n → adding m s < 2 ^ n
unfolding adding
adding_below n m s few on below =
    rw (cond-true (nat_lt s 8) (bit_or m (2 ^ s)) m (lt-ltb s 8 (omega arith))) (or_lt n m (2 ^ s) below (pow_below s n on))

pub within_removing : (m o : ℕ) → Within (removing m o) m
within_removing m o t h = (and_parts (has m t) (has (255 - o) t) (sym (has_and m (255 - o) t) ∙ h)).0

pub removing_le : (m o : ℕ) → removing m o ≤ m
removing_le m o = and_le_l m (255 - o)

-- ---- one station alone, and without one station

pub has_alone : (s t : ℕ) → s < 8 → has (adding 0 s) t ≡ (t == s)
has_alone s t on = has_adding 0 s t on ∙ ap (λ x. x || t == s) (has_none t)

pub has_lacking : (m s t : ℕ) → m < 256 → s < 8 → has (removing m (adding 0 s)) t ≡ (has m t && not (t == s))
has_lacking m s t small on =
    has_removing m (adding 0 s) t small (adding_below 8 0 s (omega arith) on (omega arith)) ∙ ap (λ x. has m t && not x) (has_alone s t on)

-- a mask that is not 0 has a station
pub has_some : (n m : ℕ) → m < 2 ^ n → 0 < m → (s : ℕ) × (s < n) × (has m s ≡ true)
has_some zero m below some = absurd (omega arith)
has_some (suc n) m below some = ⊎_elim
    (λ (odd : m % 2 ≡ 1). (0, omega arith, has_zero m ∙ eq-eqb (m % 2) 1 odd))
    (λ (even : m % 2 ≡ 1 → ⊥).
    let half = has_some n (m / 2) (half_below n m below) (omega arith) in
    (suc half.0, omega (arith, half.1), has_suc m half.0 ∙ half.2))
    (cases_eq (m % 2) 1)
