-- Places round a ring of n stations.
use Rattle.std.proofs.Common.{◌≡◌, ℕ, zero, suc, ◌+◌, ◌-◌, ◌%◌, ◌<◌, ◌≤◌, ◌⊎◌, sym, ap, ◌∙◌, inl, inr, mod-lt, mod-eq_of_lt, arith}
use native.Mathlib.Nat.{add-mod_right, mod-add-mod}
use Rattle.std.specs.List.{AllByRecursion as All}
use Rattle.std.proofs.lemmas.Bool.{cases_lt}
use Rattle.turning.specs.Round.{around, count_back, going_back}

pub shift_low : (n a b : ℕ) → a + b < n → (a + b) % n ≡ a + b
shift_low n a b l = mod-eq_of_lt l

pub shift_high : (n a b : ℕ) → a < n → b < n → n ≤ a + b → (a + b) % n ≡ (a + b) - n
shift_high n a b la lb l =
    let e : a + b ≡ ((a + b) - n) + n = omega arith in
    let low : (a + b) - n < n = omega arith in
    ap (λ z. z % n) e ∙ (add-mod_right ((a + b) - n) n ∙ mod-eq_of_lt low)

pub shift_apart : (n s k : ℕ) → s < n → 1 ≤ k → k < n → ((s + k) % n < n) × ((s + k) % n ≡ s → ⊥)
shift_apart n s k ls lo hi = go (cases_lt (s + k) n)
  where
    go : (s + k < n) ⊎ (n ≤ s + k) → ((s + k) % n < n) × ((s + k) % n ≡ s → ⊥)
    go (inl l) = let e = shift_low n s k l in (omega arith, λ q. omega (arith, q, e))
    go (inr l) = let e = shift_high n s k ls hi l in (omega arith, λ q. omega (arith, q, e))

pub same_residue : (n a b : ℕ) → 1 ≤ n → a % n ≡ b % n → a ≤ b → b < a + n → a ≡ b
same_residue n a b pos e l h = go (cases_lt (a % n + (b - a)) n)
  where
    low : a % n < n
    low = mod-lt a pos

    moved : (a % n + (b - a)) % n ≡ b % n
    moved = mod-add-mod a n (b - a) ∙ ap (λ z. z % n) (let q : a + (b - a) ≡ b = omega arith in q)

    go : (a % n + (b - a) < n) ⊎ (n ≤ a % n + (b - a)) → a ≡ b
    go (inl k) = let q = shift_low n (a % n) (b - a) k in omega (arith, moved, e)
    go (inr k) = let q = shift_high n (a % n) (b - a) low (omega arith) k in omega (arith, moved, e)

back_all : (n s k : ℕ) → s < n → k < n → All (λ m. (m < n) × (m ≡ s → ⊥)) (count_back n s k)
unfolding count_back around
back_all n s zero ls lk = tt
back_all n s (suc k) ls lk = (shift_apart n s (suc k) ls (omega arith) lk, back_all n s k ls (omega arith))

-- going back from s one meets stations of the roll other than s
pub back_others : (n s : ℕ) → s < n → All (λ m. (m < n) × (m ≡ s → ⊥)) (going_back n s)
back_others n s l = back_all n s (n - 1) l (omega arith)

-- one station is some way on from another
pub offset : (n m q : ℕ) → m < n → q < n → (q ≡ m → ⊥) → (d : ℕ) × (1 ≤ d) × (d < n) × ((m + d) % n ≡ q)
offset n m q lm lq ne = go (cases_lt m q)
  where
    go : (m < q) ⊎ (q ≤ m) → (d : ℕ) × (1 ≤ d) × (d < n) × ((m + d) % n ≡ q)
    go (inl l) = (q - m, omega arith, omega arith, (let e = shift_low n m (q - m) (omega arith) in omega (arith, e)))
    go (inr l) =
        let apart : q < m = omega (arith, ne) in
        ((q + n) - m, omega arith, omega arith, (let e = shift_high n m ((q + n) - m) lm (omega arith) (omega arith) in omega (arith, e)))

pub shift_same : (n m d e : ℕ) → m < n → d < n → e < n → (m + d) % n ≡ (m + e) % n → d ≡ e
shift_same n m d e lm ld le h = go (cases_lt (m + d) n) (cases_lt (m + e) n)
  where
    go : (m + d < n) ⊎ (n ≤ m + d) → (m + e < n) ⊎ (n ≤ m + e) → d ≡ e
    go (inl a) (inl b) = omega (arith, shift_low n m d a, shift_low n m e b, h)
    go (inl a) (inr b) = omega (arith, shift_low n m d a, shift_high n m e lm le b, h)
    go (inr a) (inl b) = omega (arith, shift_high n m d lm ld a, shift_low n m e b, h)
    go (inr a) (inr b) = omega (arith, shift_high n m d lm ld a, shift_high n m e lm le b, h)

-- from s on by j one comes to m; from m on by i - j to where i from s leads, and by n - j to s again
pub shift_between : (n s m i j : ℕ) → (s + j) % n ≡ m → j ≤ i → (m + (i - j)) % n ≡ (s + i) % n
shift_between n s m i j e l =
    ap (λ z. (z + (i - j)) % n) (sym e) ∙
    (mod-add-mod (s + j) n (i - j) ∙ ap (λ z. z % n) (let q : (s + j) + (i - j) ≡ s + i = omega arith in q))

pub shift_round : (n s m j : ℕ) → s < n → j ≤ n → (s + j) % n ≡ m → (m + (n - j)) % n ≡ s
shift_round n s m j l k e = shift_between n s m n j e k ∙ (add-mod_right s n ∙ mod-eq_of_lt l)
