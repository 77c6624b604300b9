-- How many members a view has, whom the unheard are, and what removing them does.
use Rattle.std.proofs.Common.{◌≡◌, ℕ, zero, suc, ◌+◌, ◌/◌, ◌%◌, ◌^◌, ◌<◌, ◌≤◌, Bool, true, false, cond, not, ◌&&◌, eqb, ◌⊎◌, List, [], ◌∷◌, sym, refl, ap, ◌∙◌, subst, inl, inr, mod-lt, arith}
use Rattle.std.specs.List.{AllByRecursion as All}
use Rattle.std.proofs.lemmas.Nat.{pow_below, pow_pos}
use Rattle.std.proofs.lemmas.Bool.{cond_both, cond-true, cond-false, cases_eq, cases_lt, eqb-true, eq-eqb, or_cases, false≢true, not_from_true, and_right, and_parts, both_ways}
use Rattle.vote.specs.Mask.{has, adding, removing}
use Rattle.vote.specs.Masks.{has_zero, has_suc, has_none, half_below, has_adding, has_added, within_adding, adding_below, has_removing}
use Rattle.journal.specs.declared.peer.Peer.{Peer}
use Rattle.journal.specs.Peers.{peer_at}
use Rattle.turning.specs.Round.{around, count_back, going_back}
use Rattle.turning.specs.Steps.{unheard}
use Rattle.runs.proofs.Circle.{back_others}

-- how many stations below n pass a test
pub tally : ℕ → (ℕ → Bool) → ℕ
tally zero test = 0
tally (suc n) test = cond (test 0) 1 0 + tally n (λ s. test (suc s))

pub tally_most : (n : ℕ) (test : ℕ → Bool) → tally n test ≤ n
unfolding tally
tally_most zero test = omega arith
tally_most (suc n) test =
    omega (arith, tally_most n (λ s. test (suc s)), cond_both (test 0) 1 0 (λ z. z ≤ 1) (λ _. omega arith) (λ _. omega arith))

one_less : (a b : Bool) → (a ≡ true → b ≡ true) → cond a 1 0 ≤ cond b 1 0
one_less true true h = omega arith
one_less true false h = absurd (false≢true (h refl))
one_less false true h = omega arith
one_less false false h = omega arith

pub tally_less : (n : ℕ) (p q : ℕ → Bool) → ((s : ℕ) → s < n → p s ≡ true → q s ≡ true) → tally n p ≤ tally n q
unfolding tally
tally_less zero p q h = omega arith
tally_less (suc n) p q h =
    omega (arith, one_less (p 0) (q 0) (h 0 (omega arith)), tally_less n (λ s. p (suc s)) (λ s. q (suc s)) (λ s l. h (suc s) (omega arith)))

pub tally_fewer : (n : ℕ) (p q : ℕ → Bool) → ((s : ℕ) → s < n → p s ≡ true → q s ≡ true) → (m : ℕ) → m < n → p m ≡ false → q m ≡ true →
    tally n p < tally n q
unfolding tally
tally_fewer zero p q h m l a b = absurd (omega (arith, l))
tally_fewer (suc n) p q h zero l a b =
    let e : ◌≡◌ {A = ℕ} (cond (p 0) 1 0) 0 = ap (λ z. cond z 1 0) a in
    let f : ◌≡◌ {A = ℕ} (cond (q 0) 1 0) 1 = ap (λ z. cond z 1 0) b in
    omega (arith, e, f, tally_less n (λ s. p (suc s)) (λ s. q (suc s)) (λ s k. h (suc s) (omega arith)))
tally_fewer (suc n) p q h (suc m) l a b =
    omega (
      arith,
      one_less (p 0) (q 0) (h 0 (omega arith)),
      tally_fewer n (λ s. p (suc s)) (λ s. q (suc s)) (λ s k. h (suc s) (omega arith)) m (omega arith) a b,
    )

-- how many members
abbrev pub members : ℕ → ℕ → ℕ
members n v = tally n (has v)

-- a set of the roll that is not empty has a station
some_station : (n m : ℕ) → m < 2 ^ n → (m ≡ 0 → ⊥) → (k : ℕ) × (k < n) × (has m k ≡ true)
some_station zero m l h = absurd (h (omega (arith, l)))
some_station (suc n) m l h = go (cases_eq (m % 2) 1) (λ e. some_station n (m / 2) (half_below n m l) (λ q. h (omega (arith, q, e))))
  where
    go : (m % 2 ≡ 1) ⊎ (m % 2 ≡ 1 → ⊥) → ((m % 2 ≡ 1 → ⊥) → (k : ℕ) × (k < n) × (has (m / 2) k ≡ true)) → (k : ℕ) × (k < suc n) × (has m k ≡ true)
    go (inl e) rec = (0, omega arith, has_zero m ∙ eq-eqb (m % 2) 1 e)
    go (inr e) rec = (suc (rec e).0, omega (arith, (rec e).1), has_suc m (rec e).0 ∙ (rec e).2)

-- a mask of a roll of at most 8 has 8 bits
pub eight_bits : (n v : ℕ) → n ≤ 8 → v < 2 ^ n → v < 256
eight_bits n v few l = go (cases_lt n 8)
  where
    go : (n < 8) ⊎ (8 ≤ n) → v < 256
    go (inl h) = omega (arith, pow_below n 8 h, l)
    go (inr h) = let e : n ≡ 8 = omega arith in subst (λ k. v < 2 ^ k) e l

-- a member that is not heard
abbrev pub Missed : ℕ → List Peer → ℕ → Type 0
Missed v ps k = (has v k ≡ true) × ((peer_at ps k).heard ≡ false)

-- the unheard are those already collected, and members of those that one meets, not heard
unheard_so : (Q : ℕ → Type 0) (v : ℕ) (ps : List Peer) (ss : List ℕ) (g k : ℕ) → All (λ s. (s < 8) × Q s) ss → has (unheard v ps ss g) k ≡ true →
    (has g k ≡ true) ⊎ (Q k × Missed v ps k)
unfolding unheard
unheard_so Q v ps [] g k h e = inl e
unheard_so Q v ps (s ∷ ss) g k h e = go (has v s) (peer_at ps s).heard refl refl e (λ q f. unheard_so Q v ps ss q k h.1 f)
  where
    go : (a b : Bool) → has v s ≡ a → (peer_at ps s).heard ≡ b → has (cond a (cond b g (unheard v ps ss (adding g s))) (unheard v ps ss g)) k ≡ true →
        ((q : ℕ) → has (unheard v ps ss q) k ≡ true → (has q k ≡ true) ⊎ (Q k × Missed v ps k)) → (has g k ≡ true) ⊎ (Q k × Missed v ps k)
    go true true i d f rec = inl f
    go true false i d f rec = more (rec (adding g s) f)
      where
        more : (has (adding g s) k ≡ true) ⊎ (Q k × Missed v ps k) → (has g k ≡ true) ⊎ (Q k × Missed v ps k)
        more (inr z) = inr z
        more (inl z) = split (or_cases (has g k) (eqb k s) (sym (has_adding g s k h.0.0) ∙ z))
          where
            split : (has g k ≡ true) ⊎ (eqb k s ≡ true) → (has g k ≡ true) ⊎ (Q k × Missed v ps k)
            split (inl y) = inl y
            split (inr y) = let same = sym (eqb-true k s y) in inr (subst (λ j. Q j × Missed v ps j) same (h.0.1, (i, d)))
    go false b i d f rec = rec g f

unheard_below : (n v : ℕ) (ps : List Peer) (ss : List ℕ) (g : ℕ) → n ≤ 8 → All (λ s. s < n) ss → g < 2 ^ n → unheard v ps ss g < 2 ^ n
unfolding unheard
unheard_below n v ps [] g few h l = l
unheard_below n v ps (s ∷ ss) g few h l =
    cond_both (has v s) _ _ (λ z. z < 2 ^ n)
    (λ _. cond_both (peer_at ps s).heard _ _ (λ z. z < 2 ^ n) (λ _. l) (λ _. unheard_below n v ps ss (adding g s) few h.1 (adding_below n g s few h.0 l)))
    (λ _. unheard_below n v ps ss g few h.1 l)

-- who is collected stays so
unheard_keeps : (v : ℕ) (ps : List Peer) (ss : List ℕ) (g k : ℕ) → All (λ s. s < 8) ss → has g k ≡ true → has (unheard v ps ss g) k ≡ true
unfolding unheard
unheard_keeps v ps [] g k h e = e
unheard_keeps v ps (s ∷ ss) g k h e =
    cond_both (has v s) _ _ (λ z. has z k ≡ true)
    (λ _. cond_both (peer_at ps s).heard _ _ (λ z. has z k ≡ true) (λ _. e) (λ _. unheard_keeps v ps ss (adding g s) k h.1 (within_adding g s h.0 k e)))
    (λ _. unheard_keeps v ps ss g k h.1 e)

-- going back from s on a roll of n
module _ (n s v : ℕ) (ps : List Peer) (few : n ≤ 8) (on : s < n) where
  back_on : (ss : List ℕ) → All (λ k. (k < n) × (k ≡ s → ⊥)) ss → All (λ k. k < n) ss
  back_on [] h = tt
  back_on (k ∷ ss) h = (h.0.0, back_on ss h.1)

  back_eight : (ss : List ℕ) → All (λ k. (k < n) × (k ≡ s → ⊥)) ss → All (λ k. (k < 8) × ((k < n) × (k ≡ s → ⊥))) ss
  back_eight [] h = tt
  back_eight (k ∷ ss) h = ((omega (arith, h.0.0, few), h.0), back_eight ss h.1)

  pub gone_below : unheard v ps (going_back n s) 0 < 2 ^ n
  gone_below = unheard_below n v ps (going_back n s) 0 few (back_on (going_back n s) (back_others n s on)) (pow_pos n)

  -- those who are gone are other stations of the roll, members, and not heard
  pub gone_so : (k : ℕ) → has (unheard v ps (going_back n s) 0) k ≡ true → ((k < n) × (k ≡ s → ⊥)) × Missed v ps k
  gone_so k e = go (unheard_so (λ k. (k < n) × (k ≡ s → ⊥)) v ps (going_back n s) 0 k (back_eight (going_back n s) (back_others n s on)) e)
    where
      go : (has 0 k ≡ true) ⊎ (((k < n) × (k ≡ s → ⊥)) × Missed v ps k) → ((k < n) × (k ≡ s → ⊥)) × Missed v ps k
      go (inl z) = absurd (both_ways (has 0 k) (has_none k) z)
      go (inr z) = z

  pub rest_has : v < 2 ^ n → (k : ℕ) → has (removing v (unheard v ps (going_back n s) 0)) k ≡ (has v k && not (has (unheard v ps (going_back n s) 0) k))
  rest_has low k = has_removing v (unheard v ps (going_back n s) 0) k (eight_bits n v few low) (eight_bits n (unheard v ps (going_back n s) 0) few gone_below)

  pub rest_fewer : v < 2 ^ n → (unheard v ps (going_back n s) 0 ≡ 0 → ⊥) → members n (removing v (unheard v ps (going_back n s) 0)) < members n v
  rest_fewer low some =
      let z = some_station n (unheard v ps (going_back n s) 0) gone_below some in
      tally_fewer n (has (removing v (unheard v ps (going_back n s) 0))) (has v)
      (λ k l i. (and_parts (has v k) (not (has (unheard v ps (going_back n s) 0) k)) (sym (rest_has low k) ∙ i)).0)
      z.0 z.1
      (rest_has low z.0 ∙ and_right (has v z.0) (not (has (unheard v ps (going_back n s) 0) z.0)) (not_from_true (has (unheard v ps (going_back n s) 0) z.0) z.2))
      (gone_so z.0 z.2).1.0

-- a member that is not heard and yet not collected lies behind one that is heard
pub unheard_blocked : (n s v : ℕ) (ps : List Peer) → 1 ≤ n → n ≤ 8 → (m j : ℕ) → (s + j) % n ≡ m → 1 ≤ j → has v m ≡ true → (peer_at ps m).heard ≡ false →
    (k : ℕ) → j ≤ k → (g : ℕ) → has (unheard v ps (count_back n s k) g) m ≡ false → (i : ℕ) × (j < i) × (i ≤ k) × ((peer_at ps ((s + i) % n)).heard ≡ true)
unfolding unheard count_back around
unheard_blocked n s v ps pos few m j at lo mem silent zero l g a = absurd (omega (arith, l, lo))
unheard_blocked n s v ps pos few m j at lo mem silent (suc k) l g a = go (cases_eq j (suc k))
    (λ l' g' a'. let r = unheard_blocked n s v ps pos few m j at lo mem silent k l' g' a' in (r.0, r.1, omega (arith, r.2), r.3))
  where
    Found : Type 0
    Found = (i : ℕ) × (j < i) × (i ≤ suc k) × ((peer_at ps ((s + i) % n)).heard ≡ true)

    h : ℕ
    h = (s + suc k) % n

    eight : (q : ℕ) → (s + q) % n < 8
    eight q = omega (arith, mod-lt (s + q) pos, few)

    all_eight : (q : ℕ) → All (λ z. z < 8) (count_back n s q)
    all_eight zero = tt
    all_eight (suc q) = (eight (suc q), all_eight q)

    after : (b d : Bool) → has v h ≡ b → (peer_at ps h).heard ≡ d →
        has (cond b (cond d g (unheard v ps (count_back n s k) (adding g h))) (unheard v ps (count_back n s k) g)) m ≡ false → j ≤ k →
        (j ≤ k → (g' : ℕ) → has (unheard v ps (count_back n s k) g') m ≡ false → Found) → Found
    after true true e f q l' rec = (suc k, omega arith, omega arith, f)
    after true false e f q l' rec = rec l' (adding g h) q
    after false d e f q l' rec = rec l' g q

    go : (j ≡ suc k) ⊎ (j ≡ suc k → ⊥) → (j ≤ k → (g' : ℕ) → has (unheard v ps (count_back n s k) g') m ≡ false → Found) → Found
    go (inl e) rec =
        let here : h ≡ m = ap (λ z. (s + z) % n) (sym e) ∙ at in
        let mh : has v h ≡ true = ap (has v) here ∙ mem in
        let sh : (peer_at ps h).heard ≡ false = ap (λ z. (peer_at ps z).heard) here ∙ silent in
        absurd (both_ways (has (unheard v ps (count_back n s (suc k)) g) m) a
        (ap (λ z. has z m) (cond-true (has v h) _ _ mh ∙ cond-false (peer_at ps h).heard _ _ sh) ∙
        unheard_keeps v ps (count_back n s k) (adding g h) m (all_eight k) (subst (λ z. has (adding g h) z ≡ true) here (has_added g h (eight (suc k))))))
    go (inr ne) rec = after (has v h) (peer_at ps h).heard refl refl a (omega (arith, ne, l)) rec
