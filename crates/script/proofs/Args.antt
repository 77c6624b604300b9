-- Numbers under a key, and what follows them.
use Rattle.std.proofs.Common.{◌≡◌, ℕ, ◌^◌, ◌<◌, List, [], ◌∷◌, ◌++◌, drop, Some, None, MatchOption, codes, decimal, Option, sym, refl, ◌∙◌, subst, arith, Bor, rules}
use Rattle.std.proofs.lemmas.Str.Parse.{digit_at}
use Rattle.script.specs.Words.{Free, tail_at, IsField}
use Rattle.script.specs.declared.words.Word.{Word}
use Rattle.script.specs.declared.words.Word.TheVariants.{Key, Value}
use Rattle.script.specs.Parts.{numbered, Follows}
use Rattle.script.proofs.Cuts.{free_by_places, same_cut, no_cut}
use Rattle.script.proofs.Options.{on_each}
use Rattle.script.proofs.Decimal.{all_digits, small}
use Rattle.std.proofs.lemmas.Fmt.{decimal_injective}

-- digits hold no space
pub free_decimal : (n : ℕ) → n < 2 ^ 32 → Free 32 (decimal n)
free_decimal n h = free_by_places 32 (decimal n) (λ k l e. omega (arith, digit_at (decimal n) k (all_digits n h) l))

-- a word ends at the first space, or at the end
pub same_word : (v w s t : List ℕ) → Free 32 v → Free 32 w → Follows s → Follows t → v ++ s ≡ w ++ t → (v ≡ w) × (s ≡ t)
same_word [] [] s t f g a b e = (refl, e)
same_word [] (y ∷ ys) [] t f g a b e = cc
same_word [] (y ∷ ys) (x ∷ s) t f g a b e = let h : x ≡ y = cc in absurd (g.0 (sym h ∙ a))
same_word (x ∷ xs) [] s [] f g a b e = cc
same_word (x ∷ xs) [] s (y ∷ t) f g a b e = let h : x ≡ y = cc in absurd (f.0 (h ∙ b))
same_word (x ∷ xs) (y ∷ ys) s t f g a b e =
    let h : x ≡ y = cc in
    let r = same_word xs ys s t f.1 g.1 a b (cc) in
    (rw (h, r.0), r.1)

pub follows_tail : (line : List ℕ) (o : Option ℕ) → Follows (tail_at line o)
follows_tail line None = tt
follows_tail line (Some p) = refl

-- two ways to write a number under one key are one
pub peel : (key : List ℕ) (m n : ℕ) (s t : List ℕ) → Free 61 key → m < 2 ^ 32 → n < 2 ^ 32 → Follows s → Follows t → numbered key m s ≡ numbered key n t
    → (m ≡ n) × (s ≡ t)
peel key m n s t f hm hn a b e =
    let c = same_cut 61 key key _ _ f f (cc) in
    let w = same_word (decimal m) (decimal n) s t (free_decimal m hm) (free_decimal n hn) a b c.1 in
    (decimal_injective m n (small m hm) (small n hn) w.0, w.1)

module _ (key text : List ℕ) (f : Free 61 key) where
  -- no `=` in the text
  pub no_field : Free 61 text → (n : ℕ) (t : List ℕ) → n < 2 ^ 32 → Follows t → 32 ∷ text ≡ numbered key n t → ⊥
  no_field g n t h a e = no_cut 61 text key (decimal n ++ t) g (cc)

  module _ (k v s : List ℕ) (fk : Free 61 k) (fv : Free 32 v) (cuts : text ≡ k ++ (61 ∷ (v ++ s))) where
    pub other_key : (k ≡ key → ⊥) → (n : ℕ) (t : List ℕ) → n < 2 ^ 32 → Follows t → 32 ∷ text ≡ numbered key n t → ⊥
    other_key ne n t h a e = ne (same_cut 61 k key (v ++ s) (decimal n ++ t) fk f (cc)).0

    pub no_number : ((n : ℕ) → n < 2 ^ 32 → v ≡ decimal n → ⊥) → Follows s → (n : ℕ) (t : List ℕ) → n < 2 ^ 32 → Follows t
        → 32 ∷ text ≡ numbered key n t → ⊥
    no_number none fs n t h a e =
        let c = same_cut 61 k key (v ++ s) (decimal n ++ t) fk f (cc) in
        none n h (same_word v (decimal n) s t fv (free_decimal n h) fs a c.1).0

    -- the value under the key is read as the number that it writes
    pub reads : k ≡ key → Follows s → (r : Option ℕ) → MatchOption r ((n : ℕ) → n < 2 ^ 32 → v ≡ decimal n → ⊥) (λ n. (v ≡ decimal n) × (n < 2 ^ 32))
        → MatchOption r ((n : ℕ) (t : List ℕ) → n < 2 ^ 32 → Follows t → 32 ∷ text ≡ numbered key n t → ⊥) (λ n. (32 ∷ text ≡ numbered key n s) × (n < 2 ^ 32))
    reads ek fs r h = on_each r (λ none. no_number none fs) (λ n p. (cc, p.1)) h

-- a field at the words that a match has found
pub the_field : (line : List ℕ) (at : ℕ) (k v : Word) (o : Option ℕ) (p q : ℕ) (x y : Bor (List ℕ)) → k ≡ Key p x → v ≡ Value q y → IsField line at k v o
    → Free 61 x.now × Free 32 y.now × (drop at line ≡ x.now ++ (61 ∷ (y.now ++ tail_at line o)))
the_field line at k v o p q x y ek ev f =
    let g : IsField line at (Key p x) (Value q y) o = subst (λ (z : Word). IsField line at (Key p x) z o) ev (subst (λ (z : Word). IsField line at z v o) ek f) in
    (g.2, g.3, g.4)

-- the arguments that are left begin at the place of the next key
pub at_place : (line key s : List ℕ) (o : Option ℕ) (p : ℕ) (r : Option ℕ) → o ≡ Some p
    → MatchOption r ((n : ℕ) (t : List ℕ) → n < 2 ^ 32 → Follows t → 32 ∷ drop p line ≡ numbered key n t → ⊥) (λ n. (32 ∷ drop p line ≡ numbered key n s) × (n < 2 ^ 32))
    → MatchOption r ((n : ℕ) (t : List ℕ) → n < 2 ^ 32 → Follows t → tail_at line o ≡ numbered key n t → ⊥) (λ n. (tail_at line o ≡ numbered key n s) × (n < 2 ^ 32))
at_place line key s o p r e h = rw e h

-- where a number is read and the rest is not t, the whole is no number with t after it
pub left_out : (key : List ℕ) (m n : ℕ) (rest t all : List ℕ) → Free 61 key → Follows rest → (all ≡ numbered key m rest) × (m < 2 ^ 32) → n < 2 ^ 32 → Follows t
    → (rest ≡ t → ⊥) → all ≡ numbered key n t → ⊥
left_out key m n rest t all f fr a h ft none e = none (peel key m n rest t f a.1 h fr ft (sym a.0 ∙ e)).1

pub free_at : Free 61 (codes "at")
free_at = search rules

pub free_a : Free 61 (codes "a")
free_a = search rules

pub free_b : Free 61 (codes "b")
free_b = search rules

pub free_c : Free 61 (codes "c")
free_c = search rules

pub free_d : Free 61 (codes "d")
free_d = search rules
