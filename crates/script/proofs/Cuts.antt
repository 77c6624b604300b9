-- a list cut at a byte
use Rattle.std.proofs.Common.{◌≡◌, ℕ, suc, ◌+◌, ◌<◌, ◌≤◌, List, [], ◌∷◌, ◌++◌, length, get_or, take, drop, Some, None, MatchOption, Option, Bor, sym, refl, ap, ◌∙◌, append-nil, arith, length-take, get_or-take, drop-drop}
use lib.Seq.{drop-append-add}
use Rattle.script.specs.Words.{Free, tail_at}

-- a list is free of b if no place has it
pub free_by_places : (b : ℕ) (xs : List ℕ) → ((k : ℕ) → k < length xs → get_or xs k 0 ≡ b → ⊥) → Free b xs
free_by_places b [] h = tt
free_by_places b (x ∷ xs) h = (h 0 (omega arith), free_by_places b xs (λ k l. h (suc k) (omega arith)))

pub front_free : (b : ℕ) (xs : List ℕ) (i : ℕ) → i ≤ length xs → ((k : ℕ) → k < i → get_or xs k 0 ≡ b → ⊥) → Free b (take i xs)
front_free b xs i le before =
    free_by_places b (take i xs) (λ k l e. let m : k < i = omega (arith, length-take i xs) in before k m (sym (get_or-take i xs k 0 m) ∙ e))

-- what stands in front of the first b is found once: at b, or at the end
pub same_cut : (b : ℕ) (xs ys t u : List ℕ) → Free b xs → Free b ys → xs ++ (b ∷ t) ≡ ys ++ (b ∷ u) → (xs ≡ ys) × (t ≡ u)
same_cut b [] [] t u f g e = (refl, cc)
same_cut b [] (y ∷ ys) t u f g e = absurd (g.0 (cc))
same_cut b (x ∷ xs) [] t u f g e = absurd (f.0 (cc))
same_cut b (x ∷ xs) (y ∷ ys) t u f g e =
    let h : x ≡ y = cc in
    let r = same_cut b xs ys t u f.1 g.1 (cc) in
    (rw (h, r.0), r.1)

pub no_cut : (b : ℕ) (xs ys u : List ℕ) → Free b xs → xs ≡ ys ++ (b ∷ u) → ⊥
no_cut b [] [] u f e = cc
no_cut b [] (y ∷ ys) u f e = cc
no_cut b (x ∷ xs) [] u f e = f.0 (cc)
no_cut b (x ∷ xs) (y ∷ ys) u f e = no_cut b xs ys u f.1 (cc)

-- where the text from i on is k, `=`, v, a space and t, t is what stands after them
pub at_next : (line k v t : List ℕ) (i : ℕ) → drop i line ≡ k ++ (61 ∷ (v ++ (32 ∷ t))) → t ≡ drop (i + length k + 1 + length v + 1) line
at_next line k v t i e =
    let a : drop (length k + 1) (drop i line) ≡ v ++ (32 ∷ t) = ap (drop (length k + 1)) e ∙ drop-append-add k (61 ∷ (v ++ (32 ∷ t))) 1 in
    let b : drop (length v + 1) (drop (length k + 1) (drop i line)) ≡ t = ap (drop (length v + 1)) a ∙ drop-append-add v (32 ∷ t) 1 in
    let n : i + (length k + 1) + (length v + 1) ≡ i + length k + 1 + length v + 1 = omega arith in
    sym b ∙ ap (drop (length v + 1)) (drop-drop (length k + 1) i line) ∙ drop-drop (length v + 1) (i + (length k + 1)) line
    ∙ ap (λ (x : ℕ). drop x line) n

-- a key, `=` and what was cut from the rest are the line from i on
pub joined : (line k v a : List ℕ) (i : ℕ) (rest : Option (Bor (List ℕ))) (next : Option ℕ) → drop i line ≡ k ++ (61 ∷ a)
    → MatchOption rest (a ≡ v) (λ t. a ≡ v ++ (32 ∷ t.now))
    → MatchOption rest (next ≡ None) (λ t. next ≡ Some (i + length k + 1 + length v + 1))
    → drop i line ≡ k ++ (61 ∷ (v ++ tail_at line next))
joined line k v a i None next w e n = rw n (w ∙ ap (λ (x : List ℕ). k ++ (61 ∷ x)) (e ∙ sym (append-nil v)))
joined line k v a i (Some t) next w e n =
    let u : drop i line ≡ k ++ (61 ∷ (v ++ (32 ∷ t.now))) = w ∙ ap (λ (x : List ℕ). k ++ (61 ∷ x)) e in
    rw n (u ∙ ap (λ (x : List ℕ). k ++ (61 ∷ (v ++ (32 ∷ x)))) (at_next line k v t.now i u))
