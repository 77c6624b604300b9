-- Elements by place, also after a write; and what holds of every frame on the lines.
use Rattle.std.proofs.Common.{◌≡◌, ℕ, zero, suc, ◌<◌, not, ◌&&◌, eqb, ltb, ◌⊎◌, List, [], ◌∷◌, ◌++◌, length, take, set, Some, None, sym, refl, ap, subst, inl, inr, arith}
use Rattle.std.specs.List.{AllByRecursion as All, slice_get}
use Rattle.std.proofs.lemmas.Bool.{cond_both}
use Rattle.std.proofs.ByRecursion.{All-push}
use Rattle.protocol.specs.declared.frame.Frame.{Frame}
use Rattle.queue.specs.Contents.{rest}
use Rattle.wires.specs.Lines.{Lines}
use Rattle.wires.specs.Calls.{offering, changed, offered_below, posted, taken, cleared, posted_all}

module _ {X : Type 0} where
  pub some_same : (x y : X) → Some x ≡ Some y → x ≡ y
  some_same x y e = cc

  pub some_none : (x : X) → None ≡ Some x → ⊥
  some_none x e = let z : ◌≡◌ {A = ℕ} 0 1 = cc in omega arith

  pub nth_below : (xs : List X) (i : ℕ) (x : X) → slice_get xs i ≡ Some x → i < length xs
  nth_below [] i x e = absurd (some_none x e)
  nth_below (y ∷ xs) zero x e = omega arith
  nth_below (y ∷ xs) (suc i) x e = omega (arith, nth_below xs i x e)

  pub nth_of : (xs : List X) (i : ℕ) → i < length xs → (x : X) × (slice_get xs i ≡ Some x)
  nth_of [] i l = absurd (omega (arith, l))
  nth_of (y ∷ xs) zero l = (y, refl)
  nth_of (y ∷ xs) (suc i) l = nth_of xs i (omega arith)

  -- after a write: the written element at its place, the old ones elsewhere
  pub nth_set : (xs : List X) (i m : ℕ) (y z : X) → slice_get (set xs i y) m ≡ Some z → ((m ≡ i) × (z ≡ y)) ⊎ ((m ≡ i → ⊥) × (slice_get xs m ≡ Some z))
  nth_set [] i m y z e = absurd (some_none z e)
  nth_set (x ∷ xs) zero zero y z e = inl (refl, sym (some_same y z e))
  nth_set (x ∷ xs) zero (suc m) y z e = inr ((λ q. omega (arith, q)), e)
  nth_set (x ∷ xs) (suc i) zero y z e = inr ((λ q. omega (arith, q)), e)
  nth_set (x ∷ xs) (suc i) (suc m) y z e = go (nth_set xs i m y z e)
    where
      go : ((m ≡ i) × (z ≡ y)) ⊎ ((m ≡ i → ⊥) × (slice_get xs m ≡ Some z)) → ((suc m ≡ suc i) × (z ≡ y)) ⊎ ((suc m ≡ suc i → ⊥) × (slice_get xs m ≡ Some z))
      go (inl h) = inl (ap suc h.0, h.1)
      go (inr h) = inr ((λ q. h.0 (omega (arith, q))), h.1)

  -- writing what is there
  pub set_there : (xs : List X) (i : ℕ) (x : X) → slice_get xs i ≡ Some x → set xs i x ≡ xs
  set_there [] i x e = refl
  set_there (y ∷ xs) zero x e = ap (λ z. z ∷ xs) (sym (some_same y x e))
  set_there (y ∷ xs) (suc i) x e = ap (λ z. y ∷ z) (set_there xs i x e)

  pub nth_front : (a b : List X) (i : ℕ) (x : X) → slice_get a i ≡ Some x → slice_get (a ++ b) i ≡ Some x
  nth_front [] b i x e = absurd (some_none x e)
  nth_front (y ∷ a) b zero x e = e
  nth_front (y ∷ a) b (suc i) x e = nth_front a b i x e

  pub nth_take : (xs : List X) (n i : ℕ) (x : X) → i < n → slice_get xs i ≡ Some x → slice_get (take n xs) i ≡ Some x
  nth_take [] n i x l e = absurd (some_none x e)
  nth_take (y ∷ xs) zero i x l e = absurd (omega (arith, l))
  nth_take (y ∷ xs) (suc n) zero x l e = e
  nth_take (y ∷ xs) (suc n) (suc i) x l e = nth_take xs n i x (omega arith) e

  pub all_nth : (P : X → Type 0) (xs : List X) (i : ℕ) (x : X) → All P xs → slice_get xs i ≡ Some x → P x
  all_nth P [] i x h e = absurd (some_none x e)
  all_nth P (y ∷ xs) zero x h e = subst P (some_same y x e) h.0
  all_nth P (y ∷ xs) (suc i) x h e = all_nth P xs i x h.1 e

  pub take_nth : (xs : List X) (i : ℕ) (x : X) → slice_get xs i ≡ Some x → take (suc i) xs ≡ take i xs ++ x ∷ []
  take_nth [] i x e = absurd (some_none x e)
  take_nth (y ∷ xs) zero x e = ap (λ z. z ∷ []) (some_same y x e)
  take_nth (y ∷ xs) (suc i) x e = ap (λ z. y ∷ z) (take_nth xs i x e)

-- what holds of every frame on the lines still holds after a take, a clear and a post
module _ (P : Frame → Type 0) where
  abbrev pub OnLines : Lines Frame → Type 0
  OnLines w = (m : ℕ) → All P (w.at m)

  all_rest : (l : List Frame) → All P l → All P (rest l)
  all_rest [] h = tt
  all_rest (f ∷ l) h = h.1

  pub all_taken : (w : Lines Frame) (s : ℕ) → OnLines w → OnLines (taken w s)
  all_taken w s h m =
      cond_both (ltb s w.roll) (changed w s rest) w (λ (z : Lines Frame). All P (z.at m))
      (λ _. cond_both (eqb m s) (rest (w.at m)) (w.at m) (All P) (λ _. all_rest (w.at m) (h m)) (λ _. h m))
      (λ _. h m)

  pub all_cleared : (w : Lines Frame) (s : ℕ) → OnLines w → OnLines (cleared w s)
  all_cleared w s h m =
      cond_both (ltb s w.roll) (changed w s (λ _. [])) w (λ (z : Lines Frame). All P (z.at m))
      (λ _. cond_both (eqb m s) [] (w.at m) (All P) (λ _. tt) (λ _. h m))
      (λ _. h m)

  all_post : (w : Lines Frame) (s : ℕ) (f : Frame) → P f → OnLines w → OnLines (posted w s f)
  all_post w s f p h m =
      cond_both (ltb s w.roll) (offered_below w w.roll s f) w (λ (z : Lines Frame). All P (z.at m))
      (λ _. cond_both (ltb m w.roll && not (eqb m s)) (offering f (w.at m)) (w.at m) (All P)
      (λ _. cond_both (ltb (length (w.at m)) 32) (w.at m ++ f ∷ []) (w.at m) (All P) (λ _. All-push P (w.at m) f (h m) p) (λ _. h m))
      (λ _. h m))
      (λ _. h m)

  pub all_posts : (s : ℕ) (fs : List Frame) (w : Lines Frame) → All P fs → OnLines w → OnLines (posted_all w s fs)
  unfolding posted_all
  all_posts s [] w p h = h
  all_posts s (f ∷ fs) w p h = all_posts s fs (posted w s f) p.1 (all_post w s f p.0 h)
