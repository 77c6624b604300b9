-- The lines of a pool that is put together of two, looked at one place further, or read for a station that is not on the roll. Assumes nothing.
use Rattle.std.specs.Prelude.{◌≡◌, ℕ, suc, ◌+◌, ◌<◌, ◌≤◌, Bool, true, false, cond, List, [], ◌∷◌, ◌++◌, length, take, slice_index_or, refl}
use Rattle.std.proofs.Common.{sym, ap, ◌∙◌, arith}
use Rattle.std.proofs.lemmas.List.{take_more, length-append, append-nil}
use Rattle.vote.specs.Mask.{has}
use Rattle.vote.specs.Masks.{has_off}
use Rattle.pool.specs.Pool.{line_of, Listed}
use Rattle.pool.specs.declared.place.Place.{Place}

module _ {T : Type 0} where
  pub cond_append : (b : Bool) (f : T) (l r : List T) → cond b (f ∷ (l ++ r)) (l ++ r) ≡ cond b (f ∷ l) l ++ r
  cond_append true f l r = refl
  cond_append false f l r = refl

  pub line_append : (s : ℕ) (ps qs : List (Place T)) → line_of s (ps ++ qs) ≡ line_of s ps ++ line_of s qs
  line_append s [] qs = refl
  line_append s (p ∷ ps) qs = grind (arith, line_append s ps qs)

  -- the frame of p if it waits for s
  abbrev pub one_of : ℕ → Place T → List T
  one_of s p = cond (has p.waits s) (p.frame ∷ []) []

  -- one place more of the pool is looked at
  module _ (s : ℕ) (ps : List (Place T)) (i : ℕ) (p : Place T) (h : i < length ps) (read : p ≡ slice_index_or ps i p) where
    line_more : line_of s (take (i + 1) ps) ≡ line_of s (take i ps) ++ one_of s p
    line_more = ap (line_of s) (take_more ps i p h) ∙ line_append s (take i ps) (slice_index_or ps i p ∷ []) ∙ ap (λ q. line_of s (take i ps) ++ one_of s q) (sym read)

    pub line_taken : has p.waits s ≡ true → length (line_of s (take (i + 1) ps)) ≡ length (line_of s (take i ps)) + 1
    line_taken b = ap length (line_more ∙ ap (λ (t : Bool). line_of s (take i ps) ++ cond t (p.frame ∷ []) []) b)
        ∙ length-append (line_of s (take i ps)) (p.frame ∷ [])

    pub line_passed : has p.waits s ≡ false → line_of s (take (i + 1) ps) ≡ line_of s (take i ps)
    line_passed b = line_more ∙ ap (λ (t : Bool). line_of s (take i ps) ++ cond t (p.frame ∷ []) []) b ∙ append-nil (line_of s (take i ps))

  -- no frame waits for a station that is not on the roll
  pub line_off : (roll s : ℕ) (ps : List (Place T)) → roll ≤ s → Listed roll ps → line_of s ps ≡ []
  line_off roll s [] h listed = refl
  line_off roll s (p ∷ ps) h listed =
      let b : has p.waits s ≡ false = has_off roll p.waits s (listed 0 p (omega arith)) h in
      rw b (line_off roll s ps h (λ k d l. listed (suc k) d (omega arith)))
