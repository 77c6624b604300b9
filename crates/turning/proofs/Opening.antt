-- The ways of opening a turn. Assumes nothing.
use Rattle.std.proofs.Common.{◌≡◌, ℕ, Bool, true, false, cond, [], Some, None, Option, sym, refl, ap, ◌∙◌, subst}
use Rattle.journal.specs.Core.{Core, is_running}
use Rattle.protocol.specs.declared.frame.Frame.{Frame}
use Rattle.turning.specs.Calls.{open_on, open_turn, open_wish}
use Rattle.turning.specs.Posts.{Performed, Posting, after}
use Rattle.turning.specs.Steps.{chosen, put_off, serve}
use Rattle.wires.specs.Lines.{Lines}
use Rattle.turning.proofs.Serving.{after_frames}

-- a wish served after step 1
pub served_after : (s t k p : ℕ) (q : Posting) (x y : Core) (w u v : Lines Frame) → q.0.me ≡ s
    → Performed s q x w u → Performed x.me (serve t k p x) y u v → Performed s (after q.1 (serve t k p q.0)) y w v
served_after s t k p q x y w u v es a b =
    let c : Performed q.0.me (serve t k p q.0) y u v = subst (λ (z : Core). Performed z.me (serve t k p z) y u v) a.station b in
    let d : Performed s (serve t k p q.0) y u v = subst (λ z. Performed z (serve t k p q.0) y u v) es c in
    after_frames s q.1 (serve t k p q.0) y w u v a.lines d

module _ (vote : ℕ → Bool) (t : ℕ) (m : Core) where
  opens : (b : Bool) → b ≡ is_running m.state → open_turn vote t m ≡ cond b (open_on t (put_off vote t m)) (0, (m, []))
  unfolding open_turn
  opens b e = ap (λ (c : Bool). cond c (open_on t (put_off vote t m)) (0, (m, []))) (sym e)

  pub not_open : false ≡ is_running m.state → open_turn vote t m ≡ (0, (m, []))
  not_open e = opens false e

  module _ (run : true ≡ is_running m.state) (x : Core) (ex : x ≡ (put_off vote t m).0) where
    goes_on : (b : Bool) (o : Option (ℕ × ℕ)) → b ≡ is_running x.state → o ≡ chosen x
        → open_turn vote t m ≡ cond b (open_wish t o (put_off vote t m)) (0, put_off vote t m)
    goes_on b o eb eo =
        opens true run
        ∙ ap (λ (c : Bool). cond c (open_wish t (chosen (put_off vote t m).0) (put_off vote t m)) (0, put_off vote t m)) (sym (eb ∙ ap (λ (z : Core). is_running z.state) ex))
        ∙ ap (λ (c : Option (ℕ × ℕ)). cond b (open_wish t c (put_off vote t m)) (0, put_off vote t m)) (sym (eo ∙ ap chosen ex))

    pub went_out : false ≡ is_running x.state → open_turn vote t m ≡ (0, put_off vote t m)
    went_out e = goes_on false (chosen x) e refl

    pub no_wish : true ≡ is_running x.state → None ≡ chosen x → open_turn vote t m ≡ (8, put_off vote t m)
    no_wish e o = goes_on true None e o

    pub one_wish : (w : ℕ × ℕ) → true ≡ is_running x.state → Some w ≡ chosen x
        → open_turn vote t m ≡ (0, after (put_off vote t m).1 (serve t w.0 w.1 (put_off vote t m).0))
    one_wish w e o = goes_on true (Some w) e o
