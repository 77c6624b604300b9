-- The ways of putting off. Assumes nothing.
use Rattle.std.proofs.Common.{◌≡◌, ℕ, ◌<◌, ◌≤◌, Bool, true, false, cond, eqb, ltb, [], length, sym, ap, ◌∙◌}
use Rattle.std.proofs.lemmas.Bool.{cond-true, cond-false, ne_eqb, lt-ltb, le-ltb}
use Rattle.protocol.specs.Limits.{journal_places}
use Rattle.vote.specs.Mask.{removing}
use Rattle.protocol.specs.declared.entry.Body.TheVariants as body
use Rattle.journal.specs.declared.state.State.TheVariants.{Out}
use Rattle.journal.specs.declared.state.Cause.TheVariants.{Outvoted, Full}
use Rattle.journal.specs.Core.{Core, with_state}
use Rattle.journal.specs.Settle.{view}
use Rattle.turning.specs.Posts.{say_body}
use Rattle.turning.specs.Round.{going_back}
use Rattle.turning.specs.Steps.{put_off, put_off_of, unheard}

module _ (vote : ℕ → Bool) (t : ℕ) (m : Core) (v gone : ℕ) (ev : v ≡ view m) (eg : gone ≡ unheard v m.peers (going_back m.roll m.me) 0) where
  is_gone : put_off vote t m ≡ put_off_of vote t gone m
  unfolding put_off
  is_gone = ap (λ k. put_off_of vote t k m) (sym (eg ∙ ap (λ x. unheard x m.peers (going_back m.roll m.me) 0) ev))

  -- nobody is to be put off
  pub all_heard : gone ≡ 0 → put_off vote t m ≡ (m, [])
  all_heard z = is_gone ∙ ap (λ k. put_off_of vote t k m) z

  module _ (rest : ℕ) (some : gone ≡ 0 → ⊥) (er : rest ≡ removing v gone) where
    of_view : rest ≡ removing (view m) gone
    of_view = er ∙ ap (λ x. removing x gone) ev

    voted : (b : Bool) → b ≡ vote rest → put_off vote t m
        ≡ cond b (cond (ltb (length m.journal) journal_places) (say_body t (body.View rest) m) (with_state (Out Full) m, [])) (with_state (Out Outvoted) m, [])
    voted b e =
        is_gone
        ∙ cond-false (eqb gone 0) _ _ (ne_eqb gone 0 some)
        ∙ ap (λ x. cond (vote x) (cond (ltb (length m.journal) journal_places) (say_body t (body.View x) m) (with_state (Out Full) m, [])) (with_state (Out Outvoted) m, [])) (sym of_view)
        ∙ ap (λ (x : Bool). cond x (cond (ltb (length m.journal) journal_places) (say_body t (body.View rest) m) (with_state (Out Full) m, [])) (with_state (Out Outvoted) m, [])) (sym e)

    pub outvoted : false ≡ vote rest → put_off vote t m ≡ (with_state (Out Outvoted) m, [])
    outvoted e = voted false e

    pub is_full : true ≡ vote rest → journal_places ≤ length m.journal → put_off vote t m ≡ (with_state (Out Full) m, [])
    is_full e long = voted true e ∙ cond-false (ltb (length m.journal) journal_places) _ _ (le-ltb (length m.journal) journal_places long)

    pub put_off_view : true ≡ vote rest → length m.journal < journal_places → put_off vote t m ≡ say_body t (body.View rest) m
    put_off_view e short = voted true e ∙ cond-true (ltb (length m.journal) journal_places) _ _ (lt-ltb (length m.journal) journal_places short)
