use Rattle.std.proofs.Common.{◌≡◌, ℕ, List, [], ◌∷◌, sym, refl, ap, ◌∙◌}
use Rattle.std.specs.List.{push}
use Rattle.protocol.specs.declared.entry.Body.{Body}
use Rattle.protocol.specs.declared.entry.Entry.{Entry}
use Rattle.journal.specs.Journal.{newest_view, view_after}
use Rattle.journal.proofs.reading.view_of.Goals as goal

pushed : (w : ℕ) (es : List Entry) (e : Entry) → newest_view w (push es e) ≡ view_after (newest_view w es) e.body
pushed w [] e = refl
pushed w (x ∷ es) e = pushed (view_after w x.body) es e

-- the last entry leaves a view of the one before it
last_leaves : (w : ℕ) (zs es : List Entry) (e : Entry) (b : Body) → zs ≡ push es e → e.body ≡ b → view_after (newest_view w es) b ≡ newest_view w zs
last_leaves w zs es e b h k = sym (ap (newest_view w) h ∙ pushed w es e ∙ ap (view_after (newest_view w es)) k)

pub loop-e-preserved : goal.loop-e-preserved
loop-e-preserved c = last_leaves _ _ _ _ _ c.in-Some.ensures.steps c.in_default.is ∙ c.loop-e.invariant

pub returns-in-View : goal.returns-in-View
returns-in-View c = last_leaves _ _ _ _ _ c.in-Some.ensures.steps c.in-View.is ∙ c.loop-e.invariant
