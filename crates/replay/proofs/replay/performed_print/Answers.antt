-- What each part gives makes the print.
use Rattle.std.proofs.Common.{rules, map, vec_items, ap, ◌∙◌}
use Rattle.std.proofs.lemmas.Result.{IfOk-weaker}
use Rattle.vote.specs.Refused.{heads_refused}
use Rattle.vote.specs.declared.heads.Heads.{Heads}
use Rattle.entries.specs.EntryState.{entries_of}
use Rattle.lines.specs.LineWire.{line_lines}
use Rattle.runs.specs.Rings.{result_number}
use Rattle.ring.specs.Meaning.{meaning}
use Rattle.replay.specs.Print.{calls_among}
use Rattle.replay.proofs.Texts.{whole_print}
use Rattle.replay.proofs.replay.performed_print.Goals as goal

pub unreachable-requires-in_default-new : goal.unreachable-requires-in_default-new
unfolding heads_refused
unreachable-requires-in_default-new c = search rules

pub returns-in-Ok-perform : goal.returns-in-Ok-perform
returns-in-Ok-perform c =
    let ring = c.in-Ok-perform.ring in
    let done = c.in-Ok-perform.ensures in
    let size = c.in-Ok-new.ensures.1 in
    let whole =
    whole_print c.args.script.now.roll ring.rule.stations c.roll.result (vec_items c.args.script.now.calls) c.deref-in-Ok-perform.result.now
    c.deref-2.result.now (entries_of c.in_ok-book.book) (meaning entries_of line_lines ring) (map result_number c.deref-in-Ok-perform-2.result.now)
    (ap (λ (h : Heads). h.stations) done.1 ∙ size) (c.roll.ensures ∙ size) c.deref-in-Ok-perform.ensures.value
    (c.deref-2.ensures.value ∙ c.in_ok-calls.ensures ∙ ap calls_among c.deref.ensures.value) c.in_ok-book.ensures done.2.ring
    (ap (map result_number) c.deref-in-Ok-perform-2.ensures.value ∙ done.2.answers_given) in
    IfOk-weaker c.ring_print.result _ _ (λ v e. e ∙ whole) c.ring_print.ensures
