use Rattle.std.proofs.Common.{List, length, refl, ap, ◌∙◌}
use Rattle.journal.specs.Core.{core_of}
use Rattle.journal.specs.Settle.{view}
use Rattle.protocol.specs.declared.entry.Entry.{Entry}
use Rattle.turning.specs.Steps.{lets_in}
use Rattle.turning.proofs.Posting.{unsaid, by_rule}
use Rattle.turning.proofs.Serving.{after_frames, again_lines, serve_in, serve_only}
use Rattle.turning.proofs.serve.serve.Goals as goal

pub returns-then-lets_in : goal.returns-then-lets_in
returns-then-lets_in g c =
    let x = c.args.status.now in
    let j = g.J.Journal.entries c.args.journal.now in
    let L = g.W.Wire.lines in
    let h = c.as_slice-held.ensures.value in
    record {
      home = c.say_body.ensures.home;
      turn = by_rule
          (serve_in c.args.t c.args.station c.args.place (core_of x j) c.newest_view-view.result _ _
          (c.lets_in.ensures ∙ ap (λ (i : List Entry). lets_in (length i) c.args.place) h) c.if-lets_in.true
          (c.newest_view-view.ensures ∙ ap (λ (i : List Entry). view (core_of x i)) h) c.with.ensures)
          (after_frames x.me _ _ _ (L c.args.wire.now) (L c.post_entries.new.wire) _
          (again_lines x.me c.turn_at.result c.args.place c.min-to.result _ j _ _ h c.requires c.min-to.ensures c.turn_at.ensures c.post_entries.ensures)
          c.say_body.ensures.turn);
    }

pub returns-else-lets_in : goal.returns-else-lets_in
returns-else-lets_in g c =
    let x = c.args.status.now in
    let j = g.J.Journal.entries c.args.journal.now in
    let L = g.W.Wire.lines in
    let h = c.as_slice-held.ensures.value in
    record {
      home = refl;
      turn = by_rule
          (serve_only c.args.t c.args.station c.args.place (core_of x j) _
          (c.lets_in.ensures ∙ ap (λ (i : List Entry). lets_in (length i) c.args.place) h) c.if-lets_in.false)
          (after_frames x.me _ _ _ (L c.args.wire.now) (L c.post_entries.new.wire) _
          (again_lines x.me c.turn_at.result c.args.place c.min-to.result _ j _ _ h c.requires c.min-to.ensures c.turn_at.ensures c.post_entries.ensures)
          (unsaid x.me (core_of x j) _));
    }
