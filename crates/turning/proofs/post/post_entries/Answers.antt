use Rattle.std.proofs.Common.{sym, ◌∙◌}
use Rattle.std.proofs.lemmas.List.{at_drop_more, at_drop_all}
use Rattle.turning.specs.Posts.{frames_of}
use Rattle.wires.specs.Calls.{posted_all}
use Rattle.turning.proofs.Posting.{entries_more, entries_none}
use Rattle.turning.proofs.post.post_entries.Goals as goal

pub loop-e-preserved : goal.loop-e-preserved
loop-e-preserved g c =
    let L = g.W.Wire.lines in
    let s = c.args.me in
    entries_more s c.loop-e.last _ _ (L c.loop-e.wire) _ c.post.ensures.after
    ∙ (sym (at_drop_more (λ es. posted_all (L c.loop-e.wire) s (frames_of s c.loop-e.last es)) c.args.entries.now c.loop-e.e-index _ c.loop-e-test.true)
    ∙ c.loop-e.invariant)

pub returns : goal.returns
returns g c =
    let L = g.W.Wire.lines in
    let s = c.args.me in
    sym (entries_none s c.loop-e.last (L c.loop-e.wire))
    ∙ (sym (at_drop_all (λ es. posted_all (L c.loop-e.wire) s (frames_of s c.loop-e.last es)) c.args.entries.now c.loop-e.e-index c.loop-e-test.false)
    ∙ c.loop-e.invariant)
