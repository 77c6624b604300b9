-- what is left leads to the same lines
use Rattle.std.proofs.Common.{◌≡◌, drop}
use Rattle.turning.specs.Posts.{frames_of}
use Rattle.wires.specs.Calls.{posted_all}
use Rattle.turning.proofs.post.post_entries.Given as goal

abbrev pub invariant-loop-e : goal.invariant-loop-e
invariant-loop-e g l =
    let L = g.W.Wire.lines in
    posted_all (L l.wire) l.me (frames_of l.me l.last (drop l.e-index l.entries))
    ≡ posted_all (L l.initial.wire) l.me (frames_of l.me l.before l.entries)
