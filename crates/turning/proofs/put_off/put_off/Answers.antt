use Rattle.std.proofs.Common.{◌<◌, ◌≤◌, List, length, refl, ap, ◌∙◌, arith}
use Rattle.protocol.specs.Limits.{journal_places}
use Rattle.journal.specs.Core.{core_of}
use Rattle.journal.specs.Settle.{view}
use Rattle.protocol.specs.declared.entry.Entry.{Entry}
use Rattle.turning.proofs.Posting.{unsaid, by_rule}
use Rattle.turning.proofs.PuttingOff.{all_heard, outvoted, is_full, put_off_view}
use Rattle.turning.proofs.put_off.put_off.Goals as goal

pub returns-then-gone-eq0 : goal.returns-then-gone-eq0
returns-then-gone-eq0 g c =
    let x = c.args.status.now in
    let m = core_of x (g.J.Journal.entries c.args.journal.now) in
    let vote = g.R.VotingRule.votes c.args.rule.now in
    let ev = c.newest_view-view.ensures ∙ ap (λ (j : List Entry). view (core_of x j)) c.as_slice.ensures.value in
    record { home = refl; turn = by_rule (all_heard vote c.args.t m _ _ ev c.unheard_members-gone.ensures c.if-gone-eq0.true) (unsaid x.me m _) }

pub returns-then-not-has_vote : goal.returns-then-not-has_vote
returns-then-not-has_vote g c =
    let x = c.args.status.now in
    let m = core_of x (g.J.Journal.entries c.args.journal.now) in
    let vote = g.R.VotingRule.votes c.args.rule.now in
    let ev = c.newest_view-view.ensures ∙ ap (λ (j : List Entry). view (core_of x j)) c.as_slice.ensures.value in
    record { home = refl; turn = by_rule (outvoted vote c.args.t m _ _ ev c.unheard_members-gone.ensures _ c.if-gone-eq0.false c.without-rest.ensures c.if-not-has_vote.ensures) (unsaid x.me _ _) }

pub returns-then-as_slice-ge-JOURNAL_PLACES : goal.returns-then-as_slice-ge-JOURNAL_PLACES
returns-then-as_slice-ge-JOURNAL_PLACES g c =
    let x = c.args.status.now in
    let j = g.J.Journal.entries c.args.journal.now in
    let vote = g.R.VotingRule.votes c.args.rule.now in
    let ev = c.newest_view-view.ensures ∙ ap (λ (j : List Entry). view (core_of x j)) c.as_slice.ensures.value in
    let n = ap length c.as_slice-else-not-has_vote.ensures.value in
    let long : journal_places ≤ length j = omega arith in
    record { home = refl; turn = by_rule (is_full vote c.args.t (core_of x j) _ _ ev c.unheard_members-gone.ensures _ c.if-gone-eq0.false c.without-rest.ensures c.if-not-has_vote.ensures long) (unsaid x.me _ _) }

pub returns-else-as_slice-ge-JOURNAL_PLACES : goal.returns-else-as_slice-ge-JOURNAL_PLACES
returns-else-as_slice-ge-JOURNAL_PLACES g c =
    let x = c.args.status.now in
    let j = g.J.Journal.entries c.args.journal.now in
    let vote = g.R.VotingRule.votes c.args.rule.now in
    let ev = c.newest_view-view.ensures ∙ ap (λ (j : List Entry). view (core_of x j)) c.as_slice.ensures.value in
    let n = ap length c.as_slice-else-not-has_vote.ensures.value in
    let short : length j < journal_places = omega arith in
    record { home = c.say_body.ensures.home; turn = by_rule (put_off_view vote c.args.t (core_of x j) _ _ ev c.unheard_members-gone.ensures _ c.if-gone-eq0.false c.without-rest.ensures c.if-not-has_vote.ensures short) c.say_body.ensures.turn }
