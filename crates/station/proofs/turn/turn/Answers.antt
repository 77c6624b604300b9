use Rattle.std.proofs.Common.{rules, ◌≡◌, true, false, Err, Result, sym, ap, ◌∙◌}
use Rattle.journal.specs.Core.{Core}
use Rattle.journal.specs.Members.{member_core}
use Rattle.journal.specs.Settle.{fed, newly_firm}
use Rattle.protocol.specs.declared.refusal.Refusal.{Refusal}
use Rattle.turning.specs.Calls.{waiting}
use Rattle.turning.specs.Steps.{Spoken}
use Rattle.turning.proofs.Posting.{by_rule, by_sender, ruled}
use Rattle.turning.proofs.Keeping.{keeps_call, keeps_said}
use Rattle.station.proofs.Sayings.{ends_more, ends_none}
use Rattle.station.proofs.Turning.{flagged, falls, opened, shut, call_shut, call_done, whole_is}
use Rattle.station.proofs.turn.turn.Goals as goal

pub loop-more-preserved : goal.loop-more-preserved
loop-more-preserved g c =
    let L = g.W.Wire.lines in
    let s = c.open.new.member.status.me in
    let k = c.loop-more.token in
    let ns = waiting c.loop-more.outbox in
    let m = member_core c.loop-more.member in
    let i = c.loop-more.invariant in
    let done = c.say-more.ensures.turn.done in
    let kept = keeps_said k ns m in
    let told = flagged c.say-more.result _ true c.say-more.ensures.value c.if-not-more.false in
    record {
      me = ap (λ (z : Core). z.me) done.station ∙ kept.me ∙ i.me;
      firm = ap (λ (z : Core). z.firm) done.station ∙ kept.firm ∙ i.firm;
      home = c.say-more.ensures.turn.home ∙ i.home;
      rest = ends_more s k _ ns _ m _ (L c.loop-more.wire) _ told c.say-more.ensures.outbox (by_sender i.me done) ∙ i.rest;
    }

pub loop-more-smaller : goal.loop-more-smaller
loop-more-smaller g c =
    falls c.loop-more.token _ (waiting c.loop-more.outbox) (member_core c.loop-more.member)
    (flagged c.say-more.result _ true c.say-more.ensures.value c.if-not-more.false)

pub returns-in_err-token-clause-value : goal.returns-in_err-token-clause-value
returns-in_err-token-clause-value g c =
    let m = member_core c.args.member.now in
    let vote = g.R.VotingRule.votes c.args.rule.now in
    let h = shut vote c.args.t m _ c.in_err-token.ensures.value in
    let a : ◌≡◌ {A = Result (Unit {0}) Refusal} c.from_residual.result (Err c.in_err-token.field-0.0) = search rules in
    a ∙ ap (λ (r : Refusal). Err r) h.1 ∙ sym (ap (λ (q : Result (Unit {0}) Refusal × Spoken). q.0) (call_shut vote c.args.t m (waiting c.args.outbox.now) h.0))

pub returns-in_err-token-clause-outbox : goal.returns-in_err-token-clause-outbox
returns-in_err-token-clause-outbox g c =
    let m = member_core c.args.member.now in
    let vote = g.R.VotingRule.votes c.args.rule.now in
    let h = shut vote c.args.t m _ c.in_err-token.ensures.value in
    sym (ap (λ (q : Result (Unit {0}) Refusal × Spoken). q.1.0) (call_shut vote c.args.t m (waiting c.args.outbox.now) h.0))

pub returns-in_err-token-clause-turn : goal.returns-in_err-token-clause-turn
returns-in_err-token-clause-turn g c =
    let m = member_core c.args.member.now in
    let vote = g.R.VotingRule.votes c.args.rule.now in
    let h = shut vote c.args.t m _ c.in_err-token.ensures.value in
    ruled (ap (λ (q : Result (Unit {0}) Refusal × Spoken). q.1.1) (call_shut vote c.args.t m (waiting c.args.outbox.now) h.0) ∙ sym h.2) c.open.ensures.turn

pub returns : goal.returns
returns g c =
    let b = g.B.Book in
    let L = g.W.Wire.lines in
    let y = c.open.new.member in
    let m = member_core c.args.member.now in
    let ns = waiting c.args.outbox.now in
    let vote = g.R.VotingRule.votes c.args.rule.now in
    let t = c.args.t in
    let k = c.loop-more.token in
    let ks = waiting c.loop-more.outbox in
    let n = member_core c.loop-more.member in
    let i = c.loop-more.invariant in
    let opening = c.open.ensures.turn in
    let saying = c.say-more.ensures.turn in
    let h = opened vote t m _ c.in_ok-token.ensures.value in
    let e = call_done vote t m ns h.0 in
    let kept = keeps_call vote t m in
    let still = keeps_said k ks n in
    let me = ap (λ (z : Core). z.me) opening.done.station ∙ kept.me in
    let firm =
    ap (λ (z : Core). z.firm) saying.done.station ∙ still.firm ∙ i.firm
    ∙ (ap (λ (z : Core). z.firm) opening.done.station ∙ kept.firm) in
    let own = ap (λ (z : Core). z.me) saying.done.station ∙ still.me ∙ i.me in
    let last = ends_none y.status.me k _ ks _ n _ (L c.loop-more.wire) _
    (flagged c.say-more.result _ false c.say-more.ensures.value c.if-not-more.true) c.say-more.ensures.outbox (by_sender i.me saying.done) in
    let w = whole_is vote t m ns y.status.me c.in_ok-token.token c.say-more.result.0 (waiting c.say-more.new.outbox) _ (member_core c.say-more.new.member) _
    (L c.args.wire.now) (L c.open.new.wire) (L c.say-more.new.wire) _
    h.0 me h.1 (by_rule (sym h.2) opening.done) (sym i.rest ∙ last) (by_sender own c.pass.ensures.turn.done) in
    record {
      value = sym (ap (λ (q : Result (Unit {0}) Refusal × Spoken). q.0) e);
      outbox = w.0 ∙ sym (ap (λ (q : Result (Unit {0}) Refusal × Spoken). q.1.0) e);
      turn = record {
        done = by_rule (ap (λ (q : Result (Unit {0}) Refusal × Spoken). q.1.1) e) w.1;
        home = c.pass.ensures.turn.home ∙ saying.home ∙ i.home ∙ opening.home;
      };
      book = c.pass.ensures.book ∙ ap (λ j. fed b.next (b.means c.args.book.now) (newly_firm j (member_core c.pass.new.member))) firm;
      same = tt;
    }
