use Rattle.std.proofs.Common.{sym, refl, ap, ◌∙◌}
use Rattle.std.proofs.lemmas.Bool.{true≢false}
use Rattle.journal.specs.Members.{member_core}
use Rattle.turning.specs.Calls.{Said, waiting}
use Rattle.turning.proofs.Posting.{unsaid, ruled}
use Rattle.turning.proofs.Calling.{say_not, say_none, say_one, rest_none}
use Rattle.turning.proofs.token.saying.say.Goals as goal

pub returns-then-not-may_say : goal.returns-then-not-may_say
returns-then-not-may_say g c =
    let m = member_core c.args.member.now in
    let e = say_not c.args.token (waiting c.args.outbox.now) m c.if-not-may_say.ensures in
    record {
      value = sym (ap (λ (q : Said). q.0) e);
      outbox = sym (ap (λ (q : Said). q.1.0) e);
      turn = ruled (ap (λ (q : Said). q.1.1) e) (record { done = unsaid _ m _; home = refl });
      same = λ _. (refl, refl, refl);
    }

pub returns-in_default : goal.returns-in_default
returns-in_default g c =
    let m = member_core c.args.member.now in
    let ns = waiting c.args.outbox.now in
    let o = c.in_default.ensures.value in
    let e = say_none c.args.token ns m c.if-not-may_say.ensures o in
    record {
      value = sym (ap (λ (q : Said). q.0) e);
      outbox = c.next.ensures.after ∙ rest_none ns o ∙ sym (ap (λ (q : Said). q.1.0) e);
      turn = ruled (ap (λ (q : Said). q.1.1) e) (record { done = unsaid _ m _; home = refl });
      same = λ _. (refl, c.in_default.ensures.same refl, refl);
    }

pub returns : goal.returns
returns g c =
    let e = say_one c.args.token (waiting c.args.outbox.now) (member_core c.args.member.now) _ c.if-not-may_say.ensures c.in-Some.ensures.value in
    record {
      value = sym (ap (λ (q : Said). q.0) e);
      outbox = c.next.ensures.after ∙ sym (ap (λ (q : Said). q.1.0) e);
      turn = ruled (ap (λ (q : Said). q.1.1) e) (record { done = c.say_body.ensures.turn; home = c.say_body.ensures.home });
      same = λ e. absurd (true≢false e);
    }
