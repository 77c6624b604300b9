use Rattle.std.proofs.Common.{Result, sym, refl, ap, ◌∙◌}
use Rattle.journal.specs.Core.{Core}
use Rattle.journal.specs.Members.{member_core}
use Rattle.protocol.specs.declared.refusal.Refusal.{Refusal}
use Rattle.turning.specs.Posts.{Posting}
use Rattle.turning.specs.declared.token.Token.{Token}
use Rattle.turning.proofs.Posting.{unsaid, ruled}
use Rattle.turning.proofs.Keeping.{keeps_open}
use Rattle.turning.proofs.Calling.{call_refused, call_open, made_token}
use Rattle.turning.proofs.token.opening.open.Goals as goal

pub returns-then-not-is_due : goal.returns-then-not-is_due
returns-then-not-is_due g c =
    let m = member_core c.args.member.now in
    let e = call_refused (g.R.VotingRule.votes c.args.rule.now) c.args.t m c.if-not-is_due.ensures in
    record {
      value = sym (ap (λ (q : Result Token Refusal × Posting). q.0) e);
      turn = ruled (ap (λ (q : Result Token Refusal × Posting). q.1) e) (record { done = unsaid _ m _; home = refl });
      same = (refl, refl);
    }

pub returns : goal.returns
returns g c =
    let m = member_core c.args.member.now in
    let vote = g.R.VotingRule.votes c.args.rule.now in
    let e = call_open vote c.args.t m c.if-not-is_due.ensures in
    let s = ap (λ (z : Core). z.me) c.open_steps-left.ensures.turn.done.station ∙ (keeps_open vote c.args.t m).me in
    record {
      value = made_token vote c.args.t m _ _ s c.open_steps-left.ensures.left c.if-not-is_due.ensures;
      turn = ruled (ap (λ (q : Result Token Refusal × Posting). q.1) e) c.open_steps-left.ensures.turn;
      same = tt;
    }
