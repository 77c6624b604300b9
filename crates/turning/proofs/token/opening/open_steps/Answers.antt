use Rattle.std.proofs.Common.{ℕ, List, sym, refl, ap, ◌∙◌}
use Rattle.journal.specs.Core.{core_of}
use Rattle.journal.specs.Members.{member_core}
use Rattle.protocol.specs.declared.entry.Entry.{Entry}
use Rattle.turning.specs.Posts.{Posting}
use Rattle.turning.specs.Steps.{chosen, put_off}
use Rattle.turning.proofs.Posting.{unsaid, ruled}
use Rattle.turning.proofs.Keeping.{keeps_put_off, keeps_serve, within}
use Rattle.turning.proofs.Opening.{served_after, not_open, went_out, no_wish, one_wish}
use Rattle.turning.proofs.token.opening.open_steps.Goals as goal

pub invariant_of-member : goal.invariant_of-member
invariant_of-member g c =
    let m = member_core c.args.member.now in
    record { settled = within m _ _ c.put_off.ensures.turn.station (keeps_put_off (g.R.VotingRule.votes c.args.rule.now) c.args.t m) c.args.member.now.settled }

pub invariant_of-member-in_default : goal.invariant_of-member-in_default
invariant_of-member-in_default g c =
    let m = member_core c.args.member.now in
    record { settled = within m _ _ c.put_off.ensures.turn.station (keeps_put_off (g.R.VotingRule.votes c.args.rule.now) c.args.t m) c.args.member.now.settled }

pub invariant_of-member-2 : goal.invariant_of-member-2
invariant_of-member-2 g c =
    let m = member_core c.args.member.now in
    let x = core_of c.put_off.new.status (g.J.Journal.entries c.put_off.new.journal) in
    let k = within m x _ c.put_off.ensures.turn.station (keeps_put_off (g.R.VotingRule.votes c.args.rule.now) c.args.t m) c.args.member.now.settled in
    record { settled = within x _ _ c.serve.ensures.turn.station (keeps_serve c.args.t c.in-Some.station c.in-Some.place x) k }

pub returns-then-not-is_running : goal.returns-then-not-is_running
returns-then-not-is_running g c =
    let m = member_core c.args.member.now in
    let e = not_open (g.R.VotingRule.votes c.args.rule.now) c.args.t m c.if-not-is_running.ensures in
    record {
      left = sym (ap (λ (q : ℕ × Posting). q.0) e);
      turn = ruled (ap (λ (q : ℕ × Posting). q.1) e) (record { done = unsaid _ m _; home = refl });
    }

pub returns-then-not-is_running-2 : goal.returns-then-not-is_running-2
returns-then-not-is_running-2 g c =
    let m = member_core c.args.member.now in
    let e = went_out (g.R.VotingRule.votes c.args.rule.now) c.args.t m c.if-not-is_running.ensures _ c.put_off.ensures.turn.station c.if-not-is_running-2.ensures in
    record {
      left = sym (ap (λ (q : ℕ × Posting). q.0) e);
      turn = ruled (ap (λ (q : ℕ × Posting). q.1) e) (record { done = c.put_off.ensures.turn; home = c.put_off.ensures.home });
    }

pub returns-in_default : goal.returns-in_default
returns-in_default g c =
    let m = member_core c.args.member.now in
    let o = c.in_default.ensures.value ∙ ap (λ (j : List Entry). chosen (core_of c.put_off.new.status j)) c.as_slice.ensures.value in
    let e = no_wish (g.R.VotingRule.votes c.args.rule.now) c.args.t m c.if-not-is_running.ensures _ c.put_off.ensures.turn.station c.if-not-is_running-2.ensures o in
    record {
      left = sym (ap (λ (q : ℕ × Posting). q.0) e);
      turn = ruled (ap (λ (q : ℕ × Posting). q.1) e) (record { done = c.put_off.ensures.turn; home = c.put_off.ensures.home });
    }

pub returns : goal.returns
returns g c =
    let m = member_core c.args.member.now in
    let vote = g.R.VotingRule.votes c.args.rule.now in
    let o = c.in-Some.ensures.value ∙ ap (λ (j : List Entry). chosen (core_of c.put_off.new.status j)) c.as_slice.ensures.value in
    let e = one_wish vote c.args.t m c.if-not-is_running.ensures _ c.put_off.ensures.turn.station _ c.if-not-is_running-2.ensures o in
    record {
      left = sym (ap (λ (q : ℕ × Posting). q.0) e);
      turn = ruled (ap (λ (q : ℕ × Posting). q.1) e) (record {
        done = served_after m.me c.args.t _ _ (put_off vote c.args.t m) _ _ _ _ _ (keeps_put_off vote c.args.t m).me c.put_off.ensures.turn c.serve.ensures.turn;
        home = c.serve.ensures.home ∙ c.put_off.ensures.home;
      });
    }
