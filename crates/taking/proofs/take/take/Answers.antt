use Rattle.std.proofs.Common.{sym, ap, ◌∙◌}
use Rattle.journal.specs.Settle.{fed, newly_firm}
use Rattle.journal.specs.Members.{member_core}
use Rattle.taking.proofs.Keeping.{firm_kept, nothing_firm}
use Rattle.taking.proofs.take.take.Goals as goal

pub returns-then-not-is_out-clause-book : goal.returns-then-not-is_out-clause-book
returns-then-not-is_out-clause-book g c =
    let b = g.B.Book in
    let k = firm_kept (g.R.VotingRule.votes c.args.rule.now) c.args.frame.now _ _ c.receive.ensures.core in
    c.settle.ensures.book ∙ ap (λ i. fed b.next (b.means c.args.book.now) (newly_firm i (member_core c.settle.new.self))) k

pub returns-else-not-is_out-clause-book : goal.returns-else-not-is_out-clause-book
returns-else-not-is_out-clause-book g c =
    let b = g.B.Book in
    let k = firm_kept (g.R.VotingRule.votes c.args.rule.now) c.args.frame.now _ _ c.receive.ensures.core in
    ap (fed b.next (b.means c.args.book.now)) (sym (nothing_firm c.args.member.now.status.firm (member_core c.receive.new.member) k))
