use Rattle.std.proofs.Common.{sym, refl, ◌∙◌}
use Rattle.journal.specs.Members.{member_core}
use Rattle.turning.proofs.Posting.{unsaid, ruled}
use Rattle.turning.proofs.Calling.{pass_own, pass_other}
use Rattle.turning.proofs.token.passing.pass.Goals as goal

pub returns-then-own-clause-turn : goal.returns-then-own-clause-turn
returns-then-own-clause-turn g c =
    ruled (pass_own c.args.token (member_core c.args.member.now) (sym c.if-own.true ∙ c.is_own-own.ensures)) c.pass_on.ensures.turn

pub returns-else-own-clause-turn : goal.returns-else-own-clause-turn
returns-else-own-clause-turn g c =
    let m = member_core c.args.member.now in
    ruled (pass_other c.args.token m (sym c.if-own.false ∙ c.is_own-own.ensures)) (record { done = unsaid _ m _; home = refl })
