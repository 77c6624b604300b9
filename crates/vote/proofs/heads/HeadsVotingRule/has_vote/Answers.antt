use Rattle.std.proofs.Common.{◌≡◌, ◌*◌, min, ltb, sym, ap, ◌∙◌, arith}
use lib.Count.{ones}
use Rattle.std.proofs.lemmas.Bool.{lt-leb}
use Rattle.vote.specs.Mask.{everyone}
use Rattle.vote.specs.Masks.{everyone_few}
use Rattle.vote.specs.Majorities.{heads_on, heads_off}
use Rattle.vote.proofs.heads.HeadsVotingRule.has_vote.Goals as goal

pub returns-then-mask-whole : goal.returns-then-mask-whole
returns-then-mask-whole c =
    let n = c.args.self.now.stations in
    let few : min c.roll-n.result 8 ≡ min n 8 = ap (λ k. min k 8) c.roll-n.ensures in
    c.more_than_half.ensures
    ∙ ap (λ x. ltb x (2 * ones c.args.mask)) (c.from.ensures ∙ c.roll-n.ensures)
    ∙ sym (heads_on n c.args.mask (omega (arith, everyone_few n (omega arith), ap everyone few)))

pub returns-else-mask-whole : goal.returns-else-mask-whole
returns-else-mask-whole c =
    let n = c.args.self.now.stations in
    let few : min c.roll-n.result 8 ≡ min n 8 = ap (λ k. min k 8) c.roll-n.ensures in
    lt-leb _ _ c.if-mask-whole.false
    ∙ sym (heads_off n c.args.mask (omega (arith, everyone_few n (omega arith), ap everyone few)))
