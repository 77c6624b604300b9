use Rattle.std.proofs.Common.{◌≡◌, ◌-◌, ◌*◌, min, ltb, length, take, sym, ap, ◌∙◌, ap₂, arith}
use Rattle.std.proofs.lemmas.List.{length-take-le}
use Rattle.std.proofs.lemmas.Bool.{lt-leb}
use Rattle.vote.specs.Mask.{everyone}
use Rattle.vote.specs.Majority.{weight}
use Rattle.vote.specs.Masks.{everyone_few}
use Rattle.vote.specs.Majorities.{majority_on, majority_off}
use Rattle.vote.proofs.weights.WeightsVotingRule.has_vote.Goals as goal

-- what `weigh` was given is the first n weights
weighed : (c : goal.After-more_than_half) → c.weigh.result ≡ weight (take c.args.self.now.stations c.args.self.now.weights) c.args.mask
weighed c =
    let e : c.roll-n.result - 0 ≡ c.args.self.now.stations = omega (arith, c.roll-n.ensures) in
    c.weigh.ensures ∙ ap (λ k. weight (take k c.args.self.now.weights) c.args.mask) e

pub returns-then-mask-whole : goal.returns-then-mask-whole
returns-then-mask-whole c =
    let w = c.args.self.now in
    let few : min c.roll-n.result 8 ≡ min w.stations 8 = ap (λ k. min k 8) c.roll-n.ensures in
    let ws = take w.stations w.weights in
    let here : everyone (length ws) ≡ everyone w.stations = ap everyone (length-take-le w.stations w.weights (omega arith)) in
    c.more_than_half.ensures
    ∙ ap₂ ltb w.summed (ap (λ x. 2 * x) (weighed c))
    ∙ sym (majority_on ws c.args.mask (omega (arith, everyone_few w.stations (omega arith), ap everyone few)))

pub returns-else-mask-whole : goal.returns-else-mask-whole
returns-else-mask-whole c =
    let w = c.args.self.now in
    let few : min c.roll-n.result 8 ≡ min w.stations 8 = ap (λ k. min k 8) c.roll-n.ensures in
    let ws = take w.stations w.weights in
    let here : everyone (length ws) ≡ everyone w.stations = ap everyone (length-take-le w.stations w.weights (omega arith)) in
    lt-leb _ _ c.if-mask-whole.false
    ∙ sym (majority_off ws c.args.mask (omega (arith, everyone_few w.stations (omega arith), ap everyone few)))
