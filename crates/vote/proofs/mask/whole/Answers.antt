use Rattle.std.proofs.Common.{◌≡◌, ◌-◌, min, sym, ap, ◌∙◌, arith}
use Rattle.std.proofs.lemmas.Nat.{one_shl}
use Rattle.vote.specs.Mask.{everyone}
use Rattle.vote.proofs.mask.whole.Goals as goal

pub returns-then-n-lt-MAX_STATIONS : goal.returns-then-n-lt-MAX_STATIONS
unfolding everyone
returns-then-n-lt-MAX_STATIONS c =
    let few : min c.args.n 8 ≡ c.args.n = omega arith in
    ap (λ x. x - 1) (one_shl c.args.n 8 (omega arith)) ∙ sym (ap everyone few)

pub returns-else-n-lt-MAX_STATIONS : goal.returns-else-n-lt-MAX_STATIONS
unfolding everyone
returns-else-n-lt-MAX_STATIONS c =
    let many : min c.args.n 8 ≡ 8 = omega arith in
    sym (ap everyone many)
