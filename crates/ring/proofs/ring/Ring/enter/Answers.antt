use Rattle.std.proofs.Common.{sym, refl, ◌∙◌}
use Rattle.protocol.specs.declared.refusal.Refusal.TheVariants.{NotOnRoll}
use Rattle.wires.specs.Calls.{cleared}
use Rattle.station.specs.Meaning.{model}
use Rattle.station.specs.Rules.{enter_call}
use Rattle.runs.proofs.Stepping.{answers_ok, answers_err, enter_off, enter_is}
use Rattle.ring.specs.Meaning.{meaning}
use Rattle.ring.proofs.Calls.{misses, balks, obeys}
use Rattle.station.proofs.Same.{same_station}
use Rattle.ring.proofs.ring.Ring.enter.Goals as goal

pub returns-in_err-station : goal.returns-in_err-station
returns-in_err-station g c = misses c.args.at NotOnRoll _ _ _ _ c.from_residual.ensures.1 c.in_err-station.ensures.value (enter_off _ _ c.args.at)

pub returns-in_err-enter : goal.returns-in_err-enter
returns-in_err-enter g c =
    let n = meaning g.B.Book.means g.W.Wire.lines c.args.self.now in
    let s = c.args.at in
    let x = c.in_ok-station.station.now in
    let z = model g.B.Book.means x in
    let told = c.in_err-enter.ensures in
    balks s x c.enter.new.self _ _ _ c.in_ok-station.ensures.value _ _ _ c.from_residual-in_err-enter.ensures.1 refl (same_station x _ told.same) refl
    (λ on. enter_is _ n s z on ∙ answers_err n s (cleared n.lines s) (enter_call g.B.Book.next z) _ (sym told.value))

pub returns : goal.returns
returns g c =
    let n = meaning g.B.Book.means g.W.Wire.lines c.args.self.now in
    let s = c.args.at in
    let x = c.in_ok-station.station.now in
    let z = model g.B.Book.means x in
    let told = c.in_ok-enter.ensures in
    obeys s x c.enter.new.self _ _ _ c.in_ok-station.ensures.value _ _ _ refl told.after c.clear.ensures.after
    (λ on. enter_is _ n s z on ∙ answers_ok n s (cleared n.lines s) (enter_call g.B.Book.next z) (sym told.value))
