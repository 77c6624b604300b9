use Rattle.std.proofs.Common.{refl}
use Rattle.protocol.specs.declared.refusal.Refusal.TheVariants.{NotOnRoll, LineEmpty}
use Rattle.runs.proofs.Stepping.{relined, lose_off, lose_empty, loses}
use Rattle.ring.proofs.Calls.{refuses, accepts}
use Rattle.ring.proofs.Same.{same_ring}
use Rattle.ring.proofs.ring.Ring.lose.Goals as goal

pub returns-in_err-station : goal.returns-in_err-station
returns-in_err-station g c =
    let off = c.in_err-station.ensures in
    refuses NotOnRoll _ _ _ c.from_residual.ensures.1 off.1 refl (lose_off _ _ c.args.at off.0)

pub returns-in_err-next_frame : goal.returns-in_err-next_frame
returns-in_err-next_frame g c =
    let told = c.in_err-next_frame.ensures in
    refuses LineEmpty _ _ _ c.from_residual-in_err-next_frame.ensures.1 told.value.1 (same_ring c.args.self.now _ _ _ _ refl told.same)
    (lose_empty _ _ c.args.at _ c.in_ok-station.ensures told.value.0)

pub returns : goal.returns
returns g c =
    let told = c.in_ok-next_frame.ensures in
    accepts _ _ _ refl (relined _ _ _ _ told.after) refl (loses _ _ c.args.at _ c.in_ok-station.ensures _ told.value)
