use Rattle.std.proofs.Common.{refl}
use Rattle.protocol.specs.declared.refusal.Refusal.TheVariants.{NotOnRoll}
use Rattle.runs.proofs.Stepping.{note_off, note_is}
use Rattle.ring.proofs.Calls.{refuses, hands, read_there}
use Rattle.ring.proofs.ring.Ring.note.Goals as goal

pub returns-in_err-station : goal.returns-in_err-station
returns-in_err-station g c =
    let off = c.in_err-station.ensures in
    refuses NotOnRoll _ _ _ c.from_residual.ensures.1 off.1 refl (note_off _ _ c.args.at c.args.note off.0)

pub returns : goal.returns
returns g c = hands c.args.at _ c.note.new.self _ _ _ _ (read_there _ _ c.args.at _ _ c.in_ok-station.ensures c.index_mut.ensures.value) c.note.ensures (λ on. note_is _ _ c.args.at _ on c.args.note)
