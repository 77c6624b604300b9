use Rattle.std.proofs.Common.{List, ap, ◌∙◌}
use Rattle.protocol.specs.declared.entry.Entry.{Entry}
use Rattle.journal.specs.Core.{new_core, with_journal}
use Rattle.station.specs.Sound.{is_sound}
use Rattle.station.proofs.Growth.{new_sound}
use Rattle.station.proofs.station.Station.new.Goals as goal

pub invariant_of-result-4 : goal.invariant_of-result-4
invariant_of-result-4 g c =
    let m = new_core c.args.me c.args.roll in
    record { sound = ap (λ (j : List Entry). is_sound (with_journal j m)) c.in_ok-items.ensures.items ∙ new_sound c.args.me c.args.roll }
