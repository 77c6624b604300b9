use Rattle.std.proofs.Common.{List, sym, ap, ◌∙◌, subst}
use Rattle.protocol.specs.declared.entry.Entry.{Entry}
use Rattle.journal.specs.Journal.{entry_at}
use Rattle.station.specs.Meaning.{core}
use Rattle.station.specs.Sound.{HasPlace}
use Rattle.station.proofs.Soundness.{has_place}
use Rattle.station.proofs.station.Station.entry.Goals as goal

pub returns-clause-at : goal.returns-clause-at
returns-clause-at g c =
    let s = c.args.self.now in
    let p = c.args.place in
    subst (HasPlace p) (sym (c.entry_at.ensures ∙ ap (λ (j : List Entry). entry_at j p) c.as_slice.ensures.value)) (has_place (core s) s.sound p)
