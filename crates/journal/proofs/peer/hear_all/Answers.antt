use Rattle.std.proofs.Common.{rules}
use Rattle.journal.specs.Peers.{marked}
use Rattle.journal.proofs.Mapped.{mapped}
use Rattle.journal.proofs.peer.hear_all.Goals as goal

pub returns : goal.returns
returns c = mapped _ marked _ _ _ _ c.map.ensures.items c.told-peers (λ p x y q e. search rules)
