use Rattle.std.proofs.Common.{rules}
use Rattle.journal.specs.Peers.{wishless}
use Rattle.journal.proofs.Mapped.{mapped}
use Rattle.journal.proofs.peer.clear_wishes.Goals as goal

pub returns : goal.returns
returns c = mapped _ wishless _ _ _ _ c.map.ensures.items c.told-peers (λ p x y q e. search rules)
