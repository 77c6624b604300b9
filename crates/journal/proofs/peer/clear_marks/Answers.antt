use Rattle.std.proofs.Common.{rules}
use Rattle.journal.specs.Peers.{cleared}
use Rattle.journal.proofs.Mapped.{mapped}
use Rattle.journal.proofs.peer.clear_marks.Goals as goal

pub returns : goal.returns
returns c = mapped _ cleared _ _ _ _ c.map.ensures.items c.told-peers (λ p x y q e. search rules)
