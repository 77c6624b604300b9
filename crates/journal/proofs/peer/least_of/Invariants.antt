use Rattle.std.proofs.Common.{◌≡◌, ◌≤◌, drop}
use Rattle.journal.specs.Peers.{least_known}
use Rattle.journal.proofs.peer.least_of.Given as goal

-- what is left gives the same place
abbrev pub invariant-loop-s : goal.invariant-loop-s
invariant-loop-s l =
    (least_known l.me l.view l.s (drop l.s l.peers) l.least ≡ least_known l.me l.view 0 l.peers l.length)
    × (l.least ≤ l.length)
