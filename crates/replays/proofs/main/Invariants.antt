-- No more agree than were replayed.
use Rattle.std.proofs.Common.{◌<◌}
use Rattle.replays.proofs.main.Given as goal

abbrev pub invariant-loop-number : goal.invariant-loop-number
invariant-loop-number l = l.agreed < l.number-counter
