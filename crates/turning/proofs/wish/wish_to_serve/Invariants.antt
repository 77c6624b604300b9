-- what is left has the wish to serve
use Rattle.std.proofs.Common.{◌≡◌, ◌-◌}
use Rattle.journal.specs.Core.{core_of}
use Rattle.turning.proofs.Wishes.{on, look}
use Rattle.turning.proofs.wish.wish_to_serve.Given as goal

abbrev pub invariant-search : goal.invariant-search
invariant-search l =
    look l.view (core_of l.status l.journal) (l.left - 1) ≡ look l.view (core_of l.status l.journal) (l.status.roll - 1)

-- no member was met going on
abbrev pub invariant-loop-k : goal.invariant-loop-k
invariant-loop-k l = on l.status.roll l.status.me l.view l.at l.k ≡ on l.status.roll l.status.me l.view l.at 1
