use Rattle.std.proofs.Common.{◌≡◌}
use Rattle.std.specs.Slice.Iter.{iter_rest}
use Rattle.std.specs.Iterator.Adapters.{rev_source}
use Rattle.journal.specs.Journal.{newest_view}
use Rattle.journal.proofs.reading.view_of.Given as goal

-- what is left gives the same view
abbrev pub invariant-loop-e : goal.invariant-loop-e
invariant-loop-e l = newest_view l.whole (iter_rest (rev_source l.e-iterator)) ≡ newest_view l.whole l.journal
