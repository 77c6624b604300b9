use Rattle.std.proofs.Common.{◌≡◌, drop}
use Rattle.journal.specs.Settle.{fed}
use Rattle.journal.proofs.settle.feed_all.Given as goal

-- what is left takes the book to the same state
abbrev pub invariant-loop-e : goal.invariant-loop-e
invariant-loop-e g l = let b = g.B.Book in fed b.next (b.means l.book) (drop l.e-index l.entries) ≡ fed b.next (b.means l.initial.book) l.entries
