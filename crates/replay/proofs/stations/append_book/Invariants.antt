-- What is printed so far and what is left make the whole.
use Rattle.std.proofs.Common.{◌≡◌, ◌++◌, drop, vec_items}
use Rattle.entries.specs.EntryState.{entries_of}
use Rattle.replay.specs.Print.{book_text}
use Rattle.replay.proofs.stations.append_book.Given as goal

abbrev pub invariant-loop-entry : goal.invariant-loop-entry
invariant-loop-entry l =
    vec_items l.text ++ book_text (drop l.entry-index (entries_of l.book)) ≡ vec_items l.initial.text ++ book_text (entries_of l.book)
