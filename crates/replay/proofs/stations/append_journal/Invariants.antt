-- What is printed so far and what is left make the whole.
use Rattle.std.proofs.Common.{◌≡◌, ◌++◌, drop, vec_items}
use Rattle.entries.specs.EntryState.{entries_of}
use Rattle.station.specs.Meaning.{model}
use Rattle.replay.specs.Print.{journal_text}
use Rattle.replay.proofs.stations.append_journal.Given as goal

abbrev pub invariant-loop-entry : goal.invariant-loop-entry
invariant-loop-entry l =
    vec_items l.text ++ journal_text (drop l.entry-index (model entries_of l.station).core.journal)
    ≡ vec_items l.initial.text ++ journal_text (model entries_of l.station).core.journal
