-- What a verdict of the entry book is in words. Assumes nothing.
use Rattle.std.specs.Prelude.{ℕ, List, codes}
use Rattle.entries.specs.declared.entry_verdict.EntryVerdict.{EntryVerdict}
use Rattle.entries.specs.declared.entry_verdict.EntryVerdict.TheVariants.{Taken, Malformed, OpenedBefore, NoPlace, UnknownEntry, Closed, GivenBefore, NoFreight}

abbrev pub outcome : EntryVerdict → List ℕ
outcome Taken = codes "taken"
outcome Malformed = codes "refused, verdict 1: the note is malformed"
outcome OpenedBefore = codes "refused, verdict 2: the entry was opened before"
outcome NoPlace = codes "refused, verdict 3: no place is left"
outcome UnknownEntry = codes "refused, verdict 4: no entry has this number"
outcome Closed = codes "refused, verdict 5: the entry is closed"
outcome GivenBefore = codes "refused, verdict 6: this amount was given before"
outcome NoFreight = codes "refused, verdict 7: the freight is not given yet"
