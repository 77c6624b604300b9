-- What an entry book means. Assumes nothing.
use Rattle.std.specs.Prelude.{List, vec_items}
use Rattle.entries.specs.declared.customs_entry.CustomsEntry.{CustomsEntry}
use Rattle.entries.specs.declared.entry_book.EntryBook.{EntryBook}

-- its entries, in order of opening
abbrev pub entries_of : EntryBook → List CustomsEntry
entries_of b = vec_items b.entries
