-- The laws of the entry book, for any book and whatever notes it is given. Assumes nothing.
use Rattle.std.specs.Prelude.{◌≡◌, ℕ, ◌+◌, ◌*◌, ◌<◌, ◌≤◌, List, [], length, Some, Option}
use Rattle.std.specs.Option.{unwrap_or}
use Rattle.protocol.specs.declared.note.Note.{Note}
use Rattle.entries.specs.Limits.{entry_places, whole_rate}
use Rattle.books.specs.Places.{at_place, Apart}
use Rattle.books.specs.Feeding.{fed, Always}
use Rattle.entries.specs.EntryBook.{numbers, entry_of, entry_next, InRange}
use Rattle.entries.specs.declared.customs_entry.CustomsEntry.{CustomsEntry}

abbrev pub book_after : List CustomsEntry → List Note → List CustomsEntry
book_after s notes = fed entry_next s notes

-- the entry at place k of the book s is e
abbrev pub Stands : ℕ → CustomsEntry → List CustomsEntry → Type 0
Stands k e s = at_place k s ≡ Some e

-- ---- what happens to an entry

-- an entry that has its duty never changes again
abbrev pub ClosedEntriesNeverChange : Type 0
ClosedEntriesNeverChange =
    (s : List CustomsEntry) (notes : List Note) (k : ℕ) (e : CustomsEntry) (d : ℕ) → Stands k e s → e.duty ≡ Some d → Stands k e (book_after s notes)

-- an amount that was given is the same later
abbrev pub GivenStays : Option ℕ → Option ℕ → Type 0
GivenStays before later = (n : ℕ) → before ≡ Some n → later ≡ Some n

-- what an entry may become: amounts are added, and nothing else is changed
pub record Grown (e later : CustomsEntry) : Type 0 where
  pub number : later.number ≡ e.number
  pub price : later.price ≡ e.price
  pub rate : later.rate ≡ e.rate
  pub freight : GivenStays e.freight later.freight
  pub insurance : GivenStays e.insurance later.insurance
  pub duty : GivenStays e.duty later.duty

pub record StillStands (k : ℕ) (e : CustomsEntry) (s : List CustomsEntry) : Type 0 where
  pub later : CustomsEntry
  pub stands : Stands k later s
  pub grown : Grown e later

-- an entry once opened stays at its place, with its number, price, rate and all amounts given
abbrev pub EntriesStay : Type 0
EntriesStay = (s : List CustomsEntry) (notes : List Note) (k : ℕ) (e : CustomsEntry) → Stands k e s → StillStands k e (book_after s notes)

-- where no number stands twice, each entry is found by its number
abbrev pub EntriesAreFound : Type 0
EntriesAreFound = (s : List CustomsEntry) (k : ℕ) (e : CustomsEntry) → Apart (numbers s) → Stands k e s → entry_of e.number s ≡ Some e

-- ---- what holds of a book at all times

abbrev pub NoNumberTwice : Type 0
NoNumberTwice = Always entry_next [] (λ s. Apart (numbers s))

-- freight f is there, and the duty is the rate's part of the whole value, less than one cent being dropped
pub record Due (e : CustomsEntry) (d : ℕ) : Type 0 where
  pub f : ℕ
  pub freight : e.freight ≡ Some f
  pub enough : d * whole_rate ≤ (e.price + f + unwrap_or e.insurance 0) * e.rate
  pub exact : (e.price + f + unwrap_or e.insurance 0) * e.rate < (d + 1) * whole_rate

abbrev pub DutiesDue : List CustomsEntry → Type 0
DutiesDue s = (k : ℕ) (e : CustomsEntry) (d : ℕ) → Stands k e s → e.duty ≡ Some d → Due e d

abbrev pub DutiesAreDue : Type 0
DutiesAreDue = Always entry_next [] DutiesDue

abbrev pub NeverOverFull : Type 0
NeverOverFull = Always entry_next [] (λ s. length s ≤ entry_places)

abbrev pub FiguresStayInRange : Type 0
FiguresStayInRange = Always entry_next [] InRange
