-- Worked examples of the entry book. Assumes nothing.
use Rattle.std.specs.Prelude.{◌≡◌, ℕ, [], ◌∷◌, Some}
use Rattle.protocol.specs.declared.note.Note.{Note}
use Rattle.books.specs.Feeding.{fed}
use Rattle.entries.specs.EntryBook.{entry_next, entry_verdict, entry_verdict_number}

abbrev says : ℕ → ℕ → ℕ → ℕ → Note
says a b c d = record { a = a; b = b; c = c; d = d }

-- a price of 500,000, freight 80,000 and insurance 2,000 at 12 per cent give a duty of 69,840
abbrev pub DutyOf69840 : Type 0
DutyOf69840 =
    fed entry_next [] (says 1 70 500000 1200 ∷ says 2 70 80000 0 ∷ says 3 70 2000 0 ∷ says 4 70 0 0 ∷ [])
    ≡ (record { number = 70; price = 500000; rate = 1200; freight = Some 80000; insurance = Some 2000; duty = Some 69840 } ∷ [])

-- closing an entry that has no freight gets verdict 7
abbrev pub ClosingWithoutFreight : Type 0
ClosingWithoutFreight = entry_verdict_number (entry_verdict (fed entry_next [] (says 1 70 500000 1200 ∷ [])) (says 4 70 0 0)) ≡ 7
