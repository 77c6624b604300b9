-- A station as its ring speaks of it: its core, the notes of its outbox, and what its book means. Assumes nothing.
use Rattle.std.specs.Prelude.{ℕ, List, [], take}
use Rattle.protocol.specs.declared.note.Note.{Note}
use Rattle.protocol.specs.declared.entry.Entry.{Entry}
use Rattle.journal.specs.Core.{Core, new_core}
use Rattle.journal.specs.Settle.{fed, newly_firm}

pub record Model (S : Type 0) : Type 0 where
  pub core : Core
  pub outbox : List Note
  pub book : S

-- a station of a new ring, whose book starts at b
abbrev pub new_model : {S : Type 0} → ℕ → ℕ → S → Model S
new_model me roll b = record { core = new_core me roll; outbox = []; book = b }

-- the core became m, and the notes ns wait: the book is given the notes that are newly firm, in order
abbrev pub moved : {S : Type 0} → (S → Note → S) → List Note → Core → Model S → Model S
moved next ns m x = record { core = m; outbox = ns; book = fed next x.book (newly_firm x.core.firm m) }

-- the entries firm at a station
abbrev pub firm_part : Core → List Entry
firm_part m = take m.firm m.journal
