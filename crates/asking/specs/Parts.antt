-- The parts of a station that a ring can be asked for. Assumes nothing.
use Rattle.std.specs.Prelude.{ℕ, length, Option}
use Rattle.std.specs.List.{slice_get}
use Rattle.protocol.specs.declared.note.Note.{Note}
use Rattle.protocol.specs.declared.entry.Entry.{Entry}
use Rattle.journal.specs.declared.state.State.{State}
use Rattle.journal.specs.declared.peer.Peer.{Peer}
use Rattle.journal.specs.Journal.{entry_at, end_of}
use Rattle.journal.specs.Settle.{view}
use Rattle.station.specs.Model.{Model}
use Rattle.station.specs.Sound.{peer_of}

module _ {S : Type 0} where
  abbrev pub state_of : Model S → State
  state_of x = x.core.state

  abbrev pub length_of : Model S → ℕ
  length_of x = length x.core.journal

  -- the entry at a place, counted from 1; none outside the journal
  abbrev pub entry_of : ℕ → Model S → Option Entry
  entry_of place x = entry_at x.core.journal place

  abbrev pub end_of_journal : Model S → ℕ × ℕ
  end_of_journal x = end_of x.core.journal

  abbrev pub view_of : Model S → ℕ
  view_of x = view x.core

  abbrev pub firm_of : Model S → ℕ
  firm_of x = x.core.firm

  abbrev pub book_of : Model S → S
  book_of x = x.book

  abbrev pub waiting_of : Model S → ℕ
  waiting_of x = length x.outbox

  -- the waiting note with i older ones before it; none where fewer wait
  abbrev pub note_of : ℕ → Model S → Option Note
  note_of i x = slice_get x.outbox i

  -- what is kept of station `other`: heard mark, known place and wish; none for any number but another station's
  abbrev pub peer_in : ℕ → Model S → Option Peer
  peer_in other x = peer_of x.core other
