-- The lines that are printed, without the byte 10 that ends each, and where they go. Assumes nothing.
use Rattle.std.specs.Prelude.{◌≡◌, ℕ, ◌<◌, ◌≤◌, List, [], ◌∷◌, ◌++◌, length, drop, Some, None, Ok, Err, codes, decimal, Option, Result}
use Rattle.std.specs.declared.alloc.AllocError.{AllocError}
use Rattle.protocol.specs.declared.refusal.Refusal.{Refusal}
use Rattle.protocol.specs.declared.refusal.Refusal.TheVariants.{BufferTooShort}
use Rattle.protocol.specs.declared.entry.Body.{Body}
use Rattle.protocol.specs.declared.entry.Body.TheVariants.{Note, View}
use Rattle.protocol.specs.declared.entry.Entry.{Entry}
use Rattle.journal.specs.declared.state.Cause.{Cause}
use Rattle.journal.specs.declared.state.Cause.TheVariants.{Stopped, Gap, PutOff, Outvoted, Full}
use Rattle.journal.specs.declared.state.State.{State}
use Rattle.journal.specs.declared.state.State.TheVariants.{Running, Joining, Out}
use Rattle.entries.specs.declared.customs_entry.CustomsEntry.{CustomsEntry}
use Rattle.print.specs.declared.line.Line.{Line}
use Rattle.print.specs.declared.line.Line.TheVariants.{Refused, Station, Journal, Book}

-- a line of the script that was refused, with the refusal's number
abbrev pub refused_line : ℕ → ℕ → List ℕ
refused_line line number = codes "line=" ++ (decimal line ++ (codes " refused=" ++ decimal number))

abbrev pub cause_text : Cause → List ℕ
cause_text Stopped = codes "out-stopped"
cause_text Gap = codes "out-gap"
cause_text PutOff = codes "out-putoff"
cause_text Outvoted = codes "out-outvoted"
cause_text Full = codes "out-full"

abbrev pub state_text : State → List ℕ
state_text Running = codes "running"
state_text Joining = codes "joining"
state_text (Out cause) = cause_text cause

-- a station, with its firm count and its journal's length
abbrev pub station_line : ℕ → State → ℕ → ℕ → List ℕ
station_line station state firm len =
    codes "station=" ++ (decimal station ++ (codes " state=" ++ (state_text state ++ (codes " firm=" ++ (decimal firm
    ++ (codes " length=" ++ decimal len))))))

abbrev pub body_text : Body → List ℕ
body_text (Note x) =
    codes "note a=" ++ (decimal x.a ++ (codes " b=" ++ (decimal x.b ++ (codes " c=" ++ (decimal x.c ++ (codes " d=" ++ decimal x.d))))))
body_text (View mask) = codes "view mask=" ++ decimal mask

-- an entry of a journal
abbrev pub entry_line : Entry → List ℕ
entry_line e =
    codes "place=" ++ (decimal e.place ++ (codes " turn=" ++ (decimal e.turn ++ (codes " kind=" ++ body_text e.body))))

-- an amount that may be absent
abbrev pub amount_text : Option ℕ → List ℕ
amount_text None = codes "none"
amount_text (Some n) = decimal n

-- an entry of the entry book
abbrev pub book_line : CustomsEntry → List ℕ
book_line e =
    codes "entry=" ++ (decimal e.number ++ (codes " price=" ++ (decimal e.price ++ (codes " rate=" ++ (decimal e.rate
    ++ (codes " freight=" ++ (amount_text e.freight ++ (codes " insurance=" ++ (amount_text e.insurance
    ++ (codes " duty=" ++ amount_text e.duty))))))))))

abbrev pub line_bytes : Line → List ℕ
line_bytes (Refused line number) = refused_line line number
line_bytes (Station station state firm len) = station_line station state firm len
line_bytes (Journal entry) = entry_line entry
line_bytes (Book entry) = book_line entry

-- room for each of these lines and the byte that ends it
abbrev pub room : ℕ
room = 128

-- a line is written at the front of a buffer, the rest of which stays; or it is refused where the buffer is shorter, which stays as it was
abbrev pub Put : List ℕ → List ℕ → List ℕ → Result ℕ Refusal → Type 0
Put line before after (Ok n) = (length line ≤ length before) × (n ≡ length line) × (after ≡ line ++ drop (length line) before)
Put line before after (Err e) = (length before < length line) × (e ≡ BufferTooShort) × (after ≡ before)

-- a line and byte 10, which ends it, are added to a text; or nothing is, where memory is wanting
abbrev pub Added : List ℕ → List ℕ → List ℕ → Result (Unit {0}) AllocError → Type 0
Added line before after (Ok _) = after ≡ before ++ (line ++ (10 ∷ []))
Added line before after (Err _) = after ≡ before
