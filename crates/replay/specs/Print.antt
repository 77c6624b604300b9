-- What is printed of a script's text. Assumes nothing.
use Rattle.std.specs.Prelude.{◌≡◌, ℕ, zero, suc, cond, List, [], ◌∷◌, ◌++◌, length, drop, Some, None, Ok, Err, Option, Result, ◌==◌, slice_index}
use Rattle.std.specs.declared.alloc.AllocError.{AllocError}
use Rattle.std.specs.List.{slice_get, flat_map, filter_map}
use Rattle.std.specs.Result.{result_ok}
use Rattle.protocol.specs.Refusals.{number_of}
use Rattle.protocol.specs.declared.entry.Entry.{Entry}
use Rattle.protocol.specs.declared.refusal.Refusal.{Refusal}
use Rattle.vote.specs.Majority.{majority, heads}
use Rattle.entries.specs.EntryBook.{entry_next}
use Rattle.entries.specs.declared.customs_entry.CustomsEntry.{CustomsEntry}
use Rattle.station.specs.Model.{Model}
use Rattle.runs.specs.declared.call.Call.{Call}
use Rattle.runs.specs.Rings.{Rules, run, answers, new_ring}
use Rattle.script.specs.Script.{script_of}
use Rattle.print.specs.PrintLines.{refused_line, station_line, entry_line, book_line}

-- a station's book is the entries of an entry book
abbrev pub Stationed : Type 0
Stationed = Model (List CustomsEntry)

-- a line that is printed ends in byte 10
abbrev pub ended : List ℕ → List ℕ
ended line = line ++ (10 ∷ [])

-- ---- the refused lines

-- what is printed of a line that is answered by a number: nothing where it is 0
abbrev pub answer_text : ℕ → ℕ → List ℕ
answer_text line number = cond (number == 0) [] (ended (refused_line line number))

-- the calls among what the lines are
abbrev pub calls_among : List (Result Call Refusal) → List Call
calls_among ls = filter_map result_ok ls

-- what the lines from a number on are answered by, where the ring gave these answers to the calls among them
abbrev pub answers_text : ℕ → List (Result Call Refusal) → List ℕ → List ℕ
answers_text line [] given = []
answers_text line (Ok c ∷ ls) given = answer_text line (slice_index given 0) ++ answers_text (suc line) ls (drop 1 given)
answers_text line (Err e ∷ ls) given = answer_text line (number_of e) ++ answers_text (suc line) ls given

-- ---- the stations

-- the line of station s
abbrev pub head_text : ℕ → Stationed → List ℕ
head_text s x = ended (station_line s x.core.state x.core.firm (length x.core.journal))

-- a journal, place by place
abbrev pub journal_text : List Entry → List ℕ
journal_text j = flat_map (λ e. ended (entry_line e)) j

-- the entries of a book, in order of opening
abbrev pub book_text : List CustomsEntry → List ℕ
book_text b = flat_map (λ e. ended (book_line e)) b

-- station s with its journal and its book
abbrev pub station_text : ℕ → Option Stationed → List ℕ
station_text s None = []
station_text s (Some x) = head_text s x ++ (journal_text x.core.journal ++ book_text x.book)

-- so many stations from number s on
abbrev pub stations_text : List Stationed → ℕ → ℕ → List ℕ
stations_text xs s zero = []
stations_text xs s (suc k) = station_text s (slice_get xs s) ++ stations_text xs (suc s) k

-- ---- the whole print

-- n stations that vote by heads, with entry books
abbrev pub by_heads : ℕ → Rules (List CustomsEntry)
by_heads n = record { size = n; vote = majority (heads n); next = entry_next }

-- what is printed of lines 2, 3 and so on under a roll of n, whose books start empty
abbrev pub performed_text : ℕ → List (Result Call Refusal) → List ℕ
performed_text n ls =
    answers_text 2 ls (answers (by_heads n) (new_ring (by_heads n) []) (calls_among ls))
    ++ stations_text (run (by_heads n) (new_ring (by_heads n) []) (calls_among ls)).stations 0 n

-- by the script that the text is; a text that is none has one refused line
abbrev pub script_text : Result (ℕ × List (Result Call Refusal)) (ℕ × Refusal) → List ℕ
script_text (Ok (n, ls)) = performed_text n ls
script_text (Err (line, e)) = ended (refused_line line (number_of e))

abbrev pub print_of : List ℕ → List ℕ
print_of text = script_text (script_of text)

-- ---- a text that grows

-- more is added to a text; where memory is wanting, some of it may be
abbrev pub Extended : List ℕ → List ℕ → List ℕ → Result (Unit {0}) AllocError → Type 0
Extended more before after (Ok _) = after ≡ before ++ more
Extended more before after (Err _) = Unit {0}
