-- What a text is as a script. Assumes nothing.
use Rattle.std.specs.Prelude.{◌≡◌, ℕ, true, cond, List, [], ◌∷◌, map, length, is_ok, Ok, Err, vec_items, Result, nat_le}
use Rattle.protocol.specs.Limits.{roll_fits}
use Rattle.protocol.specs.declared.refusal.Refusal.{Refusal}
use Rattle.protocol.specs.declared.refusal.Refusal.TheVariants.{RollSize, MisshapenLine, CommandFirst, TextTooLong}
use Rattle.script.specs.Limits.{max_text}
use Rattle.script.specs.Lines.{lines}
use Rattle.script.specs.Reading.{reading}
use Rattle.runs.specs.declared.call.Call.{Call}
use Rattle.script.specs.declared.command.Command.{Command}
use Rattle.script.specs.declared.command.Command.TheVariants.{Roll, Call as Calls}
use Rattle.script.specs.declared.script.Script.{Script}
use Rattle.script.specs.declared.script.ScriptError.{ScriptError}
use Rattle.script.specs.declared.script.ScriptError.TheVariants.{Refused, Memory}

-- the first line tells the size of the roll
abbrev pub as_roll : Result Command Refusal → Result ℕ Refusal
as_roll (Ok (Roll n)) = cond (roll_fits n) (Ok n) (Err RollSize)
as_roll (Ok (Calls c)) = Err CommandFirst
as_roll (Err e) = Err e

-- a later line is a call
abbrev pub as_call : Result Command Refusal → Result Call Refusal
as_call (Ok (Roll n)) = Err MisshapenLine
as_call (Ok (Calls c)) = Ok c
as_call (Err e) = Err e

abbrev pub later_line : List ℕ → Result Call Refusal
later_line line = as_call (reading line)

-- the calls and refusals of lines 2, 3 and so on, under a first line that is a roll
abbrev pub with_roll : Result ℕ Refusal → List (Result Call Refusal) → Result (ℕ × List (Result Call Refusal)) (ℕ × Refusal)
with_roll (Ok n) calls = Ok (n, calls)
with_roll (Err e) calls = Err (1, e)

-- a text has a first line always
abbrev pub script_of_lines : List (List ℕ) → Result (ℕ × List (Result Call Refusal)) (ℕ × Refusal)
script_of_lines [] = Err (1, MisshapenLine)
script_of_lines (l ∷ ls) = with_roll (as_roll (reading l)) (map later_line ls)

-- the roll with what each later line is, or the number of a line and why the whole text is refused
abbrev pub script_of : List ℕ → Result (ℕ × List (Result Call Refusal)) (ℕ × Refusal)
script_of text = cond (nat_le (length text) max_text) (script_of_lines (lines text)) (Err (0, TextTooLong))

-- a text is read as its script; memory may be wanting only where it has one
abbrev pub ReadsScript : List ℕ → Result Script ScriptError → Type 0
ReadsScript text (Ok s) = script_of text ≡ Ok (s.roll, vec_items s.calls)
ReadsScript text (Err (Refused line e)) = script_of text ≡ Err (line, e)
ReadsScript text (Err (Memory e)) = is_ok (script_of text) ≡ true
