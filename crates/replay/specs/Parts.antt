-- What one line of a script is answered by. Assumes nothing.
use Rattle.std.specs.Prelude.{ℕ, List, drop, Ok, Err, Result, slice_index}
use Rattle.protocol.specs.Refusals.{number_of}
use Rattle.protocol.specs.declared.refusal.Refusal.{Refusal}
use Rattle.runs.specs.declared.call.Call.{Call}

-- a call by the first of the answers that the ring gave, and another line by its own refusal
abbrev pub answer_to : Result Call Refusal → List ℕ → ℕ
answer_to (Ok c) given = slice_index given 0
answer_to (Err e) given = number_of e

-- the answers to the lines after it
abbrev pub left_after : Result Call Refusal → List ℕ → List ℕ
left_after (Ok c) given = drop 1 given
left_after (Err e) given = given
