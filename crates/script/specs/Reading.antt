-- Which command a line is. Assumes nothing.
use Rattle.std.specs.Prelude.{◌≡◌, ℕ, ◌+◌, ◌-◌, ◌*◌, ◌^◌, Bool, true, cond, ◌&&◌, List, [], ◌∷◌, Some, None, Ok, Err, Option, Result, ◌≢◌, nat_lt, slice_index}
use Rattle.std.specs.Char.{is_ascii_digit}
use Rattle.std.specs.Str.{bytes_eq}
use Rattle.protocol.specs.declared.refusal.Refusal.{Refusal}
use Rattle.protocol.specs.declared.refusal.Refusal.TheVariants.{MisshapenLine}
use Rattle.script.specs.Commands.{written, Sized}
use Rattle.runs.specs.declared.call.Call.{Call}
use Rattle.runs.specs.declared.call.Call.TheVariants.{Note, Turn, Take, Lose, Stop, Enter}
use Rattle.script.specs.declared.command.Command.{Command}
use Rattle.script.specs.declared.command.Command.TheVariants.{Roll, Call as Calls}

-- a line is read as the command that is written so, and refused where none is
abbrev pub Reads : List ℕ → Result Command Refusal → Type 0
Reads line (Ok c) = (line ≡ written c) × Sized c
Reads line (Err e) = (e ≡ MisshapenLine) × ((c : Command) → Sized c → line ≢ written c)

-- two commands are never written alike
abbrev pub WrittenOnce : Type 0
WrittenOnce = (c k : Command) → Sized c → Sized k → written c ≡ written k → c ≡ k

-- the same as a function of the line, which tries each form with the numbers that stand in the line

-- the numbers of a text, one for each run of digits, after the front of a run that is worth v
abbrev pub numbers : Option ℕ → List ℕ → List ℕ
numbers None [] = []
numbers (Some v) [] = v ∷ []
numbers None (x ∷ xs) = cond (is_ascii_digit x) (numbers (Some (x - 48)) xs) (numbers None xs)
numbers (Some v) (x ∷ xs) = cond (is_ascii_digit x) (numbers (Some (v * 10 + (x - 48))) xs) (v ∷ numbers None xs)

-- each form with the numbers ns
abbrev pub forms : List ℕ → List Command
forms ns =
    Roll (slice_index ns 0) ∷ Calls Turn ∷ Calls (Take (slice_index ns 0)) ∷ Calls (Lose (slice_index ns 0)) ∷ Calls (Stop (slice_index ns 0))
    ∷ Calls (Enter (slice_index ns 0))
    ∷ Calls (Note (slice_index ns 0) (record { a = slice_index ns 1; b = slice_index ns 2; c = slice_index ns 3; d = slice_index ns 4 })) ∷ []

abbrev pub is_u32 : ℕ → Bool
is_u32 n = nat_lt n (2 ^ 32)

abbrev pub sized_call : Call → Bool
sized_call (Note s x) = is_u32 s && (is_u32 x.a && (is_u32 x.b && (is_u32 x.c && is_u32 x.d)))
sized_call Turn = true
sized_call (Take s) = is_u32 s
sized_call (Lose s) = is_u32 s
sized_call (Stop s) = is_u32 s
sized_call (Enter s) = is_u32 s

abbrev pub sized : Command → Bool
sized (Roll n) = is_u32 n
sized (Calls c) = sized_call c

-- the first of some commands that is written as the line
abbrev pub first_written : List ℕ → List Command → Result Command Refusal
first_written line [] = Err MisshapenLine
first_written line (c ∷ cs) = cond (sized c && bytes_eq line (written c)) (Ok c) (first_written line cs)

unfoldable pub reading : List ℕ → Result Command Refusal
reading line = first_written line (forms (numbers None line))
