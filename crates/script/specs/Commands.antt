-- How each command is written. Assumes nothing.
use Rattle.std.specs.Prelude.{ℕ, ◌^◌, ◌<◌, List, ◌++◌, codes, decimal}
use Rattle.runs.specs.declared.call.Call.{Call}
use Rattle.runs.specs.declared.call.Call.TheVariants.{Note, Turn, Take, Lose, Stop, Enter}
use Rattle.script.specs.declared.command.Command.{Command}
use Rattle.script.specs.declared.command.Command.TheVariants.{Roll, Call as Calls}

abbrev pub written_call : Call → List ℕ
written_call (Note s x) =
    codes "do=note at=" ++ (decimal s ++ (codes " a=" ++ (decimal x.a ++ (codes " b=" ++ (decimal x.b
    ++ (codes " c=" ++ (decimal x.c ++ (codes " d=" ++ decimal x.d))))))))
written_call Turn = codes "do=turn"
written_call (Take s) = codes "do=take at=" ++ decimal s
written_call (Lose s) = codes "do=lose at=" ++ decimal s
written_call (Stop s) = codes "do=stop at=" ++ decimal s
written_call (Enter s) = codes "do=enter at=" ++ decimal s

abbrev pub written : Command → List ℕ
written (Roll n) = codes "roll=" ++ decimal n
written (Calls c) = written_call c

-- the numbers of a command are of 32 bits
abbrev pub SizedCall : Call → Type 0
SizedCall (Note s x) = (s < 2 ^ 32) × (x.a < 2 ^ 32) × (x.b < 2 ^ 32) × (x.c < 2 ^ 32) × (x.d < 2 ^ 32)
SizedCall Turn = Unit {0}
SizedCall (Take s) = s < 2 ^ 32
SizedCall (Lose s) = s < 2 ^ 32
SizedCall (Stop s) = s < 2 ^ 32
SizedCall (Enter s) = s < 2 ^ 32

abbrev pub Sized : Command → Type 0
Sized (Roll n) = n < 2 ^ 32
Sized (Calls c) = SizedCall c
