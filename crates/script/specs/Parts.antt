-- A written command in three parts: its first key, that key's value, and the arguments after them. Assumes nothing.
use Rattle.std.specs.Prelude.{◌≡◌, ℕ, List, [], ◌∷◌, ◌++◌, codes, decimal}
use Rattle.protocol.specs.declared.note.Note.{Note}
use Rattle.runs.specs.declared.call.Call.{Call}
use Rattle.runs.specs.declared.call.Call.TheVariants.{Note as NoteCall, Turn, Take, Lose, Stop, Enter}
use Rattle.script.specs.declared.command.Command.{Command}
use Rattle.script.specs.declared.command.Command.TheVariants.{Roll, Call as Calls}
use Rattle.script.specs.declared.verb.Verb.{Verb}
use Rattle.script.specs.declared.verb.Verb.TheVariants.{Note as NoteVerb, Turn as TurnVerb, Take as TakeVerb, Lose as LoseVerb, Stop as StopVerb, Enter as EnterVerb}

-- a space, a key, `=` and a number, before what follows
abbrev pub numbered : List ℕ → ℕ → List ℕ → List ℕ
numbered key n rest = 32 ∷ (key ++ (61 ∷ (decimal n ++ rest)))

abbrev pub station_part : ℕ → List ℕ
station_part n = numbered (codes "at") n []

abbrev pub note_part : ℕ → Note → List ℕ
note_part s x =
    numbered (codes "at") s (numbered (codes "a") x.a (numbered (codes "b") x.b (numbered (codes "c") x.c
    (numbered (codes "d") x.d []))))

-- the word for what is to be done
abbrev pub spelled : Verb → List ℕ
spelled NoteVerb = codes "note"
spelled TurnVerb = codes "turn"
spelled TakeVerb = codes "take"
spelled LoseVerb = codes "lose"
spelled StopVerb = codes "stop"
spelled EnterVerb = codes "enter"

abbrev pub verb_of : Call → Verb
verb_of (NoteCall s x) = NoteVerb
verb_of Turn = TurnVerb
verb_of (Take s) = TakeVerb
verb_of (Lose s) = LoseVerb
verb_of (Stop s) = StopVerb
verb_of (Enter s) = EnterVerb

abbrev pub call_arguments : Call → List ℕ
call_arguments (NoteCall s x) = note_part s x
call_arguments Turn = []
call_arguments (Take s) = station_part s
call_arguments (Lose s) = station_part s
call_arguments (Stop s) = station_part s
call_arguments (Enter s) = station_part s

abbrev pub key_of : Command → List ℕ
key_of (Roll n) = codes "roll"
key_of (Calls c) = codes "do"

abbrev pub value_of : Command → List ℕ
value_of (Roll n) = decimal n
value_of (Calls c) = spelled (verb_of c)

abbrev pub arguments_of : Command → List ℕ
arguments_of (Roll n) = []
arguments_of (Calls c) = call_arguments c

-- a call of a verb with the arguments t
abbrev pub Does : Verb → List ℕ → Call → Type 0
Does v t c = (spelled (verb_of c) ≡ spelled v) × (t ≡ call_arguments c)

-- a command under a key and a value, with the arguments t
abbrev pub Asks : List ℕ → List ℕ → List ℕ → Command → Type 0
Asks key value t c = (key ≡ key_of c) × (value ≡ value_of c) × (t ≡ arguments_of c)

-- nothing, or a space and more: what can follow a value
abbrev pub Follows : List ℕ → Type 0
Follows [] = Unit {0}
Follows (x ∷ xs) = x ≡ 32
