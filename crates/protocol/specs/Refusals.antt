-- The number of each refusal, and its words. Assumes nothing.
use Rattle.std.specs.Prelude.{ℕ, List, codes}
use Rattle.protocol.specs.declared.refusal.MakeError.{MakeError}
use Rattle.protocol.specs.declared.refusal.MakeError.TheVariants.{Refused, Memory}
use Rattle.protocol.specs.declared.refusal.Refusal.{Refusal}
use Rattle.protocol.specs.declared.refusal.Refusal.TheVariants.{NotOnRoll, IsOut, OutboxFull, WrongTurn, LineEmpty, NotOut, RollSize, TooFewPlaces, WeightRange, MisshapenLine, CommandFirst, TextTooLong, BufferTooShort}

abbrev pub number_of : Refusal → ℕ
number_of NotOnRoll = 1
number_of IsOut = 2
number_of OutboxFull = 3
number_of WrongTurn = 4
number_of LineEmpty = 5
number_of NotOut = 6
number_of RollSize = 7
number_of TooFewPlaces = 8
number_of WeightRange = 9
number_of MisshapenLine = 10
number_of CommandFirst = 11
number_of TextTooLong = 12
number_of BufferTooShort = 13

abbrev pub words_of : Refusal → List ℕ
words_of NotOnRoll = codes "the station is not on the roll"
words_of IsOut = codes "the station is out"
words_of OutboxFull = codes "the outbox is full"
words_of WrongTurn = codes "the turn is not one that the station may open"
words_of LineEmpty = codes "no frame waits in the line"
words_of NotOut = codes "the station to enter is not out"
words_of RollSize = codes "the roll has not 1 to 8 stations"
words_of TooFewPlaces = codes "the memory for the wire has too few places"
words_of WeightRange = codes "a weight is over 100, or all are 0"
words_of MisshapenLine = codes "the line is not one of the script's forms"
words_of CommandFirst = codes "the first line is a command"
words_of TextTooLong = codes "the text is over 16,384 bytes"
words_of BufferTooShort = codes "the buffer is shorter than the line"

abbrev pub why_not_made : MakeError → List ℕ
why_not_made (Refused r) = words_of r
why_not_made (Memory _) = codes "memory is wanting"
