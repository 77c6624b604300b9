-- What a queue holds, and what each call makes of it. Assumes nothing.
use Rattle.std.specs.Prelude.{ℕ, ◌+◌, ◌-◌, ◌%◌, cond, List, [], ◌∷◌, ◌++◌, length, take, drop, Some, None, Option, nat_lt}
use Rattle.queue.specs.declared.Queue.{Queue}

-- the list read from place k on, round its end to the place before k
abbrev pub turned : {X : Type 0} → ℕ → List X → List X
turned k xs = drop k xs ++ take k xs

-- the items of a queue that is lent these places, oldest first
unfoldable pub contents : {X : Type 0} → Queue → List X → List X
contents q places = take q.len (turned (q.first % length places) places)

-- the queue that holds nothing, whatever it is lent
abbrev pub vacant : Queue
vacant = record { first = 0; len = 0 }

-- x behind the others, unless there are as many as there is room for
abbrev pub offered : {X : Type 0} → ℕ → X → List X → List X
offered room x xs = cond (nat_lt (length xs) room) (xs ++ x ∷ []) xs

abbrev pub oldest : {X : Type 0} → List X → Option X
oldest [] = None
oldest (x ∷ xs) = Some x

abbrev pub rest : {X : Type 0} → List X → List X
rest [] = []
rest (x ∷ xs) = xs

-- the place that lies i after first, of as many places as there is room
abbrev pub around : ℕ → ℕ → ℕ → ℕ
around room first i = cond (nat_lt i (room - first)) (first + i) (i - (room - first))
