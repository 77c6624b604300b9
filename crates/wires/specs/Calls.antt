-- What the calls of a wire answer, and the lines after each. Assumes nothing.
use Rattle.std.specs.Prelude.{ℕ, cond, not, ◌&&◌, List, [], ◌∷◌, Ok, Err, Result, ◌==◌, nat_lt}
use Rattle.protocol.specs.Limits.{line_places}
use Rattle.protocol.specs.declared.refusal.Refusal.{Refusal}
use Rattle.protocol.specs.declared.refusal.Refusal.TheVariants.{NotOnRoll}
use Rattle.queue.specs.Contents.{offered, rest}
use Rattle.wires.specs.Lines.{Lines}

-- x, or the refusal of a station that is not on the roll
abbrev pub answer : {X : Type 0} → ℕ → ℕ → X → Result X Refusal
answer roll s x = cond (nat_lt s roll) (Ok x) (Err NotOnRoll)

-- a line that is offered a frame, which it loses if it is full
abbrev pub offering : {T : Type 0} → T → List T → List T
offering f = offered line_places f

-- the line of s changed by g, the others as they were
abbrev pub changed : {T : Type 0} → Lines T → ℕ → (List T → List T) → Lines T
changed w s g = record { roll = w.roll; at = λ t. cond (t == s) (g (w.at t)) (w.at t) }

-- the lines of the stations below k offered the frame, but for the sender's
abbrev pub offered_below : {T : Type 0} → Lines T → ℕ → ℕ → T → Lines T
offered_below w k sender f = record { roll = w.roll; at = λ t. cond (nat_lt t k && not (t == sender)) (offering f (w.at t)) (w.at t) }

abbrev pub posted : {T : Type 0} → Lines T → ℕ → T → Lines T
posted w sender f = cond (nat_lt sender w.roll) (offered_below w w.roll sender f) w

-- the lines after a station has posted these frames, the first of them first
unfoldable pub posted_all : {T : Type 0} → Lines T → ℕ → List T → Lines T
posted_all w sender [] = w
posted_all w sender (f ∷ fs) = posted_all (posted w sender f) sender fs

abbrev pub taken : {T : Type 0} → Lines T → ℕ → Lines T
taken w s = cond (nat_lt s w.roll) (changed w s rest) w

abbrev pub cleared : {T : Type 0} → Lines T → ℕ → Lines T
cleared w s = cond (nat_lt s w.roll) (changed w s (λ _. [])) w
