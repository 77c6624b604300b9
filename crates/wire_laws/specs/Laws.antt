-- What several calls on a wire come to. Assumes nothing.
use Rattle.std.specs.Prelude.{◌≡◌, ℕ, ◌<◌, Bool, cond, ◌&&◌, List, ◌++◌, take, Ok, Err, Option, Result, ◌≢◌, nat_lt}
use Rattle.protocol.specs.Limits.{line_places}
use Rattle.protocol.specs.declared.refusal.Refusal.{Refusal}
use Rattle.protocol.specs.declared.refusal.Refusal.TheVariants.{NotOnRoll}
use Rattle.queue.specs.Contents.{oldest}
use Rattle.wires.specs.Lines.{Lines}
use Rattle.wires.specs.Calls.{posted, taken}

-- each other station's line goes on with the frames in the order of posting, as far as it has room
abbrev pub InOrder : {T : Type 0} → Lines T → ℕ → List T → Lines T → Type 0
InOrder w sender frames after = (t : ℕ) → t < w.roll → (t ≢ sender) → after.at t ≡ take line_places (w.at t ++ frames)

-- a post by the sender, and a take at the station after it: both have to be on the roll
abbrev pub both_on_roll : {T : Type 0} → Lines T → ℕ → ℕ → Bool
both_on_roll w sender station = nat_lt station w.roll && nat_lt sender w.roll

abbrev pub post_and_take_answer : {T : Type 0} → Lines T → ℕ → ℕ → T → Result (Option T) Refusal
post_and_take_answer w sender station f = cond (both_on_roll w sender station) (Ok (oldest ((posted w sender f).at station))) (Err NotOnRoll)

abbrev pub post_and_take_lines : {T : Type 0} → Lines T → ℕ → ℕ → T → Lines T
post_and_take_lines w sender station f = cond (both_on_roll w sender station) (taken (posted w sender f) station) w
