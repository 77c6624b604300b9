-- A ring: its stations, a line of frames for each, and the number of the next turn; and what a call answers and leaves. Assumes nothing.
use Rattle.std.specs.Prelude.{ℕ, zero, suc, ◌-◌, ◌%◌, Bool, cond, List, [], ◌∷◌, Some, None, Ok, Err, Option, Result, slice_set}
use Rattle.std.specs.List.{slice_get}
use Rattle.protocol.specs.declared.note.Note.{Note}
use Rattle.protocol.specs.declared.frame.Frame.{Frame}
use Rattle.protocol.specs.declared.refusal.Refusal.{Refusal}
use Rattle.protocol.specs.declared.refusal.Refusal.TheVariants.{NotOnRoll, IsOut, WrongTurn, LineEmpty}
use Rattle.protocol.specs.Refusals.{number_of}
use Rattle.wires.specs.Lines.{Lines, silent}
use Rattle.wires.specs.Calls.{taken, cleared, posted_all}
use Rattle.journal.specs.Core.{is_out}
use Rattle.station.specs.Model.{Model, new_model}
use Rattle.station.specs.Rules.{Acting, note_call, stop_call, took, enter_call, turn_station}
use Rattle.runs.specs.declared.call.Call.{Call}
use Rattle.runs.specs.declared.call.Call.TheVariants as call

-- what a ring is made with: the size of the roll, which sets have the vote, and what a book does with a note; S is what a book can be
pub record Rules (S : Type 0) : Type 0 where
  pub size : ℕ
  pub vote : ℕ → Bool
  pub next : S → Note → S

pub record Ring (S : Type 0) : Type 0 where
  pub stations : List (Model S)
  pub lines : Lines Frame
  pub turn : ℕ

-- what a call answers (0, or a refusal's number), and the ring after it
abbrev pub Answer : Type 0 → Type 0
Answer S = ℕ × Ring S

-- the number that a result is answered by
abbrev pub result_number : {A : Type 0} → Result A Refusal → ℕ
result_number (Ok _) = 0
result_number (Err e) = number_of e

module _ {S : Type 0} where
  -- the frames that wait for station s
  abbrev pub line : Ring S → ℕ → List Frame
  line r s = r.lines.at s

  -- a refused call leaves the ring as it was
  abbrev pub refused : Ring S → Refusal → Answer S
  refused r e = (number_of e, r)

  -- an accepted call at station s: it has become x, and the lines w
  abbrev pub accepted : Ring S → ℕ → Lines Frame → Model S → Answer S
  accepted r s w x = (0, record { stations = slice_set r.stations s x; lines = w; turn = r.turn })

  -- what the ring makes of a call on its station s: where it is accepted, the lines are w then
  abbrev pub answer_of : Ring S → ℕ → Lines Frame → Result (Unit {0}) Refusal × Model S → Answer S
  answer_of r s w (Ok _, x) = accepted r s w x
  answer_of r s w (Err e, x) = refused r e

  -- by the station's being on the roll
  abbrev pub on_roll : Ring S → Option (Model S) → (Model S → Answer S) → Answer S
  on_roll r None act = refused r NotOnRoll
  on_roll r (Some x) act = act x

  -- by the oldest frame of a line
  abbrev pub on_oldest : Ring S → List Frame → (Frame → Answer S) → Answer S
  on_oldest r [] act = refused r LineEmpty
  on_oldest r (f ∷ l) act = act f

  -- station x, number s, had its turn: its frames are posted in order, and the next turn's number is one more
  abbrev pub turn_answer : Ring S → ℕ → Model S → Result (Unit {0}) Refusal × Acting S → Answer S
  turn_answer r s x (Ok _, q) = (
    0,
    record {
      stations = slice_set r.stations s q.0;
      lines = posted_all r.lines x.core.me q.1;
      turn = suc r.turn;
    },
  )
  turn_answer r s x (Err e, q) = refused r e

  -- so many stations of a new ring, numbered from s on
  unfoldable pub new_stations : ℕ → S → ℕ → ℕ → List (Model S)
  new_stations roll b s zero = []
  new_stations roll b s (suc k) = new_model s roll b ∷ new_stations roll b (suc s) k

module _ {S : Type 0} (R : Rules S) where
  unfoldable pub new_ring : S → Ring S
  new_ring b = record { stations = new_stations R.size b 0 R.size; lines = silent R.size; turn = 1 }

  -- each call at station x, which is number s
  abbrev pub note_at : Ring S → ℕ → Note → Model S → Answer S
  note_at r s note x = answer_of r s r.lines (note_call note x)

  abbrev pub take_at : Ring S → ℕ → Model S → Answer S
  take_at r s x =
      cond (is_out x.core.state) (refused r IsOut)
      (on_oldest r (line r s) λ f. accepted r s (taken r.lines s) (took R.next R.vote f x))

  abbrev pub lose_at : Ring S → ℕ → Model S → Answer S
  lose_at r s x = on_oldest r (line r s) λ f. (0, record { stations = r.stations; lines = taken r.lines s; turn = r.turn })

  abbrev pub stop_at : Ring S → ℕ → Model S → Answer S
  stop_at r s x = answer_of r s r.lines (stop_call x)

  abbrev pub enter_at : Ring S → ℕ → Model S → Answer S
  enter_at r s x = answer_of r s (cleared r.lines s) (enter_call R.next x)

  -- whose turn is next
  abbrev pub owner : Ring S → ℕ
  owner r = (r.turn - 1) % R.size

  -- the turn is refused where its station cannot open it
  abbrev pub turn_of : Ring S → ℕ → Option (Model S) → Answer S
  turn_of r s None = refused r WrongTurn
  turn_of r s (Some x) = turn_answer r s x (turn_station R.next R.vote r.turn x)

  unfoldable pub step : Ring S → Call → Answer S
  step r (call.Note s note) = on_roll r (slice_get r.stations s) (note_at r s note)
  step r call.Turn = turn_of r (owner r) (slice_get r.stations (owner r))
  step r (call.Take s) = on_roll r (slice_get r.stations s) (take_at r s)
  step r (call.Lose s) = on_roll r (slice_get r.stations s) (lose_at r s)
  step r (call.Stop s) = on_roll r (slice_get r.stations s) (stop_at r s)
  step r (call.Enter s) = on_roll r (slice_get r.stations s) (enter_at r s)

  -- the ring after some calls
  unfoldable pub run : Ring S → List Call → Ring S
  run r [] = r
  run r (c ∷ cs) = run (step r c).1 cs

  -- what they are answered, in order
  unfoldable pub answers : Ring S → List Call → List ℕ
  answers r [] = []
  answers r (c ∷ cs) = (step r c).0 ∷ answers (step r c).1 cs
