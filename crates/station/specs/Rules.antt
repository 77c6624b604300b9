-- The calls on a station: when each is refused, and what it makes of the station. Assumes nothing.
use Rattle.std.specs.Prelude.{◌≡◌, ℕ, Bool, cond, List, [], ◌∷◌, ◌++◌, length, Some, None, Ok, Err, Option, Result, nat_lt}
use Rattle.protocol.specs.Limits.{outbox_places, roll_fits}
use Rattle.protocol.specs.declared.note.Note.{Note}
use Rattle.protocol.specs.declared.frame.Frame.{Frame}
use Rattle.protocol.specs.declared.refusal.Refusal.{Refusal}
use Rattle.protocol.specs.declared.refusal.Refusal.TheVariants.{NotOnRoll, IsOut, OutboxFull, NotOut, RollSize}
use Rattle.protocol.specs.declared.refusal.MakeError.{MakeError}
use Rattle.protocol.specs.declared.refusal.MakeError.TheVariants.{Refused, Memory}
use Rattle.wires.specs.Lines.{Lines}
use Rattle.wires.specs.Calls.{posted_all}
use Rattle.journal.specs.declared.state.State.TheVariants.{Joining, Out}
use Rattle.journal.specs.declared.state.Cause.TheVariants.{Stopped}
use Rattle.journal.specs.Peers.{unwished}
use Rattle.journal.specs.Core.{Core, with_state, with_peers, is_out}
use Rattle.journal.specs.Settle.{settle}
use Rattle.taking.specs.Take.{taken}
use Rattle.turning.specs.declared.token.Token.{Token}
use Rattle.turning.specs.Posts.{Posting}
use Rattle.turning.specs.Steps.{Spoken}
use Rattle.turning.specs.Calls.{open_call, say_next, pass_turn}
use Rattle.turning.specs.Whole.{turn_call}
use Rattle.station.specs.Model.{Model, moved}

-- the refusal of station number me on a roll of so many, if any
abbrev pub new_refused : ℕ → ℕ → Option Refusal
new_refused me roll = cond (nat_lt me roll) (cond (roll_fits roll) None (Some RollSize)) (Some NotOnRoll)

-- why no station was made: the refusal, or else want of memory
abbrev pub NotMade : Option Refusal → MakeError → Type 0
NotMade o (Refused r) = o ≡ Some r
NotMade o (Memory _) = o ≡ None

-- a station that enters becomes joining and has no wishes; the rest stays, and the firm count is worked out again
abbrev pub entered : Core → Core
entered m = settle (with_state Joining (with_peers (unwished m.peers) m))

-- what a call answers, and the station after it: y where it is not refused, x where it is
abbrev pub answered : {A : Type 0} → Option Refusal → A → A → Result (Unit {0}) Refusal × A
answered None y x = (Ok tt, y)
answered (Some r) y x = (Err r, x)

-- what a call posts beside it
abbrev pub Acting : Type 0 → Type 0
Acting S = Model S × List Frame

module _ {S : Type 0} where
  abbrev pub with_core : Core → Model S → Model S
  with_core m x = record { core = m; outbox = x.outbox; book = x.book }

  -- ---- note

  abbrev pub note_refused : Model S → Option Refusal
  note_refused x =
      cond (is_out x.core.state) (Some IsOut)
      (cond (nat_lt (length x.outbox) outbox_places) None (Some OutboxFull))

  abbrev pub noted : Note → Model S → Model S
  noted n x = record { core = x.core; outbox = x.outbox ++ n ∷ []; book = x.book }

  abbrev pub note_call : Note → Model S → Result (Unit {0}) Refusal × Model S
  note_call n x = answered (note_refused x) (noted n x) x

  -- ---- stop

  -- stop and take are for a station that is not out
  abbrev pub out_refused : Model S → Option Refusal
  out_refused x = cond (is_out x.core.state) (Some IsOut) None

  abbrev pub stopped : Model S → Model S
  stopped x = with_core (with_state (Out Stopped) x.core) x

  abbrev pub stop_call : Model S → Result (Unit {0}) Refusal × Model S
  stop_call x = answered (out_refused x) (stopped x) x

  -- ---- opening and saying, which leave the firm count and the book as they are

  abbrev pub opened : Result Token Refusal × Posting → Model S → Result Token Refusal × Acting S
  opened q x = (q.0, (with_core q.1.0 x, q.1.1))

  abbrev pub open_station : (ℕ → Bool) → ℕ → Model S → Result Token Refusal × Acting S
  open_station vote t x = opened (open_call vote t x.core) x

  abbrev pub said : (Token × Bool) × Spoken → Model S → (Token × Bool) × Acting S
  said q x = (q.0, (record { core = q.1.1.0; outbox = q.1.0; book = x.book }, q.1.1.1))

  abbrev pub say_station : Token → Model S → (Token × Bool) × Acting S
  say_station k x = said (say_next k x.outbox x.core) x

-- ---- the calls that work the firm count out again, and give the book the notes that are newly firm
module _ {S : Type 0} (next : S → Note → S) where
  abbrev pub took : (ℕ → Bool) → Frame → Model S → Model S
  took vote f x = moved next x.outbox (taken vote f x.core) x

  abbrev pub take_call : (ℕ → Bool) → Frame → Model S → Result (Unit {0}) Refusal × Model S
  take_call vote f x = answered (out_refused x) (took vote f x) x

  abbrev pub enter_refused : Model S → Option Refusal
  enter_refused x = cond (is_out x.core.state) None (Some NotOut)

  abbrev pub enters : Model S → Model S
  enters x = moved next x.outbox (entered x.core) x

  abbrev pub enter_call : Model S → Result (Unit {0}) Refusal × Model S
  enter_call x = answered (enter_refused x) (enters x) x

  abbrev pub passed : Posting → Model S → Acting S
  passed q x = (moved next x.outbox q.0 x, q.1)

  abbrev pub pass_station : Token → Model S → Acting S
  pass_station k x = passed (pass_turn k x.core) x

  abbrev pub turned : Result (Unit {0}) Refusal × Spoken → Model S → Result (Unit {0}) Refusal × Acting S
  turned q x = (q.0, (moved next q.1.0 q.1.1.0 x, q.1.1.1))

  abbrev pub turn_station : (ℕ → Bool) → ℕ → Model S → Result (Unit {0}) Refusal × Acting S
  turn_station vote t x = turned (turn_call vote t x.outbox x.core) x

-- a station that became y, and lines that became v, as a rule says
pub record Acted {S : Type 0} (s : ℕ) (q : Acting S) (y : Model S) (w v : Lines Frame) : Type 0 where
  pub station : y ≡ q.0
  pub lines : v ≡ posted_all w s q.1
