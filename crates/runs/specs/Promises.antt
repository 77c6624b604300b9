-- The promises about runs: for every roll of 1 to 8 stations, every voting rule that keeps the laws, every book,
-- every starting state and every list of calls, refused ones among them. Assumes nothing.
use Rattle.std.specs.Prelude.{◌≡◌, ℕ, zero, suc, ◌+◌, ◌*◌, ◌^◌, ◌<◌, ◌≤◌, Bool, true, false, ◌⊎◌, List, [], ◌∷◌, ◌++◌, length, take, Some, None, Option}
use Rattle.std.specs.List.{slice_get}
use Rattle.protocol.specs.Limits.{max_stations, last_turn_number}
use Rattle.protocol.specs.declared.entry.Entry.{Entry}
use Rattle.vote.specs.Mask.{Share, Within, everyone}
use Rattle.journal.specs.declared.state.Cause.TheVariants.{Stopped}
use Rattle.journal.specs.declared.state.State.TheVariants.{Running, Out}
use Rattle.journal.specs.Core.{is_running}
use Rattle.runs.specs.declared.call.Call.{Call}
use Rattle.runs.specs.declared.call.Call.TheVariants as call
use Rattle.runs.specs.Masks.{mask_of}
use Rattle.station.specs.Model.{Model, firm_part}
use Rattle.runs.specs.Rings.{Rules, Ring, line, step, run, new_ring}

-- the laws of a voting rule on the masks of a roll of n stations
pub record Laws (n : ℕ) (vote : ℕ → Bool) : Type 0 where
  -- two sets that have the vote share a station
  pub shares : (v w : ℕ) → v < 2 ^ n → w < 2 ^ n → vote v ≡ true → vote w ≡ true → Share n v w
  -- adding stations never takes the vote away
  pub grows : (v w : ℕ) → v < 2 ^ n → w < 2 ^ n → Within v w → vote v ≡ true → vote w ≡ true
  -- the whole roll has the vote
  pub all : vote (everyone n) ≡ true

-- a list begins another that starts with all its elements, in order
pub record Begins {A : Type 0} (a b : List A) : Type 0 where
  pub rest : List A
  pub joins : a ++ rest ≡ b

module _ {S : Type 0} where
  -- station s of the ring is x
  abbrev pub Is : Ring S → ℕ → Model S → Type 0
  Is r s x = slice_get r.stations s ≡ Some x

  abbrev pub Runs : Model S → Type 0
  Runs x = x.core.state ≡ Running

  -- ---- firm parts

  -- one firm part begins the other, and equally long ones give equal books
  pub record Agree (x y : Model S) : Type 0 where
    pub begins : Begins (firm_part x.core) (firm_part y.core) ⊎ Begins (firm_part y.core) (firm_part x.core)
    pub books : length (firm_part x.core) ≡ length (firm_part y.core) → x.book ≡ y.book

  -- any two stations agree, whether they run, join or are out
  abbrev pub FirmPartsAgree : Ring S → Type 0
  FirmPartsAgree r = (s m : ℕ) (x y : Model S) → Is r s x → Is r m y → Agree x y

  -- ---- journals

  -- two journals with an entry of the same turn at the same place agree on it and on everything before it
  abbrev pub JournalsMatch : Ring S → Type 0
  JournalsMatch r =
      (s m : ℕ) (x y : Model S) → Is r s x → Is r m y → (k : ℕ) (e f : Entry) →
      slice_get x.core.journal k ≡ Some e → slice_get y.core.journal k ≡ Some f → e.turn ≡ f.turn →
      (e.place ≡ suc k) × (e ≡ f) × (take k x.core.journal ≡ take k y.core.journal)

  -- ---- calm runs

  -- no frame waits for a running station
  abbrev pub Quiet : Ring S → Type 0
  Quiet r = (s : ℕ) (x : Model S) → Is r s x → Runs x → line r s ≡ []

  -- the test of running, for the stations of the roll
  abbrev pub running : Option (Model S) → Bool
  running None = false
  running (Some x) = is_running x.core.state

  -- only stopped stations are out, and the rest run and hold one journal
  pub record Together (r : Ring S) : Type 0 where
    pub states : (s : ℕ) (x : Model S) → Is r s x → Runs x ⊎ (x.core.state ≡ Out Stopped)
    pub journals : (s m : ℕ) (x y : Model S) → Is r s x → Is r m y → Runs x → Runs y → x.core.journal ≡ y.core.journal

  -- an entry is older than every turn after its own: each entry, of any journal, that is older than turn t is firm at each running station
  abbrev pub OlderFirm : ℕ → Ring S → Type 0
  OlderFirm t r =
      (s m : ℕ) (x y : Model S) → Is r s x → Runs x → Is r m y → (k : ℕ) (e : Entry) →
      slice_get y.core.journal k ≡ Some e → e.turn < t → slice_get (firm_part x.core) k ≡ Some e

module _ {S : Type 0} (R : Rules S) where
  abbrev pub Accepted : Ring S → Call → Type 0
  Accepted r c = (step R r c).0 ≡ 0

  -- the running stations have the vote
  abbrev pub RunningVote : Ring S → Type 0
  RunningVote r = R.vote (mask_of R.size (λ s. running (slice_get r.stations s))) ≡ true

  -- what an accepted call must be in a calm run: no lose, no enter, and a turn only where no frame waits for a running station
  abbrev pub CalmCall : Ring S → Call → Type 0
  CalmCall r (call.Note s note) = Unit {0}
  CalmCall r call.Turn = Quiet r
  CalmCall r (call.Take s) = Unit {0}
  CalmCall r (call.Lose s) = ⊥
  CalmCall r (call.Stop s) = Unit {0}
  CalmCall r (call.Enter s) = ⊥

  -- each accepted call is calm, and at the end no frame waits for a running station and the running stations have the vote
  abbrev pub Calm : Ring S → List Call → Type 0
  Calm r [] = Quiet r × RunningVote r
  Calm r (c ∷ cs) = (Accepted r c → CalmCall r c) × Calm (step R r c).1 cs

  -- 1 for a turn that was answered 0
  abbrev pub one_turn : ℕ → Call → ℕ
  one_turn zero call.Turn = 1
  one_turn zero (call.Note s note) = 0
  one_turn zero (call.Take s) = 0
  one_turn zero (call.Lose s) = 0
  one_turn zero (call.Stop s) = 0
  one_turn zero (call.Enter s) = 0
  one_turn (suc k) c = 0

  -- how many turns are accepted
  abbrev pub turns : Ring S → List Call → ℕ
  turns r [] = 0
  turns r (c ∷ cs) = one_turn (step R r c).0 c + turns (step R r c).1 cs

  -- the call is no accepted stop
  abbrev pub UnstoppedCall : Ring S → Call → Type 0
  UnstoppedCall r (call.Note s note) = Unit {0}
  UnstoppedCall r call.Turn = Unit {0}
  UnstoppedCall r (call.Take s) = Unit {0}
  UnstoppedCall r (call.Lose s) = Unit {0}
  UnstoppedCall r (call.Stop s) = Accepted r (call.Stop s) → ⊥
  UnstoppedCall r (call.Enter s) = Unit {0}

  -- no stop is accepted
  abbrev pub Unstopped : Ring S → List Call → Type 0
  Unstopped r [] = Unit {0}
  Unstopped r (c ∷ cs) = UnstoppedCall r c × Unstopped (step R r c).1 cs

  -- 3n turns or more were accepted, and no stop after the first of the last 3n: the calls before that turn, and those after it
  pub record ThreeRounds (b : S) (calls : List Call) : Type 0 where
    pub before : List Call
    pub after : List Call
    pub split : calls ≡ before ++ call.Turn ∷ after
    pub first : Accepted (run R (new_ring R b) before) call.Turn
    pub rounds : turns (run R (new_ring R b) before) (call.Turn ∷ after) ≡ 3 * R.size
    pub unstopped : Unstopped (step R (run R (new_ring R b) before) call.Turn).1 after

  -- the number of the first of the last 3n accepted turns
  abbrev pub first_turn : {b : S} {calls : List Call} → ThreeRounds b calls → ℕ
  first_turn {b} {calls} h = (run R (new_ring R b) h.before).turn

  -- a turn is refused only after number 1,000,000
  abbrev pub TurnsOpen : Ring S → Type 0
  TurnsOpen r = r.turn ≤ last_turn_number → Accepted r call.Turn

  -- all that is promised of the ring r that some calls make of a new one
  pub record Kept (b : S) (calls : List Call) (r : Ring S) : Type 0 where
    pub firm_parts : FirmPartsAgree r
    pub journals : JournalsMatch r
    pub turns_open : TurnsOpen r
    pub together : Calm (new_ring R b) calls → Together r
    pub settles : Calm (new_ring R b) calls → (h : ThreeRounds b calls) → OlderFirm (first_turn h) r

-- the promises, for books whose states are S
abbrev pub Promises : Type 0 → Type 0
Promises S =
    (R : Rules S) (b : S) → 1 ≤ R.size → R.size ≤ max_stations → Laws R.size R.vote →
    (calls : List Call) → Kept R b calls (run R (new_ring R b) calls)
