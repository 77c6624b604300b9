-- What a call can do, case by case.
use Rattle.std.proofs.Common.{◌≡◌, ℕ, suc, ◌-◌, ◌%◌, ◌≤◌, true, false, ◌&&◌, eqb, ltb, leb, List, [], ◌∷◌, length, set, Some, None, Option, Result, refl}
use Rattle.std.specs.List.{slice_get}
use Rattle.std.proofs.lemmas.Bool.{cond_both, leb-true, and_parts}
use Rattle.protocol.specs.declared.note.Note.{Note}
use Rattle.protocol.specs.declared.frame.Frame.{Frame}
use Rattle.protocol.specs.declared.refusal.Refusal.{Refusal}
use Rattle.protocol.specs.declared.refusal.Refusal.TheVariants.{IsOut, OutboxFull, NotOut}
use Rattle.wires.specs.Calls.{taken, cleared, posted_all}
use Rattle.journal.specs.Journal.{last_turn}
use Rattle.journal.specs.Core.{is_out}
use Rattle.turning.specs.Steps.{Spoken}
use Rattle.turning.specs.Calls.{due}
use Rattle.turning.specs.Whole.{whole_turn, turn_call}
use Rattle.station.specs.Model.{Model, moved}
use Rattle.station.specs.Rules as station
use Rattle.runs.specs.declared.call.Call.{Call}
use Rattle.runs.specs.declared.call.Call.TheVariants.{Note as NoteCall, Turn, Take, Lose, Stop, Enter}
use Rattle.runs.specs.Rings.{Rules, Ring, Answer, line, accepted, answer_of, on_roll, on_oldest, turn_answer, owner, turn_of, note_at, take_at, lose_at, stop_at, enter_at, step}
use Rattle.runs.specs.Promises.{Is}

module _ {S : Type 0} (R : Rules S) where
  -- station x after turn t, and the frames that it posts
  abbrev pub own_turn : ℕ → Model S → Model S × List Frame
  own_turn t x = (
    moved R.next (whole_turn R.vote t x.outbox x.core).0 (whole_turn R.vote t x.outbox x.core).1.0 x,
    (whole_turn R.vote t x.outbox x.core).1.1,
  )

  -- the ring after the turn of station x, which is number s
  abbrev pub after_turn : Ring S → ℕ → Model S → Ring S
  after_turn r s x = record {
    stations = set r.stations s (own_turn r.turn x).0;
    lines = posted_all r.lines x.core.me (own_turn r.turn x).1;
    turn = suc r.turn;
  }

  abbrev pub take_frame : Frame → Model S → Model S
  take_frame f x = station.took R.next R.vote f x

  abbrev pub enter_station : Model S → Model S
  enter_station x = station.enters R.next x

  module _ (r : Ring S) where
    pub data Steps : Call → Answer S → Type 0 where
      refused : {c : Call} (k : ℕ) → Steps c (suc k, r)
      noted : (s : ℕ) (note : Note) (x : Model S) → Is r s x → is_out x.core.state ≡ false → Steps (NoteCall s note) (accepted r s r.lines (station.noted note x))
      turns : (x : Model S) → Is r (owner R r) x → r.turn ≤ 1000000 → Steps Turn (0, after_turn r (owner R r) x)
      takes : (s : ℕ) (x : Model S) (f : Frame) (l : List Frame) → Is r s x → is_out x.core.state ≡ false → line r s ≡ f ∷ l →
          Steps (Take s) (accepted r s (taken r.lines s) (take_frame f x))
      loses : (s : ℕ) (f : Frame) (l : List Frame) → line r s ≡ f ∷ l → Steps (Lose s) (0, record { stations = r.stations; lines = taken r.lines s; turn = r.turn })
      stops : (s : ℕ) (x : Model S) → Is r s x → is_out x.core.state ≡ false → Steps (Stop s) (accepted r s r.lines (station.stopped x))
      enters : (s : ℕ) (x : Model S) → Is r s x → is_out x.core.state ≡ true → Steps (Enter s) (accepted r s (cleared r.lines s) (enter_station x))

    on_roll_steps : (c : Call) (s : ℕ) (act : Model S → Answer S) → ((x : Model S) → Is r s x → Steps c (act x)) → Steps c (on_roll r (slice_get r.stations s) act)
    on_roll_steps c s act g = go (slice_get r.stations s) refl
      where
        go : (o : Option (Model S)) → slice_get r.stations s ≡ o → Steps c (on_roll r o act)
        go None e = refused 0
        go (Some x) e = g x e

    on_oldest_steps : (c : Call) (l : List Frame) (act : Frame → Answer S) → ((f : Frame) (k : List Frame) → l ≡ f ∷ k → Steps c (act f)) → Steps c (on_oldest r l act)
    on_oldest_steps c [] act g = refused 4
    on_oldest_steps c (f ∷ l) act g = g f l refl

    turn_steps : (o : Option (Model S)) → slice_get r.stations (owner R r) ≡ o → Steps Turn (turn_of R r (owner R r) o)
    unfolding turn_call
    turn_steps None e = refused 3
    turn_steps (Some x) e =
        cond_both (due r.turn x.core) _ _ (λ (q : Result (Unit {0}) Refusal × Spoken). Steps Turn (turn_answer r (owner R r) x (station.turned R.next q x)))
        (λ h. turns x e (soon h)) (λ _. refused 3)
      where
        soon : due r.turn x.core ≡ true → r.turn ≤ 1000000
        soon h =
            leb-true r.turn 1000000
            (and_parts (ltb 0 r.turn) (leb r.turn 1000000)
            (and_parts (ltb 0 r.turn && leb r.turn 1000000) (eqb ((r.turn - 1) % x.core.roll) x.core.me && ltb (last_turn x.core.journal) r.turn) h).0).1

    pub steps : (c : Call) → Steps c (step R r c)
    unfolding step
    steps (NoteCall s note) = on_roll_steps (NoteCall s note) s (note_at R r s note) λ x e.
        cond_both (is_out x.core.state) _ _ (λ (o : Option Refusal). Steps (NoteCall s note) (answer_of r s r.lines (station.answered o (station.noted note x) x)))
        (λ _. refused 1)
        (λ on. cond_both (ltb (length x.outbox) 16) None (Some OutboxFull) (λ (o : Option Refusal). Steps (NoteCall s note) (answer_of r s r.lines (station.answered o (station.noted note x) x)))
        (λ _. noted s note x e on) (λ _. refused 2))
    steps Turn = turn_steps (slice_get r.stations (owner R r)) refl
    steps (Take s) = on_roll_steps (Take s) s (take_at R r s) λ x e.
        cond_both (is_out x.core.state) _ _ (Steps (Take s)) (λ _. refused 1)
        (λ on. on_oldest_steps (Take s) (line r s) _ (λ f l q. takes s x f l e on q))
    steps (Lose s) = on_roll_steps (Lose s) s (lose_at R r s) λ x e. on_oldest_steps (Lose s) (line r s) _ (λ f l q. loses s f l q)
    steps (Stop s) = on_roll_steps (Stop s) s (stop_at R r s) λ x e.
        cond_both (is_out x.core.state) (Some IsOut) None (λ (o : Option Refusal). Steps (Stop s) (answer_of r s r.lines (station.answered o (station.stopped x) x)))
        (λ _. refused 1) (λ on. stops s x e on)
    steps (Enter s) = on_roll_steps (Enter s) s (enter_at R r s) λ x e.
        cond_both (is_out x.core.state) None (Some NotOut) (λ (o : Option Refusal). Steps (Enter s) (answer_of r s (cleared r.lines s) (station.answered o (enter_station x) x)))
        (λ out. enters s x e out) (λ _. refused 5)
