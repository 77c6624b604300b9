-- What a call on a ring answers and leaves, at each exit; and the stations of a ring as items in memory. Assumes nothing.
use Rattle.std.proofs.Common.{◌≡◌, ℕ, zero, suc, ◌<◌, ◌≤◌, true, false, List, [], ◌∷◌, map, length, get_or, set, Some, None, Ok, Err, Option, Result, sym, refl, ap, ◌∙◌, arith}
use lib.Seq.{map-set}
use Rattle.std.specs.List.{slice_get}
use Rattle.std.proofs.lemmas.Bool.{cond-true, cond-false}
use Rattle.protocol.specs.declared.note.Note.{Note}
use Rattle.protocol.specs.declared.frame.Frame.{Frame}
use Rattle.protocol.specs.declared.refusal.Refusal.{Refusal}
use Rattle.protocol.specs.declared.refusal.Refusal.TheVariants.{NotOnRoll, IsOut, WrongTurn, LineEmpty}
use Rattle.queue.specs.Contents.{oldest}
use Rattle.wires.specs.Lines.{Lines}
use Rattle.wires.specs.Calls.{taken, cleared, posted_all}
use Rattle.journal.specs.Core.{is_out}
use Rattle.station.specs.Model.{Model}
use Rattle.station.specs.Rules.{Acting, answered as station_answered, note_call, stop_call, took, take_call, enter_call, turn_station}
use Rattle.runs.specs.declared.call.Call.TheVariants as call
use Rattle.runs.specs.Rings.{Rules, Ring, Answer, result_number, line, refused, accepted, answer_of, on_roll, on_oldest, turn_answer, note_at, take_at, lose_at, stop_at, enter_at, owner, turn_of, step}

-- ---- the stations of a ring, where each is an item of a list
module _ {X S : Type 0} (model : X → Model S) where
  pub off_roll : (xs : List X) (s : ℕ) → length xs ≤ s → slice_get (map model xs) s ≡ None
  off_roll [] s h = refl
  off_roll (x ∷ xs) zero h = absurd (omega arith)
  off_roll (x ∷ xs) (suc s) h = off_roll xs s (omega arith)

  -- x is the item at s
  pub at_roll : (xs : List X) (s : ℕ) (x : X) → s < length xs → x ≡ get_or xs s x → slice_get (map model xs) s ≡ Some (model x)
  at_roll [] s x h e = absurd (omega arith)
  at_roll (y ∷ xs) zero x h e = ap (λ z. Some (model z)) (sym e)
  at_roll (y ∷ xs) (suc s) x h e = at_roll xs s x (omega arith) e

  -- two readings of one place
  pub same_item : (xs : List X) (s : ℕ) (x y : X) → s < length xs → x ≡ get_or xs s x → y ≡ get_or xs s y → x ≡ y
  same_item [] s x y h e f = absurd (omega arith)
  same_item (z ∷ xs) zero x y h e f = e ∙ sym f
  same_item (z ∷ xs) (suc s) x y h e f = same_item xs s x y (omega arith) e f

  -- writing an item writes its station
  pub put_item : (xs : List X) (s : ℕ) (y : X) (z : Model S) (w : Lines Frame) (t : ℕ) → model y ≡ z →
      ◌≡◌ {A = Ring S} (record { stations = map model (set xs s y); lines = w; turn = t }) (record { stations = set (map model xs) s z; lines = w; turn = t })
  put_item xs s y z w t e = ap (λ (l : List (Model S)). record { stations = l; lines = w; turn = t }) (map-set model xs s y ∙ ap (λ v. set (map model xs) s v) e)

  pub some_at : (xs : List X) (s : ℕ) → s < length xs → (x : X) × (slice_get (map model xs) s ≡ Some (model x))
  some_at [] s h = absurd (omega arith)
  some_at (x ∷ xs) zero h = (x, refl)
  some_at (x ∷ xs) (suc s) h = some_at xs s (omega arith)

pub relined : {S : Type 0} (xs : List (Model S)) (w v : Lines Frame) (t : ℕ) → w ≡ v →
    ◌≡◌ {A = Ring S} (record { stations = xs; lines = w; turn = t }) (record { stations = xs; lines = v; turn = t })
relined xs w v t e = ap (λ (z : Lines Frame). record { stations = xs; lines = z; turn = t }) e

-- ---- what the ring makes of its station's answer
module _ {S : Type 0} (r : Ring S) (s : ℕ) where
  pub answers_ok : (w : Lines Frame) (q : Result (Unit {0}) Refusal × Model S) → q.0 ≡ Ok tt → answer_of r s w q ≡ accepted r s w q.1
  answers_ok w (Ok _, y) h = refl
  answers_ok w (Err k, y) h = absurd (let z : ◌≡◌ {A = ℕ} 0 1 = cc in omega arith)

  pub answers_err : (w : Lines Frame) (q : Result (Unit {0}) Refusal × Model S) (k : Refusal) → q.0 ≡ Err k → answer_of r s w q ≡ refused r k
  answers_err w (Ok _, y) k h = absurd (let z : ◌≡◌ {A = ℕ} 0 1 = cc in omega arith)
  answers_err w (Err j, y) k h = let e : j ≡ k = cc in ap (refused r) e

  pub turned_ok : (x : Model S) (q : Result (Unit {0}) Refusal × Acting S) → q.0 ≡ Ok tt →
      turn_answer r s x q ≡ (0, record { stations = set r.stations s q.1.0; lines = posted_all r.lines x.core.me q.1.1; turn = suc r.turn })
  turned_ok x (Ok _, y) h = refl
  turned_ok x (Err k, y) h = absurd (let z : ◌≡◌ {A = ℕ} 0 1 = cc in omega arith)

  pub turned_err : (x : Model S) (q : Result (Unit {0}) Refusal × Acting S) (k : Refusal) → q.0 ≡ Err k → turn_answer r s x q ≡ refused r k
  turned_err x (Ok _, y) k h = absurd (let z : ◌≡◌ {A = ℕ} 0 1 = cc in omega arith)
  turned_err x (Err j, y) k h = let e : j ≡ k = cc in ap (refused r) e

  -- the number alone
  pub answer_number : (w : Lines Frame) (q : Result (Unit {0}) Refusal × Model S) → (answer_of r s w q).0 ≡ result_number q.0
  answer_number w (Ok _, y) = refl
  answer_number w (Err k, y) = refl

  pub turn_number : (x : Model S) (q : Result (Unit {0}) Refusal × Acting S) → (turn_answer r s x q).0 ≡ result_number q.0
  turn_number x (Ok _, y) = refl
  turn_number x (Err k, y) = refl

-- a station that is not out takes the frame
pub take_on : {S : Type 0} (R : Rules S) (f : Frame) (x : Model S) → is_out x.core.state ≡ false →
    take_call R.next R.vote f x ≡ (Ok tt, took R.next R.vote f x)
take_on R f x on = ap (λ (o : Option Refusal). station_answered o (took R.next R.vote f x) x) (cond-false (is_out x.core.state) (Some IsOut) None on)

-- ---- the exits
module _ {S : Type 0} (R : Rules S) (r : Ring S) (s : ℕ) where
  at_none : (act : Model S → Answer S) → slice_get r.stations s ≡ None → on_roll r (slice_get r.stations s) act ≡ refused r NotOnRoll
  at_none act e = ap (λ (o : Option (Model S)). on_roll r o act) e

  at_some : (act : Model S → Answer S) (x : Model S) → slice_get r.stations s ≡ Some x → on_roll r (slice_get r.stations s) act ≡ act x
  at_some act x e = ap (λ (o : Option (Model S)). on_roll r o act) e

  at_empty : (l : List Frame) (act : Frame → Answer S) → oldest l ≡ None → on_oldest r l act ≡ refused r LineEmpty
  at_empty [] act e = refl
  at_empty (f ∷ l) act e = absurd (let z : ◌≡◌ {A = ℕ} 0 1 = cc in omega arith)

  at_oldest : (l : List Frame) (act : Frame → Answer S) (f : Frame) → oldest l ≡ Some f → on_oldest r l act ≡ act f
  at_oldest [] act f e = absurd (let z : ◌≡◌ {A = ℕ} 0 1 = cc in omega arith)
  at_oldest (h ∷ l) act f e = let q : h ≡ f = cc in ap act q

  pub note_off : (note : Note) → slice_get r.stations s ≡ None → step R r (call.Note s note) ≡ refused r NotOnRoll
  unfolding step
  note_off note e = at_none (note_at R r s note) e

  pub take_off : slice_get r.stations s ≡ None → step R r (call.Take s) ≡ refused r NotOnRoll
  unfolding step
  take_off e = at_none (take_at R r s) e

  pub lose_off : slice_get r.stations s ≡ None → step R r (call.Lose s) ≡ refused r NotOnRoll
  unfolding step
  lose_off e = at_none (lose_at R r s) e

  pub stop_off : slice_get r.stations s ≡ None → step R r (call.Stop s) ≡ refused r NotOnRoll
  unfolding step
  stop_off e = at_none (stop_at R r s) e

  pub enter_off : slice_get r.stations s ≡ None → step R r (call.Enter s) ≡ refused r NotOnRoll
  unfolding step
  enter_off e = at_none (enter_at R r s) e

  module _ (x : Model S) (e : slice_get r.stations s ≡ Some x) where
    pub note_is : (note : Note) → step R r (call.Note s note) ≡ answer_of r s r.lines (note_call note x)
    unfolding step
    note_is note = at_some (note_at R r s note) x e

    pub stop_is : step R r (call.Stop s) ≡ answer_of r s r.lines (stop_call x)
    unfolding step
    stop_is = at_some (stop_at R r s) x e

    pub enter_is : step R r (call.Enter s) ≡ answer_of r s (cleared r.lines s) (enter_call R.next x)
    unfolding step
    enter_is = at_some (enter_at R r s) x e

    pub take_out : is_out x.core.state ≡ true → step R r (call.Take s) ≡ refused r IsOut
    unfolding step
    take_out h = at_some (take_at R r s) x e ∙ cond-true (is_out x.core.state) _ _ h

    pub take_empty : is_out x.core.state ≡ false → oldest (line r s) ≡ None → step R r (call.Take s) ≡ refused r LineEmpty
    unfolding step
    take_empty h o = at_some (take_at R r s) x e ∙ (cond-false (is_out x.core.state) _ _ h ∙ at_empty (line r s) _ o)

    pub takes : (f : Frame) → is_out x.core.state ≡ false → oldest (line r s) ≡ Some f →
        step R r (call.Take s) ≡ accepted r s (taken r.lines s) (took R.next R.vote f x)
    unfolding step
    takes f h o =
        at_some (take_at R r s) x e ∙
        (cond-false (is_out x.core.state) _ _ h ∙
        at_oldest (line r s) (λ g. accepted r s (taken r.lines s) (took R.next R.vote g x)) f o)

    pub lose_empty : oldest (line r s) ≡ None → step R r (call.Lose s) ≡ refused r LineEmpty
    unfolding step
    lose_empty o = at_some (lose_at R r s) x e ∙ at_empty (line r s) _ o

    pub loses : (f : Frame) → oldest (line r s) ≡ Some f →
        step R r (call.Lose s) ≡ (0, record { stations = r.stations; lines = taken r.lines s; turn = r.turn })
    unfolding step
    loses f o =
        at_some (lose_at R r s) x e ∙
        at_oldest (line r s) (λ _. (0, record { stations = r.stations; lines = taken r.lines s; turn = r.turn })) f o

module _ {S : Type 0} (R : Rules S) (r : Ring S) where
  -- the owner is not one of the stations
  pub turn_off : slice_get r.stations (owner R r) ≡ None → step R r call.Turn ≡ refused r WrongTurn
  unfolding step
  turn_off e = ap (λ (o : Option (Model S)). turn_of R r (owner R r) o) e

  pub turn_is : (x : Model S) → slice_get r.stations (owner R r) ≡ Some x →
      step R r call.Turn ≡ turn_answer r (owner R r) x (turn_station R.next R.vote r.turn x)
  unfolding step
  turn_is x e = ap (λ (o : Option (Model S)). turn_of R r (owner R r) o) e
