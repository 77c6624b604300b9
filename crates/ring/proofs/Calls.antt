-- A call on a ring in memory, by what the rules' step is: refused, accepted, or handed to a station. Assumes nothing.
use Rattle.std.proofs.Common.{◌≡◌, ℕ, ◌≤◌, Bool, true, false, cond, ◌&&◌, ltb, leb, List, [], length, map, get_or, set, Some, None, vec_items, vec_len, Ok, Err, Option, Result, sym, refl, ap, ◌∙◌, arith}
use Rattle.std.specs.List.{slice_get}
use Rattle.std.specs.Option.{option_map}
use Rattle.std.specs.Result.{IsErrAnd}
use Rattle.std.specs.Vec.{with_item}
use Rattle.std.proofs.lemmas.Bool.{and_parts, leb-true}
use Rattle.std.proofs.lemmas.Option.{get_or_from_slice_get, slice_get-map, slice_get_within, slice_get_read}
use Rattle.std.proofs.lemmas.List.{length-map}
use Rattle.protocol.specs.Limits.{max_stations, last_turn_number}
use Rattle.protocol.specs.Refusals.{number_of}
use Rattle.protocol.specs.declared.note.Note.{Note}
use Rattle.protocol.specs.declared.frame.Frame.{Frame}
use Rattle.protocol.specs.declared.refusal.Refusal.{Refusal}
use Rattle.protocol.specs.declared.refusal.Refusal.TheVariants.{WrongTurn}
use Rattle.wires.specs.Lines.{Lines}
use Rattle.turning.specs.Steps.{Spoken}
use Rattle.turning.specs.Calls.{due}
use Rattle.turning.specs.Whole.{whole_turn, turn_call}
use Rattle.station.specs.declared.station.Station.{Station}
use Rattle.station.specs.Meaning.{model, Answered}
use Rattle.station.specs.Model.{Model}
use Rattle.station.specs.Rules.{turn_station}
use Rattle.runs.specs.declared.call.Call.{Call}
use Rattle.runs.specs.Rings.{Ring as Rings, step, refused, accepted, answer_of}
use Rattle.runs.proofs.Stepping.{put_item, relined, answers_ok, answers_err}
use Rattle.ring.specs.declared.ring.Ring.{Ring}
use Rattle.ring.specs.Meaning.{meaning, ruling}
use Rattle.ring.specs.Calls.{Stepped}
use Rattle.station.proofs.Same.{same_station}
use Rattle.ring.proofs.Same.{same_items, same_ring}

-- what stands in place s, as the rules see it
pub stands : {X S : Type 0} (model : X → Model S) (xs : List X) (s : ℕ) (o : Option X) → slice_get xs s ≡ o → slice_get (map model xs) s ≡ option_map model o
stands model xs s o e = slice_get-map model xs s ∙ ap (option_map model) e

-- what is read at a place of which a station is known stands there
pub read_there : {X S : Type 0} (model : X → Model S) (xs : List X) (s : ℕ) (x : X) (y : Model S) → slice_get (map model xs) s ≡ Some y → x ≡ get_or xs s x → slice_get xs s ≡ Some x
read_there model xs s x y there read =
    let within = slice_get_within (map model xs) s y there in
    slice_get_read xs (length xs) s x refl (omega (arith, length-map xs model, within)) read

module _ {W B R S : Type 0} {means : B → S} {lines : W → Lines Frame} {size : R → ℕ} {votes : R → ℕ → Bool} {next : S → Note → S} {r : Ring W B R} {c : Call} where
  -- the call is refused, and the ring as it was
  pub refuses : (k j : Refusal) (given : Result (Unit {0}) Refusal) (v : Ring W B R) → IsErrAnd given (λ e. e ≡ j) → j ≡ k → v ≡ r →
      step (ruling size votes next r) (meaning means lines r) c ≡ refused (meaning means lines r) k → Stepped means lines size votes next c r given v
  refuses k j (Ok _) v h i z q = absurd h
  refuses k j (Err e) v h i z q = record {
    value = ap number_of (h ∙ i) ∙ sym (ap (λ a. a.0) q);
    after = ap (meaning means lines) z ∙ sym (ap (λ a. a.1) q);
    rule = ap (λ (u : Ring W B R). u.rule) z;
    same = z;
  }

  -- the call is accepted, and the ring means n then
  pub accepts : (n : Rings S) (given : Result (Unit {0}) Refusal) (v : Ring W B R) → given ≡ Ok tt → meaning means lines v ≡ n → v.rule ≡ r.rule →
      step (ruling size votes next r) (meaning means lines r) c ≡ (0, n) → Stepped means lines size votes next c r given v
  accepts n (Ok _) v h m e q = record { value = sym (ap (λ a. a.0) q); after = m ∙ sym (ap (λ a. a.1) q); rule = e; same = tt }
  accepts n (Err k) v h m e q = absurd cc

  -- no station stands in the place that the call names
  pub misses : (s : ℕ) (k j : Refusal) (given : Result (Unit {0}) Refusal) (p : vec_len r.stations ≤ max_stations) (b : 1 ≤ r.turn) →
      IsErrAnd given (λ e. e ≡ j) → (slice_get (vec_items r.stations) s ≡ None) × (j ≡ k) →
      (slice_get (meaning means lines r).stations s ≡ None → step (ruling size votes next r) (meaning means lines r) c ≡ refused (meaning means lines r) k) →
      Stepped means lines size votes next c r given (record { stations = r.stations; wire = r.wire; rule = r.rule; turn = r.turn; few = p; begun = b })
  misses s k j given p b h off q = refuses k j given _ h off.1 (same_ring r r.stations r.wire p b refl refl) (q (stands (model means) (vec_items r.stations) s None off.0))

  -- station x stands in place s, and has become y
  module _ (s : ℕ) (x y : Station B) (given : Result (Unit {0}) Refusal) (p : vec_len (with_item r.stations s y) ≤ max_stations) (b : 1 ≤ r.turn) (on : slice_get (vec_items r.stations) s ≡ Some x) where
    -- its call is refused, and it is as it was
    pub balks : (w : W) (k j : Refusal) → IsErrAnd given (λ e. e ≡ j) → j ≡ k → y ≡ x → w ≡ r.wire →
        (slice_get (meaning means lines r).stations s ≡ Some (model means x) → step (ruling size votes next r) (meaning means lines r) c ≡ refused (meaning means lines r) k) →
        Stepped means lines size votes next c r given (record { stations = with_item r.stations s y; wire = w; rule = r.rule; turn = r.turn; few = p; begun = b })
    balks w k j h i e f q = refuses k j given _ h i (same_ring r _ w p b (same_items r.stations s x y (sym (get_or_from_slice_get (vec_items r.stations) s x x on)) e) f) (q (stands (model means) (vec_items r.stations) s (Some x) on))

    -- its call is accepted, and it means z
    pub obeys : (w : W) (u : Lines Frame) (z : Model S) → given ≡ Ok tt → model means y ≡ z → lines w ≡ u →
        (slice_get (meaning means lines r).stations s ≡ Some (model means x) → step (ruling size votes next r) (meaning means lines r) c ≡ accepted (meaning means lines r) s u z) →
        Stepped means lines size votes next c r given (record { stations = with_item r.stations s y; wire = w; rule = r.rule; turn = r.turn; few = p; begun = b })
    obeys w u z h e f q =
        accepts _ given _ h (put_item (model means) (vec_items r.stations) s y z (lines w) r.turn e ∙ relined _ _ _ _ f) refl (q (stands (model means) (vec_items r.stations) s (Some x) on))

  -- the station's answer is the call's
  pub hands : (s : ℕ) (x y : Station B) (given : Result (Unit {0}) Refusal) (a : Result (Unit {0}) Refusal × Model S) (p : vec_len (with_item r.stations s y) ≤ max_stations) (b : 1 ≤ r.turn) →
      slice_get (vec_items r.stations) s ≡ Some x → Answered means a x given y →
      (slice_get (meaning means lines r).stations s ≡ Some (model means x) → step (ruling size votes next r) (meaning means lines r) c ≡ answer_of (meaning means lines r) s (lines r.wire) a) →
      Stepped means lines size votes next c r given (record { stations = with_item r.stations s y; wire = r.wire; rule = r.rule; turn = r.turn; few = p; begun = b })
  hands s x y (Ok _) a p b on told q =
      obeys s x y (Ok tt) p b on r.wire (lines r.wire) a.1 refl told.after refl (λ there. q there ∙ answers_ok (meaning means lines r) s (lines r.wire) a (sym told.value))
  hands s x y (Err k) a p b on told q =
      balks s x y (Err k) p b on r.wire k k refl refl (same_station x y told.same) refl (λ there. q there ∙ answers_err (meaning means lines r) s (lines r.wire) a k (sym told.value))

-- a turn that is not refused is not past the last one
pub turn_within : {S : Type 0} (next : S → Note → S) (vote : ℕ → Bool) (t : ℕ) (x : Model S) → (turn_station next vote t x).0 ≡ Ok tt → t ≤ last_turn_number
unfolding turn_call
turn_within next vote t x = go (due t x.core) refl
  where
    by : Bool → Result (Unit {0}) Refusal × Spoken
    by b = cond b (Ok tt, whole_turn vote t x.outbox x.core) (Err WrongTurn, (x.outbox, (x.core, [])))

    go : (b : Bool) → due t x.core ≡ b → (by b).0 ≡ Ok tt → t ≤ last_turn_number
    go true e h = leb-true t last_turn_number (and_parts (ltb 0 t) (leb t last_turn_number) (and_parts (ltb 0 t && leb t last_turn_number) _ e).0).1
    go false e h = absurd cc

-- the ring in memory after a turn: item o became y, the lines w, the number t
pub turned_is : {X S : Type 0} (f : X → Model S) (xs : List X) (o p : ℕ) (y : X) (z : Model S) (w v : Lines Frame) (t u : ℕ) → o ≡ p → f y ≡ z → w ≡ v → t ≡ u →
    ◌≡◌ {A = Rings S} (record { stations = map f (set xs o y); lines = w; turn = t }) (record { stations = set (map f xs) p z; lines = v; turn = u })
turned_is f xs o p y z w v t u a b c d = put_item f xs o y z w t b ∙ (λ i. record { stations = set (map f xs) (a i) z; lines = c i; turn = d i })
