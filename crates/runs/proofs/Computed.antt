-- The worked examples, by computing; a run is calm where a test says so. Assumes nothing.
use Rattle.std.proofs.Common.{◌≡◌, ℕ, zero, suc, ◌+◌, Bool, true, false, not, ◌&&◌, ◌||◌, eqb, List, [], ◌∷◌, ◌++◌, Some, refl, ap, ◌∙◌, subst, arith}
use Rattle.std.specs.List.{slice_get}
use Rattle.std.proofs.lemmas.Bool.{both_ways, and_parts, eq-eqb, not_from_true}
use Rattle.protocol.specs.declared.frame.Frame.{Frame}
use Rattle.vote.specs.Mask.{has, everyone, adding}
use Rattle.vote.specs.Majority.{total, weight, majority}
use Rattle.wires.specs.Calls.{posted_all}
use Rattle.journal.specs.Core.{is_running}
use Rattle.turning.specs.Posts.{frames_of}
use Rattle.turning.specs.Round.{around, count_back, count_on}
use Rattle.turning.specs.Steps.{unheard, put_off, any_wish, first_is, served, chosen, serve, say_notes}
use Rattle.turning.specs.Whole.{whole_turn, turn_call}
use Rattle.station.specs.Model.{Model}
use Rattle.runs.specs.declared.call.Call.{Call}
use Rattle.runs.specs.declared.call.Call.TheVariants as call
use Rattle.runs.specs.Masks.{mask_of}
use Rattle.runs.specs.Rings.{Rules, Ring, new_stations, new_ring, step, run}
use Rattle.runs.specs.Promises.{Runs, running, Accepted, CalmCall, Calm, ThreeRounds}
use Rattle.runs.specs.Examples.{by_heads, RunExamples, CalmExample, up_to_stop, after_stop}
use Rattle.runs.proofs.Lookup.{some_same, some_none}

is_nil : List Frame → Bool
is_nil [] = true
is_nil (f ∷ l) = false

nil_of : (l : List Frame) → is_nil l ≡ true → l ≡ []
unfolding is_nil
nil_of [] h = refl
nil_of (f ∷ l) h = absurd (both_ways false refl h)

module _ {S : Type 0} where
  -- no frame waits for the running ones of some stations, numbered from s on
  quiet_test : ℕ → List (Model S) → (ℕ → List Frame) → Bool
  quiet_test s [] lines = true
  quiet_test s (x ∷ xs) lines = (not (is_running x.core.state) || is_nil (lines s)) && quiet_test (suc s) xs lines

  quiet_so : (s : ℕ) (xs : List (Model S)) (lines : ℕ → List Frame) → quiet_test s xs lines ≡ true →
      (i : ℕ) (x : Model S) → slice_get xs i ≡ Some x → Runs x → lines (s + i) ≡ []
  unfolding quiet_test
  quiet_so s [] lines h i x e live = absurd (some_none x e)
  quiet_so s (y ∷ xs) lines h zero x e live =
      let on : is_running y.core.state ≡ true = ap (λ (z : Model S). is_running z.core.state) (some_same y x e) ∙ ap is_running live in
      let w = and_parts (not (is_running y.core.state) || is_nil (lines s)) (quiet_test (suc s) xs lines) h in
      let z : s + 0 ≡ s = omega arith in
      ap lines z ∙ nil_of (lines s) (subst (λ b. (not b || is_nil (lines s)) ≡ true) on w.0)
  quiet_so s (y ∷ xs) lines h (suc i) x e live =
      let z : s + suc i ≡ suc s + i = omega arith in
      ap lines z ∙ quiet_so (suc s) xs lines (and_parts (not (is_running y.core.state) || is_nil (lines s)) (quiet_test (suc s) xs lines) h).1 i x e live

  from_0 : (xs : List (Model S)) (lines : ℕ → List Frame) → quiet_test 0 xs lines ≡ true → (i : ℕ) (x : Model S) → slice_get xs i ≡ Some x → Runs x → lines i ≡ []
  from_0 xs lines h i x e live = let z : i ≡ 0 + i = omega arith in ap lines z ∙ quiet_so 0 xs lines h i x e live

module _ {S : Type 0} (R : Rules S) where
  call_test : Ring S → Call → ℕ → Bool
  call_test r (call.Note s note) k = true
  call_test r call.Turn k = not (eqb k 0) || quiet_test 0 r.stations r.lines.at
  call_test r (call.Take s) k = true
  call_test r (call.Lose s) k = not (eqb k 0)
  call_test r (call.Stop s) k = true
  call_test r (call.Enter s) k = not (eqb k 0)

  calm_test : Ring S → List Call → Bool
  calm_test r [] = quiet_test 0 r.stations r.lines.at && R.vote (mask_of R.size (λ s. running (slice_get r.stations s)))
  calm_test r (c ∷ cs) = call_test r c (step R r c).0 && calm_test (step R r c).1 cs

  refused : (k : ℕ) → not (eqb k 0) ≡ true → k ≡ 0 → ⊥
  refused k h e = both_ways (not (eqb k 0)) (not_from_true (eqb k 0) (eq-eqb k 0 e)) h

  call_so : (r : Ring S) (c : Call) → call_test r c (step R r c).0 ≡ true → Accepted R r c → CalmCall R r c
  unfolding call_test
  call_so r (call.Note s note) h a = tt
  call_so r call.Turn h a =
      from_0 r.stations r.lines.at (subst (λ k. (not (eqb k 0) || quiet_test 0 r.stations r.lines.at) ≡ true) a h)
  call_so r (call.Take s) h a = tt
  call_so r (call.Lose s) h a = refused (step R r (call.Lose s)).0 h a
  call_so r (call.Stop s) h a = tt
  call_so r (call.Enter s) h a = refused (step R r (call.Enter s)).0 h a

  calm_so : (cs : List Call) (r : Ring S) → calm_test r cs ≡ true → Calm R r cs
  unfolding calm_test
  calm_so [] r h =
      let w = and_parts (quiet_test 0 r.stations r.lines.at) (R.vote (mask_of R.size (λ s. running (slice_get r.stations s)))) h in
      (from_0 r.stations r.lines.at w.0, w.1)
  calm_so (c ∷ cs) r h =
      let w = and_parts (call_test r c (step R r c).0) (calm_test (step R r c).1 cs) h in
      (call_so r c w.0, calm_so cs (step R r c).1 w.1)

pub run_examples : RunExamples
unfolding has everyone adding total weight majority mask_of posted_all frames_of around count_back count_on unheard put_off any_wish first_is served chosen serve say_notes whole_turn turn_call new_stations new_ring step run
run_examples = record { alone = refl; put_off = refl }

three_rounds : ThreeRounds (by_heads 3) [] (up_to_stop ++ after_stop)
unfolding has everyone adding total weight majority mask_of posted_all frames_of around count_back count_on unheard put_off any_wish first_is served chosen serve say_notes whole_turn turn_call new_stations new_ring step run
three_rounds = record {
  before = up_to_stop;
  after = call.Take 1 ∷ call.Turn ∷ call.Turn ∷ call.Take 2 ∷ call.Take 2 ∷ call.Turn ∷ call.Take 1 ∷ call.Turn ∷ call.Turn ∷ call.Take 2 ∷ call.Turn ∷ call.Take 1 ∷ call.Turn ∷ call.Turn ∷ call.Take 2 ∷ [];
  split = refl;
  first = refl;
  rounds = refl;
  unstopped = (tt, (tt, (tt, (tt, (tt, (tt, (tt, (tt, (tt, (tt, (tt, (tt, (tt, (tt, (tt, tt)))))))))))))));
}

pub calm_example : CalmExample
unfolding is_nil quiet_test call_test calm_test has everyone adding total weight majority mask_of posted_all frames_of around count_back count_on unheard put_off any_wish first_is served chosen serve say_notes whole_turn turn_call new_stations new_ring step run
calm_example = record {
  calm = calm_so (by_heads 3) (up_to_stop ++ after_stop) (new_ring (by_heads 3) []) refl;
  rounds = three_rounds;
  firm_before = refl;
  firm_after = refl;
}
