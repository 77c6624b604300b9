-- Every promise holds of the ring that some calls make of a new one.
use Rattle.std.proofs.Common.{◌≡◌, ◌+◌, ◌-◌, ◌%◌, ◌<◌, ◌≤◌, true, ◌&&◌, eqb, ltb, leb, List, [], ◌∷◌, ◌++◌, Some, Option, Result, sym, refl, ap, ◌∙◌, subst, mod-lt, arith}
use Rattle.std.specs.List.{slice_get}
use Rattle.std.proofs.lemmas.Bool.{cond-true, and_from, lt-ltb, le-leb, eq-eqb}
use Rattle.protocol.specs.declared.refusal.Refusal.{Refusal}
use Rattle.journal.specs.Journal.{last_turn}
use Rattle.turning.specs.Steps.{Spoken}
use Rattle.turning.specs.Calls.{due}
use Rattle.turning.specs.Whole.{turn_call}
use Rattle.station.specs.Model.{Model}
use Rattle.station.specs.Rules as station
use Rattle.runs.specs.declared.call.Call.{Call}
use Rattle.runs.specs.declared.call.Call.TheVariants.{Turn}
use Rattle.runs.specs.Rings.{Rules, Ring, Answer, turn_answer, owner, turn_of, new_ring, step, run}
use Rattle.runs.specs.Promises.{Laws, Quiet, Calm, one_turn, turns as count_turns, ThreeRounds, first_turn, OlderFirm, TurnsOpen, Kept, Promises}
use Rattle.runs.proofs.Ends.{same_last}
use Rattle.runs.proofs.Formed.{formed_last}
use Rattle.runs.proofs.Lookup.{nth_of}
use Rattle.runs.proofs.Steps.{Steps, refused, noted, turns, takes, loses, stops, enters, steps}
use Rattle.runs.proofs.Soundness.{Sound, here_formed, sound_run, sound_new}
use Rattle.runs.proofs.Safety.{agreed, matched}
use Rattle.runs.proofs.Calmness.{Goes_on, calm_step, calm_new, calm_runs}
use Rattle.runs.proofs.Rounds.{Going, going_run, going_start, older_firm}

module _ {S : Type 0} (R : Rules S) where
  run_append : (r : Ring S) (a b : List Call) → run R r (a ++ b) ≡ run R (run R r a) b
  unfolding run
  run_append r [] b = refl
  run_append r (k ∷ a) b = run_append (step R r k).1 a b

  step_turn : (r : Ring S) (k : Call) (a : Answer S) → Steps R r k a → a.1.turn ≡ r.turn + one_turn R a.0 k
  step_turn r k a (refused j) = omega arith
  step_turn r k a (noted s note x i o) = omega arith
  step_turn r k a (turns x i l) = omega arith
  step_turn r k a (takes s x f l i o q) = omega arith
  step_turn r k a (loses s f l q) = omega arith
  step_turn r k a (stops s x i o) = omega arith
  step_turn r k a (enters s x i o) = omega arith

  -- the next turn's number counts the accepted turns
  run_turns : (r : Ring S) (ks : List Call) → (run R r ks).turn ≡ r.turn + count_turns R r ks
  unfolding run
  run_turns r [] = omega arith
  run_turns r (k ∷ ks) =
      omega (arith, run_turns (step R r k).1 ks, step_turn r k (step R r k) (steps R r k))

  module _ (b₀ : S) (pos : 1 ≤ R.size) (small : R.size ≤ 8) (laws : Laws R.size R.vote) where
    calm_front : (r : Ring S) (a b : List Call) → Calm R r (a ++ b) → Goes_on R b₀ laws pos small r →
        Goes_on R b₀ laws pos small (run R r a) × Calm R (run R r a) b
    unfolding run
    calm_front r [] b calm g = (g, calm)
    calm_front r (k ∷ a) b calm g = calm_front (step R r k).1 a b calm.1 (calm_step R b₀ laws pos small r k (a ++ b) calm g)

    -- in every run the owner can open its turn
    opens : (r : Ring S) → Sound R b₀ r → TurnsOpen R r
    unfolding step turn_call
    opens r h l =
        ap (λ (a : Answer S). a.0)
        (ap (λ (o : Option (Model S)). turn_of R r (owner R r) o) at.1 ∙
        ap (λ (q : Result (Unit {0}) Refusal × Spoken). turn_answer r (owner R r) x (station.turned R.next q x)) (cond-true (due r.turn x.core) _ _ is_due))
      where
        at : (x : Model S) × (slice_get r.stations (owner R r) ≡ Some x)
        at = nth_of r.stations (owner R r) (omega (arith, mod-lt (r.turn - 1) pos, h.size))

        x : Model S
        x = at.0

        below : last_turn x.core.journal < r.turn
        below =
            omega (
              arith,
              same_last x.core.journal,
              formed_last R.size R.vote r.turn 0 0 x.core.journal (omega (arith, h.early)) (here_formed R b₀ r (owner R r) x h at.1),
            )

        own : (r.turn - 1) % x.core.roll ≡ x.core.me
        own = let n = h.numbered (owner R r) x at.1 in ap (λ k. (r.turn - 1) % k) n.1 ∙ sym n.0

        is_due : due r.turn x.core ≡ true
        is_due =
            and_from (ltb 0 r.turn && leb r.turn 1000000) (eqb ((r.turn - 1) % x.core.roll) x.core.me && ltb (last_turn x.core.journal) r.turn)
            (and_from (ltb 0 r.turn) (leb r.turn 1000000) (lt-ltb 0 r.turn h.early) (le-leb r.turn 1000000 l))
            (and_from (eqb ((r.turn - 1) % x.core.roll) x.core.me) (ltb (last_turn x.core.journal) r.turn)
            (eq-eqb ((r.turn - 1) % x.core.roll) x.core.me own) (lt-ltb (last_turn x.core.journal) r.turn below))

    settles : (calls : List Call) → Calm R (new_ring R b₀) calls → (h : ThreeRounds R b₀ calls) → OlderFirm (first_turn R h) (run R (new_ring R b₀) calls)
    settles calls calm h =
        subst (λ (z : Ring S). OlderFirm r.turn z) (sym (ap (run R (new_ring R b₀)) h.split ∙ run_append (new_ring R b₀) h.before (Turn ∷ h.after)))
        (older_firm R b₀ laws pos small r.turn front.0.journal (run R r (Turn ∷ h.after)) gone.1
        (omega (arith, run_turns r (Turn ∷ h.after), h.rounds)) gone.0)
      where
        r : Ring S
        r = run R (new_ring R b₀) h.before

        front : Goes_on R b₀ laws pos small r × Calm R r (Turn ∷ h.after)
        front = calm_front (new_ring R b₀) h.before (Turn ∷ h.after) (subst (Calm R (new_ring R b₀)) h.split calm) (calm_new R b₀ laws pos small)

        quiet : Quiet r
        quiet = front.1.0 h.first

        gone : Going R b₀ laws pos small r.turn front.0.journal (run R r (Turn ∷ h.after)) × Quiet (run R r (Turn ∷ h.after))
        gone =
            going_run R b₀ laws pos small r.turn front.0.journal r (Turn ∷ h.after) front.1 (tt, h.unstopped)
            (going_start R b₀ laws pos small r.turn front.0.journal r front.0.due refl quiet front.0.calmed)

    pub kept : (calls : List Call) → Kept R b₀ calls (run R (new_ring R b₀) calls)
    kept calls =
        let r = run R (new_ring R b₀) calls in
        let h = sound_run R b₀ laws small (new_ring R b₀) calls (sound_new R b₀ laws small) in
        record {
          firm_parts = agreed R b₀ laws r h;
          journals = matched R b₀ laws r h;
          turns_open = opens r h;
          together = calm_runs R b₀ laws pos small calls;
          settles = settles calls;
        }

pub promises : (S : Type 0) → Promises S
promises S R b pos small laws calls = kept R b pos small laws calls
