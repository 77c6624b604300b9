-- What a call on a ring in memory answers and leaves, and what some calls in order do. Assumes nothing.
use Rattle.std.specs.Prelude.{◌≡◌, ℕ, Bool, List, map, OnErr, Result}
use Rattle.protocol.specs.declared.note.Note.{Note}
use Rattle.protocol.specs.declared.frame.Frame.{Frame}
use Rattle.protocol.specs.declared.refusal.Refusal.{Refusal}
use Rattle.wires.specs.Lines.{Lines}
use Rattle.runs.specs.declared.call.Call.{Call}
use Rattle.runs.specs.Rings.{result_number, step, run, answers}
use Rattle.ring.specs.declared.ring.Ring.{Ring}
use Rattle.ring.specs.Meaning.{meaning, ruling}

module _ {W B R S : Type 0} (means : B → S) (lines : W → Lines Frame) (size : R → ℕ) (votes : R → ℕ → Bool) (next : S → Note → S) where
  -- call c on ring r was answered so and made v of it
  pub record Stepped (c : Call) (r : Ring W B R) (given : Result (Unit {0}) Refusal) (v : Ring W B R) : Type 0 where
    -- the answer and the ring after it are what the rules' step gives
    pub value : result_number given ≡ (step (ruling size votes next r) (meaning means lines r) c).0
    pub after : meaning means lines v ≡ (step (ruling size votes next r) (meaning means lines r) c).1
    -- the voting rule stays
    pub rule : v.rule ≡ r.rule
    -- a refused call leaves all memory of the ring as it was
    pub same : OnErr given (v ≡ r)

  -- some calls on ring r, in order, were answered so and made v of it
  pub record Called (calls : List Call) (r : Ring W B R) (given : List (Result (Unit {0}) Refusal)) (v : Ring W B R) : Type 0 where
    pub answered : map result_number given ≡ answers (ruling size votes next r) (meaning means lines r) calls
    pub after : meaning means lines v ≡ run (ruling size votes next r) (meaning means lines r) calls
    pub rule : v.rule ≡ r.rule
