-- What a run of calls on a new ring leaves, answers and promises. Assumes nothing.
use Rattle.std.specs.Prelude.{◌≡◌, ℕ, Bool, List}
use Rattle.protocol.specs.declared.note.Note.{Note}
use Rattle.protocol.specs.declared.frame.Frame.{Frame}
use Rattle.wires.specs.Lines.{Lines}
use Rattle.runs.specs.declared.call.Call.{Call}
use Rattle.runs.specs.Rings.{run, answers, new_ring}
use Rattle.runs.specs.Promises.{Kept}
use Rattle.ring.specs.declared.ring.Ring.{Ring}
use Rattle.ring.specs.Meaning.{meaning, ruling}

module _ {W B R S : Type 0} (means : B → S) (lines : W → Lines Frame) (size : R → ℕ) (votes : R → ℕ → Bool) (next : S → Note → S) where
  -- some calls on a new ring whose books start at b made r of it, and were given these answers
  pub record Performed (b : S) (calls : List Call) (r : Ring W B R) (given : List ℕ) : Type 0 where
    pub ring : meaning means lines r ≡ run (ruling size votes next r) (new_ring (ruling size votes next r) b) calls
    pub answers_given : given ≡ answers (ruling size votes next r) (new_ring (ruling size votes next r) b) calls
    -- firm parts agree, journals match, turns are open, and calm runs keep together and settle
    pub promises : Kept (ruling size votes next r) b calls (meaning means lines r)
