-- The lines of the stations in turn offered a frame. Assumes nothing.
use Rattle.std.proofs.Common.{◌≡◌, ℕ, ◌+◌, arith}
use Rattle.std.proofs.lemmas.Bool.Decides.{nat_tests}
use Rattle.wires.specs.Lines.{Lines}
use Rattle.wires.specs.Calls.{changed, offered_below, offering}
use Rattle.wires.proofs.Changes.{with_at}

module _ {T : Type 0} (w : Lines T) (sender : ℕ) (f : T) (k : ℕ) where
  pub below_sender : k ≡ sender → offered_below w k sender f ≡ offered_below w (k + 1) sender f
  below_sender same = with_at w.roll (λ t. grind (arith, nat_tests))

  pub below_more : (k ≡ sender → ⊥) → changed (offered_below w k sender f) k (offering f) ≡ offered_below w (k + 1) sender f
  below_more apart = with_at w.roll (λ t. grind (arith, nat_tests))
