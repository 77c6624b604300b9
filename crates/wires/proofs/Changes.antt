-- Lines compared. Assumes nothing.
use Rattle.std.proofs.Common.{◌≡◌, ℕ, List, ap}
use mathlib.Core.Path.{fun_ext}
use Rattle.wires.specs.Lines.{Lines}

-- lines are equal if each line is
pub with_at : {T : Type 0} (n : ℕ) {f g : ℕ → List T} → ((t : ℕ) → f t ≡ g t) → ◌≡◌ {A = Lines T} (record { roll = n; at = f }) (record { roll = n; at = g })
with_at {T} n h = ap (λ (f : ℕ → List T). record { roll = n; at = f }) (fun_ext h)
