-- The look says what the makers say. Assumes nothing.
use Rattle.std.proofs.Common.{◌≡◌, ℕ, ◌≤◌, ◌⊎◌, Some, None, Option, arith}
use Rattle.std.proofs.lemmas.Bool.Decides.{nat_tests}
use Rattle.protocol.specs.Refusals.{number_of}
use Rattle.protocol.specs.declared.refusal.Refusal.{Refusal}
use Rattle.vote.specs.Refused.{heads_refused}
use Rattle.wires.specs.Making.{wire_refused}
use Rattle.wires.specs.Look.{least}

-- the rule by heads refuses nothing that the wire does not refuse as well
pub heads_agree : (n needed lent : ℕ) → least (wire_refused n needed lent) (heads_refused n) ≡ wire_refused n needed lent
unfolding heads_refused
heads_agree n needed lent = grind (arith, nat_tests)

pub least_none : (a b : Option Refusal) → least a b ≡ None → (a ≡ None) × (b ≡ None)
least_none a b e = (grind (arith, nat_tests), grind (arith, nat_tests))

pub least_some : (a b : Option Refusal) (r : Refusal) → least a b ≡ Some r → (a ≡ Some r) ⊎ (b ≡ Some r)
least_some a b r e = grind (arith, nat_tests)

pub least_smallest : (a b : Option Refusal) (r s : Refusal) → least a b ≡ Some r → (a ≡ Some s) ⊎ (b ≡ Some s) → number_of r ≤ number_of s
least_smallest a b r s e h = grind (arith, nat_tests)
