-- What the installer is told before anything is made, by the same definitions as those who make. Assumes nothing.
use Rattle.std.specs.Prelude.{◌≡◌, ℕ, ◌≤◌, cond, ◌⊎◌, List, length, Some, None, Option, ◌==◌, nat_le}
use Rattle.protocol.specs.Refusals.{number_of}
use Rattle.protocol.specs.declared.refusal.Refusal.{Refusal}
use Rattle.protocol.specs.declared.refusal.Refusal.TheVariants.{RollSize}
use Rattle.vote.specs.Refused.{heads_refused, weights_refused}
use Rattle.wires.specs.Making.{lines_refused, pool_refused}
use Rattle.wires.specs.declared.installer.Memory.{Memory}
use Rattle.wires.specs.declared.installer.Memory.TheVariants.{Lines, Pool}

-- the refusal of a wire for n stations over the memory lent for it
abbrev pub memory_refused : ℕ → Memory → Option Refusal
memory_refused n (Lines lent) = lines_refused n lent
memory_refused n (Pool lent) = pool_refused n lent

-- the refusal of a rule for n stations, by these weights or, where there are none, by heads: there has to be one weight for each station
abbrev pub rule_refused : ℕ → Option (List ℕ) → Option Refusal
rule_refused n None = heads_refused n
rule_refused n (Some ws) = cond (length ws == n) (weights_refused ws) (Some RollSize)

-- of two refusals the one with the smaller number
abbrev pub least : Option Refusal → Option Refusal → Option Refusal
least None b = b
least (Some a) None = Some a
least (Some a) (Some b) = cond (nat_le (number_of a) (number_of b)) (Some a) (Some b)

abbrev pub look_refused : ℕ → Memory → Option (List ℕ) → Option Refusal
look_refused n memory weights = least (memory_refused n memory) (rule_refused n weights)

-- who makes a wire or a rule is refused as the look says
pub record LookAgrees : Type 0 where
  -- without weights the look says what the wire's maker says
  pub lines : (n lent : ℕ) → look_refused n (Lines lent) None ≡ lines_refused n lent
  pub pool : (n lent : ℕ) → look_refused n (Pool lent) None ≡ pool_refused n lent
  -- where the look says none, neither the wire's maker nor the rule's refuses
  pub clear : (n : ℕ) (m : Memory) (ws : Option (List ℕ)) → look_refused n m ws ≡ None → (memory_refused n m ≡ None) × (rule_refused n ws ≡ None)
  -- what the look says is a refusal of one of them
  pub told : (n : ℕ) (m : Memory) (ws : Option (List ℕ)) (r : Refusal) → look_refused n m ws ≡ Some r → (memory_refused n m ≡ Some r) ⊎ (rule_refused n ws ≡ Some r)
  -- and none of theirs has a smaller number
  pub smallest : (n : ℕ) (m : Memory) (ws : Option (List ℕ)) (r s : Refusal) → look_refused n m ws ≡ Some r → (memory_refused n m ≡ Some s) ⊎ (rule_refused n ws ≡ Some s) → number_of r ≤ number_of s
