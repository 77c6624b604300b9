-- A table in which no file is claimed twice. Assumes nothing.
use Rattle.std.proofs.Common.{◌≡◌, ℕ, ◌<◌, ◌≤◌, false, length, get_or, set, replicate, Some, None, ap, ⊎_elim, arith}
use Rattle.std.proofs.lemmas.Grind.{common_steps}
use Rattle.std.proofs.lemmas.List.{get_or_past}
use Rattle.std.specs.List.{position_or_len}
use Rattle.std.proofs.lemmas.Bool.{cases_lt}
use Rattle.std.proofs.lemmas.List.Sums.{fails_before_first}
use Rattle.claims.specs.ClaimBook.{Places, holds_file, ClaimedOnce}
use Rattle.claims.specs.declared.claim.Claim.{Claim}

pub free_once : (n : ℕ) → ClaimedOnce (replicate n None)
free_once n i j below same = grind (arith, common_steps)

module _ (s : Places) (m : Claim) (none : position_or_len (holds_file m.file) s ≡ length s) where
  nowhere : (k : ℕ) → holds_file m.file (get_or s k None) ≡ false
  nowhere k =
      ⊎_elim (λ (lt : k < length s). fails_before_first (holds_file m.file) s k None (omega arith))
      (λ (ge : length s ≤ k). ap (holds_file m.file) (get_or_past s k None ge)) (cases_lt k (length s))

  -- a claim of a file that no place holds leaves no file claimed twice
  pub made_once : (p : ℕ) → p < length s → ClaimedOnce s → ClaimedOnce (set s p (Some m))
  made_once p within once i j below same =
      let first = nowhere i in
      let second = nowhere j in
      let before = once i j below in
      grind (arith, common_steps)

-- freeing a place leaves no file claimed twice
pub released_once : (s : Places) (p : ℕ) → ClaimedOnce s → ClaimedOnce (set s p None)
released_once s p once i j below same = let before = once i j below in grind (arith, common_steps)
