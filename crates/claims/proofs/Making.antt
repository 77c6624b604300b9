-- What a claim finds in the table, and the verdict on it. Assumes nothing.
use Rattle.std.proofs.Common.{◌≡◌, ℕ, ◌<◌, ◌≤◌, Bool, true, false, length, get_or, is_some, position, Some, None, Option, refl, sym, ap, ◌∙◌, ⊎_elim, arith}
use Rattle.std.specs.Option.{option_flatten}
use Rattle.std.specs.List.{position_or_len}
use Rattle.std.proofs.lemmas.Bool.{cases_lt, lt-ltb, le-ltb, false≢true}
use Rattle.std.proofs.lemmas.List.Folds.{find_at}
use Rattle.std.proofs.lemmas.List.Sums.{passes_at_first}
use Rattle.std.proofs.lemmas.Option.{slice_get-get_or, slice_get_past}
use Rattle.books.specs.Places.{any_where}
use Rattle.books.proofs.Searches.{place_bound, found_at, found_none}
use Rattle.claims.specs.ClaimBook.{Places, is_free, holds_file, claim_of, making_verdict}
use Rattle.claims.specs.declared.claim.Claim.{Claim}
use Rattle.claims.specs.declared.claim_verdict.ClaimVerdict.TheVariants.{Taken, AlreadyClaimed, NoPlace}

-- a place that holds a file is not free
holds_some : (f : ℕ) (o : Option Claim) → holds_file f o ≡ true → is_some o ≡ true
holds_some f None h = absurd (false≢true h)
holds_some f (Some m) h = refl

-- a file has a claim just where some place holds it
pub is_claimed_where : (f : ℕ) (s : Places) → is_some (claim_of f s) ≡ any_where (holds_file f) s
is_claimed_where f s =
    let p = holds_file f in
    let n = position_or_len p s in
    ⊎_elim
    (λ (lt : n < length s).
    ap (λ (o : Option (Option Claim)). is_some (option_flatten o)) (find_at p s ∙ slice_get-get_or s n None lt)
    ∙ (holds_some f (get_or s n None) (passes_at_first p s None lt) ∙ sym (lt-ltb n (length s) lt)))
    (λ (ge : length s ≤ n). ap (λ (o : Option (Option Claim)). is_some (option_flatten o)) (find_at p s ∙ slice_get_past s n ge) ∙ sym (le-ltb n (length s) ge))
    (cases_lt n (length s))

-- a test that no place passes
pub nowhere : (test : Option Claim → Bool) (s : Places) → any_where test s ≡ false → position_or_len test s ≡ length s
nowhere test s f = let b = place_bound test s in grind arith

module _ (s : Places) (m : Claim) where
  pub claimed_before : true ≡ is_some (claim_of m.file s) → AlreadyClaimed ≡ making_verdict m s
  claimed_before t = let where_held = is_claimed_where m.file s in grind arith

  module _ (f : false ≡ is_some (claim_of m.file s)) where
    pub unclaimed_place : position_or_len (holds_file m.file) s ≡ length s
    unclaimed_place = nowhere (holds_file m.file) s (sym (f ∙ is_claimed_where m.file s))

    pub no_place : None ≡ position is_free s → NoPlace ≡ making_verdict m s
    no_place at = let where_held = is_claimed_where m.file s in let none = found_none is_free s at in grind arith

    pub room : (i : ℕ) → Some i ≡ position is_free s → Taken ≡ making_verdict m s
    room i at = let where_held = is_claimed_where m.file s in let found = found_at is_free s i at in grind arith
