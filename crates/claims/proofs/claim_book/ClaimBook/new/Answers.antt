-- That free places hold no file twice.
use Rattle.std.proofs.Common.{◌≡◌, vec_items, subst, rules}
use Rattle.claims.specs.Limits.{claim_places}
use Rattle.claims.specs.ClaimBook.{empty_places, ClaimedOnce}
use Rattle.claims.proofs.Once.{free_once}
use Rattle.claims.proofs.claim_book.ClaimBook.new.Goals as goal

pub invariant_of-result : goal.invariant_of-result
invariant_of-result c =
    let same : empty_places ≡ vec_items c.in_ok-places.places = search rules in
    record { full = search rules; once = subst ClaimedOnce same (free_once claim_places) }
