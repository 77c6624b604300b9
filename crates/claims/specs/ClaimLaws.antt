-- The laws of the claim book, for any table of places and whatever notes it is given. Assumes nothing.
use Rattle.std.specs.Prelude.{◌≡◌, length, Some, None}
use Rattle.protocol.specs.declared.note.Note.{Note}
use Rattle.books.specs.Feeding.{Always}
use Rattle.claims.specs.Limits.{claim_places}
use Rattle.claims.specs.ClaimBook.{Places, empty_places, claim_act, claim_of, claim_next, claim_verdict, ClaimedOnce}
use Rattle.claims.specs.declared.claim.Claim.{Claim}
use Rattle.claims.specs.declared.claim.ClaimAct.TheVariants.{Make, Release}
use Rattle.claims.specs.declared.claim_verdict.ClaimVerdict.TheVariants.{Taken}

abbrev pub NoFileTwice : Type 0
NoFileTwice = Always claim_next empty_places ClaimedOnce

abbrev pub AsManyPlaces : Type 0
AsManyPlaces = Always claim_next empty_places (λ s. length s ≡ claim_places)

-- after a release that was taken, a file that nobody has can be claimed
abbrev pub FreedPlacesAreUsedAgain : Type 0
FreedPlacesAreUsedAgain =
    (s : Places) (release claim : Note) (r m : Claim)
    → claim_act release ≡ Some (Release r) → claim_verdict s release ≡ Taken → claim_act claim ≡ Some (Make m) → claim_of m.file (claim_next s release) ≡ None
    → claim_verdict (claim_next s release) claim ≡ Taken
