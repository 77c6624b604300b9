-- What a claim book means. Assumes nothing.
use Rattle.std.specs.Prelude.{vec_items}
use Rattle.claims.specs.ClaimBook.{Places}
use Rattle.claims.specs.declared.claim_book.ClaimBook.{ClaimBook}

-- its table of places
abbrev pub places_of : ClaimBook → Places
places_of b = vec_items b.places
