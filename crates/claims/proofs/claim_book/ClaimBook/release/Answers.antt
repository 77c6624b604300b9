-- That the place of the claim is within the table.
use Rattle.std.proofs.Common.{vec_items, rules}
use Rattle.books.proofs.Searches.{found_at}
use Rattle.claims.specs.ClaimBook.{holds_claim}
use Rattle.claims.proofs.claim_book.ClaimBook.release.Goals as goal

pub index_mut-requires : goal.index_mut-requires
index_mut-requires c = let at = (found_at (holds_claim c.args.claim) (vec_items c.args.self.now.places) c.in-Some.place c.in-Some.ensures).1 in search (rules, at)
