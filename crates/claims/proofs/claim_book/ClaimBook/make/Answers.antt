-- That a claim is answered by the rules, and holds no file twice.
use Rattle.std.proofs.Common.{ℕ, set, Some, vec_items, refl, ap, arith, rules}
use Rattle.books.proofs.Searches.{found_at}
use Rattle.claims.specs.ClaimBook.{is_free}
use Rattle.claims.proofs.Once.{made_once}
use Rattle.claims.proofs.Making.{claimed_before, unclaimed_place, no_place, room}
use Rattle.claims.proofs.claim_book.ClaimBook.make.Goals as goal

pub returns-then-is_some : goal.returns-then-is_some
returns-then-is_some c =
    record { value = claimed_before (vec_items c.args.self.now.places) c.args.claim (search rules); taken = λ z. absurd (omega (arith, z)); same = λ _. refl }

pub returns-in_default : goal.returns-in_default
returns-in_default c =
    record { value = no_place (vec_items c.args.self.now.places) c.args.claim (search rules) c.in_default.ensures; taken = λ z. absurd (omega (arith, z)); same = λ _. refl }

pub index_mut-requires : goal.index_mut-requires
index_mut-requires c = let at = (found_at is_free (vec_items c.args.self.now.places) c.in-Some.place c.in-Some.ensures).1 in search (rules, at)

pub invariant_of-self : goal.invariant_of-self
invariant_of-self c =
    let s = vec_items c.args.self.now.places in
    let at = found_at is_free s c.in-Some.place c.in-Some.ensures in
    record { full = search rules; once = made_once s c.args.claim (unclaimed_place s c.args.claim (search rules)) c.in-Some.place at.1 c.args.self.now.once }

pub returns : goal.returns
returns c =
    let s = vec_items c.args.self.now.places in
    let at = found_at is_free s c.in-Some.place c.in-Some.ensures in
    record { value = room s c.args.claim (search rules) c.in-Some.place c.in-Some.ensures; taken = λ _. ap (λ (k : ℕ). set s k (Some c.args.claim)) at.0; same = λ h. absurd (h refl) }
