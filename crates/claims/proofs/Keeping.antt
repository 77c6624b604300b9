-- What notes keep of a table of claims: the proofs of its laws. Assumes nothing.
use Rattle.std.proofs.Common.{◌≡◌, ℕ, ◌<◌, Bool, true, false, cond, length, is_some, Some, None, Option, sym, refl, ap, ◌∙◌, subst, ⊎_elim, arith}
use Rattle.std.proofs.lemmas.List.{length-set, length-replicate, get_or-set_same}
use Rattle.std.proofs.lemmas.Bool.{cases_Bool, ltb-true, lt-ltb}
use Rattle.protocol.specs.declared.note.Note.{Note}
use Rattle.std.specs.List.{position_or_len}
use Rattle.books.specs.Places.{any_where}
use Rattle.books.proofs.Searches.{place_least}
use Rattle.books.proofs.Feeding.{always}
use Rattle.claims.specs.Limits.{claim_places}
use Rattle.claims.specs.ClaimBook.{Places, empty_places, claim_act, act_verdict, act_next, making_verdict, releasing_verdict, made, released, claim_next, is_taken, is_free, holds_file, holds_claim, ClaimedOnce}
use Rattle.claims.specs.ClaimLaws.{NoFileTwice, AsManyPlaces, FreedPlacesAreUsedAgain}
use Rattle.claims.specs.declared.claim.Claim.{Claim}
use Rattle.claims.specs.declared.claim.ClaimAct.{ClaimAct}
use Rattle.claims.specs.declared.claim.ClaimAct.TheVariants.{Make, Release}
use Rattle.claims.specs.declared.claim_verdict.ClaimVerdict.TheVariants.{Taken, AlreadyClaimed, NoPlace, NotClaimed}
use Rattle.claims.proofs.Making.{is_claimed_where, nowhere}
use Rattle.claims.proofs.Once.{free_once, made_once, released_once}

-- t is what a note makes of s
data Step (s t : Places) : Type 0 where
  stays : t ≡ s → Step s t
  makes : (m : Claim) → position_or_len (holds_file m.file) s ≡ length s → position_or_len is_free s < length s → t ≡ made m s → Step s t
  releases : (m : Claim) → t ≡ released m s → Step s t

module _ (s : Places) (x : Note) where
  asked_step : (o : Option ClaimAct) → claim_act x ≡ o → Step s (claim_next s x)
  asked_step None asks = stays (ap (λ (o : Option ClaimAct). cond (is_taken (act_verdict o s)) (act_next o s) s) asks)
  asked_step (Some (Make m)) asks =
      let after : claim_next s x ≡ cond (is_taken (making_verdict m s)) (made m s) s = ap (λ (o : Option ClaimAct). cond (is_taken (act_verdict o s)) (act_next o s) s) asks in
      let by : Bool → Bool → Places = λ a b. cond (is_taken (cond a AlreadyClaimed (cond b Taken NoPlace))) (made m s) s in
      let held = any_where (holds_file m.file) s in
      let free = any_where is_free s in
      ⊎_elim (λ (t : held ≡ true). stays (after ∙ ap (λ (a : Bool). by a free) t))
      (λ (f : held ≡ false).
      let rest = after ∙ ap (λ (a : Bool). by a free) f in
      ⊎_elim (λ (t : free ≡ true). makes m (nowhere (holds_file m.file) s f) (ltb-true (position_or_len is_free s) (length s) t) (rest ∙ ap (by false) t))
      (λ (g : free ≡ false). stays (rest ∙ ap (by false) g)) (cases_Bool free))
      (cases_Bool held)
  asked_step (Some (Release m)) asks =
      let after : claim_next s x ≡ cond (is_taken (releasing_verdict m s)) (released m s) s = ap (λ (o : Option ClaimAct). cond (is_taken (act_verdict o s)) (act_next o s) s) asks in
      let by : Bool → Places = λ a. cond (is_taken (cond a Taken NotClaimed)) (released m s) s in
      let held = any_where (holds_claim m) s in
      ⊎_elim (λ (t : held ≡ true). releases m (after ∙ ap by t)) (λ (f : held ≡ false). stays (after ∙ ap by f)) (cases_Bool held)

  step : Step s (claim_next s x)
  step = asked_step (claim_act x) refl

once_step : (s t : Places) → Step s t → ClaimedOnce s → ClaimedOnce t
once_step s t (stays q) h = subst ClaimedOnce (sym q) h
once_step s t (makes m none room q) h = subst ClaimedOnce (sym q) (made_once s m none (position_or_len is_free s) room h)
once_step s t (releases m q) h = subst ClaimedOnce (sym q) (released_once s (position_or_len (holds_claim m) s) h)

pub never_twice : NoFileTwice
never_twice = always claim_next ClaimedOnce (λ s x. once_step s (claim_next s x) (step s x)) empty_places (free_once claim_places)

long_step : (s t : Places) → Step s t → length s ≡ claim_places → length t ≡ claim_places
long_step s t (stays q) h = ap (λ (l : Places). length l) q ∙ h
long_step s t (makes m none room q) h = ap (λ (l : Places). length l) q ∙ (length-set s (position_or_len is_free s) (Some m) ∙ h)
long_step s t (releases m q) h = ap (λ (l : Places). length l) q ∙ (length-set s (position_or_len (holds_claim m) s) None ∙ h)

pub always_as_many : AsManyPlaces
always_as_many = always claim_next (λ s. length s ≡ claim_places) (λ s x. long_step s (claim_next s x) (step s x)) empty_places (length-replicate {A = Option Claim} claim_places None)

-- ---- a freed place

-- the place of a claim is free after its release
room_after : (s : Places) (m : Claim) → any_where (holds_claim m) s ≡ true → any_where is_free (released m s) ≡ true
room_after s m held =
    let p = position_or_len (holds_claim m) s in
    let within : p < length s = ltb-true p (length s) held in
    let len = length-set s p None in
    let inside : p < length (released m s) = omega arith in
    let least = place_least is_free (released m s) p None inside (ap is_free (get_or-set_same s p None None within)) in
    let lt : position_or_len is_free (released m s) < length (released m s) = omega arith in
    lt-ltb (position_or_len is_free (released m s)) (length (released m s)) lt

-- a release is taken only if some place holds the claim
taken_held : (b : Bool) → cond b Taken NotClaimed ≡ Taken → b ≡ true
taken_held true h = refl
taken_held false h = let z : ◌≡◌ {A = ℕ} 0 1 = cc in absurd (omega arith)

pub used_again : FreedPlacesAreUsedAgain
used_again s release claim r m releases_r taken makes_m none =
    let held : any_where (holds_claim r) s ≡ true = taken_held (any_where (holds_claim r) s) (sym (ap (λ (o : Option ClaimAct). act_verdict o s) releases_r) ∙ taken) in
    let t = released r s in
    let is : claim_next s release ≡ t =
    ap (λ (o : Option ClaimAct). cond (is_taken (act_verdict o s)) (act_next o s) s) releases_r
    ∙ ap (λ (b : Bool). cond (is_taken (cond b Taken NotClaimed)) t s) held in
    let free : any_where is_free (claim_next s release) ≡ true = ap (λ (l : Places). any_where is_free l) is ∙ room_after s r held in
    ap (λ (o : Option ClaimAct). act_verdict o (claim_next s release)) makes_m
    ∙ (ap (λ (b : Bool). cond b AlreadyClaimed (cond (any_where is_free (claim_next s release)) Taken NoPlace)) (sym (is_claimed_where m.file (claim_next s release)) ∙ ap is_some none)
    ∙ ap (λ (b : Bool). cond b Taken NoPlace) free)
