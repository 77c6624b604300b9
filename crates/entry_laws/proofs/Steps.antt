-- What one note can do to a book of entries: nothing, an opening, or a change of one open entry. Assumes nothing.
use Rattle.std.proofs.Common.{◌≡◌, ℕ, ◌<◌, ◌≤◌, Bool, true, false, cond, ltb, List, [], ◌∷◌, ◌++◌, length, get_or, set, Some, None, Option, refl, ap, ◌∙◌, ⊎_elim, arith}
use Rattle.std.proofs.lemmas.Bool.{cases_lt, cases_Bool, cond-true, cond-false, ltb-true}
use Rattle.protocol.specs.declared.note.Note.{Note}
use Rattle.entries.specs.Limits.{entry_places}
use Rattle.std.specs.List.{position_or_len}
use Rattle.books.specs.Limits.{is_number}
use Rattle.entries.specs.EntryBook.{has_number, opened, act_of, entry_act, lawful_act, is_amount, act_verdict, asked_next, entry_after, entry_next, known_verdict, is_taken, no_entry}
use Rattle.entries.specs.declared.customs_entry.CustomsEntry.{CustomsEntry}
use Rattle.entries.specs.declared.entry_act.EntryAct.{EntryAct}
use Rattle.entries.specs.declared.entry_act.EntryAct.TheVariants.{Open, Freight, Insurance, Close}
use Rattle.entries.specs.declared.entry_verdict.EntryVerdict.TheVariants.{Taken, NoPlace}
use Rattle.books.proofs.Searches.{place_bound}
use Rattle.entries.proofs.Entries.{known_after, unknown_after}

-- t is what a note makes of s
pub data Step (s t : List CustomsEntry) : Type 0 where
  stays : t ≡ s → Step s t
  opens : (n p r : ℕ) → is_number n ≡ true → lawful_act (Open p r) ≡ true → position_or_len (has_number n) s ≡ length s → length s < entry_places → t ≡ s ++ (opened n p r ∷ []) → Step s t
  changes : (act : EntryAct) (i : ℕ) → lawful_act act ≡ true → i < length s → is_taken (known_verdict act (get_or s i no_entry)) ≡ true → t ≡ set s i (entry_after act (get_or s i no_entry)) → Step s t

-- what a note asks has its figures in range
figures_lawful : (a c d : ℕ) (act : EntryAct) → is_amount c ≡ true → act_of a c d ≡ Some act → lawful_act act ≡ true
figures_lawful a c d (Open p r) amount asks = grind arith
figures_lawful a c d (Freight f) amount asks = grind arith
figures_lawful a c d (Insurance i) amount asks = grind arith
figures_lawful a c d Close amount asks = refl

pub asked_lawful : (x : Note) (act : EntryAct) → entry_act x ≡ Some act → (is_number x.b ≡ true) × (lawful_act act ≡ true)
asked_lawful x act asks = (grind arith, figures_lawful x.a x.c x.d act (grind arith) (grind arith))

module _ (s : List CustomsEntry) (x : Note) where
  abbrev found : ℕ
  found = position_or_len (has_number x.b) s

  known_step : (act : EntryAct) → lawful_act act ≡ true → entry_act x ≡ Some act → found < length s → Step s (entry_next s x)
  known_step act lawful asks within =
      let e = get_or s found no_entry in
      let after = known_after s x act asks within in
      ⊎_elim (λ (t : is_taken (known_verdict act e) ≡ true). changes act found lawful within t (after ∙ cond-true (is_taken (known_verdict act e)) _ _ t))
      (λ (f : is_taken (known_verdict act e) ≡ false). stays (after ∙ cond-false (is_taken (known_verdict act e)) _ _ f)) (cases_Bool (is_taken (known_verdict act e)))

  unknown_step : (act : EntryAct) → is_number x.b ≡ true → lawful_act act ≡ true → entry_act x ≡ Some act → found ≡ length s → Step s (entry_next s x)
  unknown_step (Open p r) numbered lawful asks none =
      let after = unknown_after s x (Open p r) asks none in
      let next = s ++ (opened x.b p r ∷ []) in
      let by : Bool → List CustomsEntry = λ b. cond (is_taken (cond b Taken NoPlace)) next s in
      ⊎_elim (λ (t : ltb (length s) entry_places ≡ true). opens x.b p r numbered lawful none (ltb-true (length s) entry_places t) (after ∙ ap by t))
      (λ (f : ltb (length s) entry_places ≡ false). stays (after ∙ ap by f)) (cases_Bool (ltb (length s) entry_places))
  unknown_step (Freight c) numbered lawful asks none = stays (unknown_after s x (Freight c) asks none)
  unknown_step (Insurance c) numbered lawful asks none = stays (unknown_after s x (Insurance c) asks none)
  unknown_step Close numbered lawful asks none = stays (unknown_after s x Close asks none)

  asked_step : (o : Option EntryAct) → entry_act x ≡ o → Step s (entry_next s x)
  asked_step None asks = stays (ap (λ (a : Option EntryAct). cond (is_taken (act_verdict a x.b s)) (asked_next a x.b s) s) asks)
  asked_step (Some act) asks =
      let lawful = asked_lawful x act asks in
      ⊎_elim (λ (lt : found < length s). known_step act lawful.1 asks lt)
      (λ (ge : length s ≤ found). unknown_step act lawful.0 lawful.1 asks (let b = place_bound (has_number x.b) s in omega arith)) (cases_lt found (length s))

  pub step : Step s (entry_next s x)
  step = asked_step (entry_act x) refl
