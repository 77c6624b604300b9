-- What the acts on entries keep. Assumes nothing.
use Rattle.std.proofs.Common.{◌≡◌, ℕ, suc, ◌+◌, ◌<◌, ◌≤◌, Bool, true, false, not, cond, List, [], ◌∷◌, ◌++◌, length, get_or, set, position, Some, None, Option, ◌≢◌, sym, refl, ap, ◌∙◌, subst, arith}
use Rattle.std.proofs.lemmas.List.{map_push}
use Rattle.std.proofs.lemmas.Option.{slice_get-get_or, slice_get_past}
use Rattle.std.proofs.Math.Seq.{map-set_same}
use Rattle.std.proofs.lemmas.List.Folds.{find_at}
use Rattle.std.proofs.lemmas.List.Quantifiers.{all_pairs_push}
use Rattle.std.specs.List.{position_or_len}
use Rattle.protocol.specs.declared.note.Note.{Note}
use Rattle.books.specs.Places.{Apart}
use Rattle.books.specs.Limits.{is_number}
use Rattle.entries.specs.EntryBook.{has_number, numbers, lawful_act, opened, entry_after, changed, entry_act, act_next, asked_next, known_verdict, unknown_verdict, verdict_on, act_verdict, entry_verdict, entry_next, is_taken, in_range, no_entry}
use Rattle.entries.specs.declared.customs_entry.CustomsEntry.{CustomsEntry}
use Rattle.entries.specs.declared.entry_act.EntryAct.{EntryAct}
use Rattle.entries.specs.declared.entry_act.EntryAct.TheVariants.{Open, Freight, Insurance, Close}
use Rattle.entries.specs.declared.entry_verdict.EntryVerdict.{EntryVerdict}
use Rattle.books.proofs.Searches.{key_new, found_at, found_none}

pub after_number : (act : EntryAct) (e : CustomsEntry) → (entry_after act e).number ≡ e.number
after_number (Open _ _) e = refl
after_number (Freight _) e = refl
after_number (Insurance _) e = refl
after_number Close e = refl

-- a new number stays apart
pub opened_apart : (s : List CustomsEntry) (e : CustomsEntry) → position_or_len (has_number e.number) s ≡ length s → Apart (numbers s) → Apart (numbers (s ++ (e ∷ [])))
opened_apart s e none apart =
    subst Apart (sym (map_push (λ (x : CustomsEntry). x.number) s e))
    (all_pairs_push (λ m n. m ≢ n) (numbers s) e.number apart (key_new (λ (x : CustomsEntry). x.number) s e.number no_entry none))

pub replaced_apart : (s : List CustomsEntry) (i : ℕ) (e : CustomsEntry) → e.number ≡ (get_or s i no_entry).number → Apart (numbers s) → Apart (numbers (set s i e))
replaced_apart s i e same apart = subst Apart (sym (map-set_same (λ (x : CustomsEntry). x.number) s i e no_entry same)) apart

pub opened_in_range : (n p r : ℕ) → is_number n ≡ true → lawful_act (Open p r) ≡ true → in_range (opened n p r) ≡ true
opened_in_range n p r number figures = grind arith

-- changing the entry of a number is replacing it at its place
pub changed_is : (n : ℕ) (f : CustomsEntry → CustomsEntry) (s : List CustomsEntry) (d : CustomsEntry)
    → changed n f s ≡ set s (position_or_len (has_number n) s) (f (get_or s (position_or_len (has_number n) s) d))
changed_is n f [] d = refl
changed_is n f (e ∷ es) d =
    let p = position_or_len (has_number n) es in
    let next : suc p ≡ 1 + p = omega arith in
    subst (λ (k : ℕ). changed n f (e ∷ es) ≡ set (e ∷ es) (cond (not (has_number n e)) k 0) (f (get_or (e ∷ es) (cond (not (has_number n e)) k 0) d))) next (
    elim (has_number n e) as (λ (b : Bool). cond b (f e ∷ es) (e ∷ changed n f es) ≡ set (e ∷ es) (cond (not b) (suc p) 0) (f (get_or (e ∷ es) (cond (not b) (suc p) 0) d))) [
      | true ↦ refl
      | false ↦ ap (λ (t : List CustomsEntry). e ∷ t) (changed_is n f es d)
    ]
    )

-- the same of a whole act on an entry of the book, where an opening is never taken
pub known_next : (act : EntryAct) (n : ℕ) (s : List CustomsEntry) (e d : CustomsEntry)
    → cond (is_taken (known_verdict act e)) (act_next act n s) s
    ≡ cond (is_taken (known_verdict act e)) (set s (position_or_len (has_number n) s) (entry_after act (get_or s (position_or_len (has_number n) s) d))) s
known_next (Open p r) n s e d = refl
known_next (Freight c) n s e d = ap (λ (t : List CustomsEntry). cond (is_taken (known_verdict (Freight c) e)) t s) (changed_is n (entry_after (Freight c)) s d)
known_next (Insurance c) n s e d = ap (λ (t : List CustomsEntry). cond (is_taken (known_verdict (Insurance c) e)) t s) (changed_is n (entry_after (Insurance c)) s d)
known_next Close n s e d = ap (λ (t : List CustomsEntry). cond (is_taken (known_verdict Close e)) t s) (changed_is n (entry_after Close) s d)

-- ---- the verdict and the next state, once the number was looked for

module _ (s : List CustomsEntry) (x : Note) (act : EntryAct) (asks : entry_act x ≡ Some act) where
  -- where it was found, and what stands there
  abbrev found : ℕ
  found = position_or_len (has_number x.b) s

  abbrev there : CustomsEntry
  there = get_or s found no_entry

  pub known_value : found < length s → entry_verdict s x ≡ known_verdict act there
  known_value h =
      ap (λ (a : Option EntryAct). act_verdict a x.b s) asks ∙ ap (λ (o : Option CustomsEntry). verdict_on act o (length s)) (find_at (has_number x.b) s ∙ slice_get-get_or s found no_entry h)

  pub known_after : found < length s → entry_next s x ≡ cond (is_taken (known_verdict act there)) (set s found (entry_after act there)) s
  known_after h =
      ap (λ (v : EntryVerdict). cond (is_taken v) (asked_next (entry_act x) x.b s) s) (known_value h)
      ∙ (ap (λ (a : Option EntryAct). cond (is_taken (known_verdict act there)) (asked_next a x.b s) s) asks ∙ known_next act x.b s there no_entry)

  pub unknown_value : found ≡ length s → entry_verdict s x ≡ unknown_verdict act (length s)
  unknown_value e =
      let past : length s ≤ found = omega arith in
      ap (λ (a : Option EntryAct). act_verdict a x.b s) asks ∙ ap (λ (o : Option CustomsEntry). verdict_on act o (length s)) (find_at (has_number x.b) s ∙ slice_get_past s found past)

  pub unknown_after : found ≡ length s → entry_next s x ≡ cond (is_taken (unknown_verdict act (length s))) (act_next act x.b s) s
  unknown_after e =
      ap (λ (v : EntryVerdict). cond (is_taken v) (asked_next (entry_act x) x.b s) s) (unknown_value e)
      ∙ ap (λ (a : Option EntryAct). cond (is_taken (unknown_verdict act (length s))) (asked_next a x.b s) s) asks

-- ---- the same, once a place or none was found

module _ (s : List CustomsEntry) (x : Note) (act : EntryAct) (asks : entry_act x ≡ Some act) where
  pub known_at : (p : ℕ) → Some p ≡ position (has_number x.b) s
      → (entry_verdict s x ≡ known_verdict act (get_or s p no_entry))
      × (entry_next s x ≡ cond (is_taken (known_verdict act (get_or s p no_entry))) (set s p (entry_after act (get_or s p no_entry))) s)
  known_at p at =
      let h = found_at (has_number x.b) s p at in
      let lt : position_or_len (has_number x.b) s < length s = omega (arith, h.0, h.1) in (
        known_value s x act asks lt ∙ ap (λ (k : ℕ). known_verdict act (get_or s k no_entry)) (sym h.0),
        known_after s x act asks lt ∙ ap (λ (k : ℕ). cond (is_taken (known_verdict act (get_or s k no_entry))) (set s k (entry_after act (get_or s k no_entry))) s) (sym h.0),
      )

  pub unknown_at : None ≡ position (has_number x.b) s
      → (entry_verdict s x ≡ unknown_verdict act (length s)) × (entry_next s x ≡ cond (is_taken (unknown_verdict act (length s))) (act_next act x.b s) s)
  unknown_at at =
      let none = found_none (has_number x.b) s at in
      (unknown_value s x act asks none, unknown_after s x act asks none)
