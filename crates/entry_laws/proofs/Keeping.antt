-- What notes keep of a book of entries: the proofs of its laws. Assumes nothing.
use Rattle.std.proofs.Common.{◌≡◌, ℕ, ◌+◌, ◌-◌, ◌*◌, ◌/◌, ◌%◌, ◌<◌, ◌≤◌, true, cond, List, [], ◌∷◌, ◌++◌, length, get_or, set, is_some, Some, None, Option, unwrap_or, sym, refl, ap, ◌∙◌, subst, ⊎_elim, arith}
use Rattle.std.specs.List.{slice_get, position_or_len}
use Rattle.std.proofs.lemmas.Nat.{div-add-mod', mod_below}
use Rattle.std.proofs.lemmas.List.{length-map, length_push, length-set, get_or-map}
use Rattle.std.proofs.lemmas.Bool.{cases_eq, cases_lt, eq-eqb, eqb-true, false≢true}
use Rattle.protocol.specs.declared.note.Note.{Note}
use Rattle.entries.specs.Limits.{entry_places, whole_rate}
use Rattle.books.specs.Places.{Apart}
use Rattle.books.proofs.Feeding.{always}
use Rattle.books.specs.Feeding.{Always}
use Rattle.books.proofs.Searches.{place_least}
use Rattle.std.proofs.lemmas.List.Elements.{All-push, All-set}
use Rattle.std.proofs.lemmas.List.Folds.{find_at}
use Rattle.std.proofs.lemmas.List.Sums.{passes_at_first}
use Rattle.std.proofs.lemmas.Option.{slice_get_within, get_or_from_slice_get}
use Rattle.entries.specs.EntryBook.{has_number, numbers, opened, entry_after, duty_of, known_verdict, entry_next, is_taken, in_range, no_entry, InRange}
use Rattle.entry_laws.specs.EntryLaws.{book_after, ClosedEntriesNeverChange, Grown, EntriesStay, EntriesAreFound, NoNumberTwice, Due, DutiesDue, DutiesAreDue, NeverOverFull, FiguresStayInRange}
use Rattle.entries.specs.declared.customs_entry.CustomsEntry.{CustomsEntry}
use Rattle.entries.specs.declared.entry_act.EntryAct.{EntryAct}
use Rattle.entries.specs.declared.entry_act.EntryAct.TheVariants.{Open, Freight, Insurance, Close}
use Rattle.entries.specs.declared.entry_verdict.EntryVerdict.TheVariants.{Taken, Closed, GivenBefore, NoFreight}
use Rattle.books.proofs.Places.{nth_push, nth_pushed, nth_set_here, nth_set_there, at_nth, nth_at}
use Rattle.entries.proofs.Entries.{after_number, opened_apart, replaced_apart, opened_in_range}
use Rattle.entries.proofs.Duties.{after_ranged}
use Rattle.entry_laws.proofs.Steps.{Step, stays, opens, changes, step}

-- ---- what an act that is taken found in the entry

amount_taken : (duty given : Option ℕ) → is_taken (cond (is_some duty) Closed (cond (is_some given) GivenBefore Taken)) ≡ true → (duty ≡ None) × (given ≡ None)
amount_taken None None h = (refl, refl)
amount_taken None (Some n) h = absurd (false≢true h)
amount_taken (Some d) given h = absurd (false≢true h)

closing_taken : (duty freight : Option ℕ) → is_taken (cond (is_some duty) Closed (cond (is_some freight) Taken NoFreight)) ≡ true → (duty ≡ None) × ((f : ℕ) × (freight ≡ Some f))
closing_taken None None h = absurd (false≢true h)
closing_taken None (Some f) h = (refl, (f, refl))
closing_taken (Some d) freight h = absurd (false≢true h)

taken_open : (act : EntryAct) (e : CustomsEntry) → is_taken (known_verdict act e) ≡ true → e.duty ≡ None
taken_open act e h = grind arith

-- an amount is not both absent and there
clash : {P : Type 0} (o : Option ℕ) (n : ℕ) → o ≡ None → o ≡ Some n → P
clash o n absent there = let z : ◌≡◌ {A = ℕ} 0 1 = cc in absurd (omega arith)

-- ---- one note and one entry

module _ (s t : List CustomsEntry) (j : ℕ) (e : CustomsEntry) (stood : slice_get s j ≡ Some e) where
  closed_step : (d : ℕ) → e.duty ≡ Some d → Step s t → slice_get t j ≡ Some e
  closed_step d closed (stays q) = ap (λ (l : List CustomsEntry). slice_get l j) q ∙ stood
  closed_step d closed (opens n p r numbered lawful none room q) = ap (λ (l : List CustomsEntry). slice_get l j) q ∙ nth_push s (opened n p r) j e stood
  closed_step d closed (changes act i lawful within taken q) =
      ap (λ (l : List CustomsEntry). slice_get l j) q
      ∙ ⊎_elim
      (λ (same : j ≡ i).
      let there : get_or s i no_entry ≡ e = ap (λ (k : ℕ). get_or s k no_entry) (sym same) ∙ get_or_from_slice_get s j e no_entry stood in
      clash e.duty d (ap (λ (x : CustomsEntry). x.duty) (sym there) ∙ taken_open act (get_or s i no_entry) taken) closed)
      (λ (apart : j ≡ i → ⊥). nth_set_there s i j (entry_after act (get_or s i no_entry)) apart ∙ stood) (cases_eq j i)

-- what an entry becomes
record Becomes (j : ℕ) (e : CustomsEntry) (t : List CustomsEntry) : Type 0 where
  later : CustomsEntry
  stands : slice_get t j ≡ Some later
  grown : Grown e later

unchanged : (e : CustomsEntry) → Grown e e
unchanged e = record { number = refl; price = refl; rate = refl; freight = λ n h. h; insurance = λ n h. h; duty = λ n h. h }

grown_twice : (a b c : CustomsEntry) → Grown a b → Grown b c → Grown a c
grown_twice a b c g h =
    record {
      number = h.number ∙ g.number;
      price = h.price ∙ g.price;
      rate = h.rate ∙ g.rate;
      freight = λ n x. h.freight n (g.freight n x);
      insurance = λ n x. h.insurance n (g.insurance n x);
      duty = λ n x. h.duty n (g.duty n x);
    }

grown_after : (act : EntryAct) (e : CustomsEntry) → is_taken (known_verdict act e) ≡ true → Grown e (entry_after act e)
grown_after (Open p r) e h = unchanged e
grown_after (Freight c) e h =
    record { number = refl; price = refl; rate = refl; freight = λ n x. clash e.freight n (amount_taken e.duty e.freight h).1 x; insurance = λ n x. x; duty = λ n x. x }
grown_after (Insurance c) e h =
    record { number = refl; price = refl; rate = refl; freight = λ n x. x; insurance = λ n x. clash e.insurance n (amount_taken e.duty e.insurance h).1 x; duty = λ n x. x }
grown_after Close e h =
    record { number = refl; price = refl; rate = refl; freight = λ n x. x; insurance = λ n x. x; duty = λ n x. clash e.duty n (closing_taken e.duty e.freight h).0 x }

grown_step : (s t : List CustomsEntry) (j : ℕ) (e : CustomsEntry) → slice_get s j ≡ Some e → Step s t → Becomes j e t
grown_step s t j e stood (stays q) = record { later = e; stands = ap (λ (l : List CustomsEntry). slice_get l j) q ∙ stood; grown = unchanged e }
grown_step s t j e stood (opens n p r numbered lawful none room q) =
    record { later = e; stands = ap (λ (l : List CustomsEntry). slice_get l j) q ∙ nth_push s (opened n p r) j e stood; grown = unchanged e }
grown_step s t j e stood (changes act i lawful within taken q) =
    let was = get_or s i no_entry in
    ⊎_elim
    (λ (same : j ≡ i).
    let there : was ≡ e = ap (λ (k : ℕ). get_or s k no_entry) (sym same) ∙ get_or_from_slice_get s j e no_entry stood in
    record {
      later = entry_after act was;
      stands = ap (λ (l : List CustomsEntry). slice_get l j) q ∙ (ap (λ (k : ℕ). slice_get (set s i (entry_after act was)) k) same ∙ nth_set_here s i (entry_after act was) within);
      grown = subst (λ (x : CustomsEntry). Grown x (entry_after act was)) there (grown_after act was taken);
    })
    (λ (apart : j ≡ i → ⊥).
    record { later = e; stands = ap (λ (l : List CustomsEntry). slice_get l j) q ∙ (nth_set_there s i j (entry_after act was) apart ∙ stood); grown = unchanged e })
    (cases_eq j i)

-- ---- any notes and one entry

closed_fed : (notes : List Note) (s : List CustomsEntry) (j : ℕ) (e : CustomsEntry) (d : ℕ) → slice_get s j ≡ Some e → e.duty ≡ Some d → slice_get (book_after s notes) j ≡ Some e
closed_fed [] s j e d stood closed = stood
closed_fed (x ∷ xs) s j e d stood closed = closed_fed xs (entry_next s x) j e d (closed_step s (entry_next s x) j e stood d closed (step s x)) closed

pub closed_never_change : ClosedEntriesNeverChange
closed_never_change s notes k e d stands closed =
    let h = at_nth k s e stands in
    nth_at k (book_after s notes) e h.0 (closed_fed notes s (k - 1) e d h.1 closed)

grown_fed : (notes : List Note) (s : List CustomsEntry) (j : ℕ) (e : CustomsEntry) → slice_get s j ≡ Some e → Becomes j e (book_after s notes)
grown_fed [] s j e stood = record { later = e; stands = stood; grown = unchanged e }
grown_fed (x ∷ xs) s j e stood =
    let one = grown_step s (entry_next s x) j e stood (step s x) in
    let more = grown_fed xs (entry_next s x) j one.later one.stands in
    record { later = more.later; stands = more.stands; grown = grown_twice e one.later more.later one.grown more.grown }

pub all_stay : EntriesStay
all_stay s notes k e stands =
    let h = at_nth k s e stands in
    let b = grown_fed notes s (k - 1) e h.1 in
    record { later = b.later; stands = nth_at k (book_after s notes) b.later h.0 b.stands; grown = b.grown }

pub all_found : EntriesAreFound
all_found s k e apart stands =
    let h = at_nth k s e stands in
    let within = slice_get_within s (k - 1) e h.1 in
    let test = has_number e.number in
    let p = position_or_len test s in
    let same : (get_or s (k - 1) no_entry).number ≡ e.number = ap (λ (x : CustomsEntry). x.number) (get_or_from_slice_get s (k - 1) e no_entry h.1) in
    let least : p ≤ k - 1 = place_least test s (k - 1) no_entry within (eq-eqb (get_or s (k - 1) no_entry).number e.number same) in
    let in_book : p < length s = omega (arith, within) in
    let first : (get_or s p no_entry).number ≡ e.number = eqb-true (get_or s p no_entry).number e.number (passes_at_first test s no_entry in_book) in
    let number : CustomsEntry → ℕ = λ x. x.number in
    let len = length-map s number in
    ⊎_elim
    (λ (lt : p < k - 1).
    let long : k - 1 < length (numbers s) = omega (arith, within) in
    absurd (apart p (k - 1) 0 lt long (get_or-map number s p no_entry 0 in_book ∙ (first ∙ (sym same ∙ sym (get_or-map number s (k - 1) no_entry 0 within))))))
    (λ (ge : k - 1 ≤ p). let is : p ≡ k - 1 = omega arith in find_at test s ∙ (ap (λ (i : ℕ). slice_get s i) is ∙ h.1)) (cases_lt p (k - 1))

-- ---- what holds at all times

-- what each note keeps, holds at all times
from_steps : (P : List CustomsEntry → Type 0) → P [] → ((s t : List CustomsEntry) → Step s t → P s → P t) → Always entry_next [] P
from_steps P new kept = always entry_next P (λ s x. kept s (entry_next s x) (step s x)) [] new

apart_step : (s t : List CustomsEntry) → Step s t → Apart (numbers s) → Apart (numbers t)
apart_step s t (stays q) h = subst (λ (l : List CustomsEntry). Apart (numbers l)) (sym q) h
apart_step s t (opens n p r numbered lawful none room q) h = subst (λ (l : List CustomsEntry). Apart (numbers l)) (sym q) (opened_apart s (opened n p r) none h)
apart_step s t (changes act i lawful within taken q) h =
    subst (λ (l : List CustomsEntry). Apart (numbers l)) (sym q) (replaced_apart s i (entry_after act (get_or s i no_entry)) (after_number act (get_or s i no_entry)) h)

pub never_twice : NoNumberTwice
never_twice = from_steps (λ s. Apart (numbers s)) (λ i j d below within same. absurd (omega arith)) apart_step

few_step : (s t : List CustomsEntry) → Step s t → length s ≤ entry_places → length t ≤ entry_places
few_step s t (stays q) h = omega (arith, ap (λ (l : List CustomsEntry). length l) q)
few_step s t (opens n p r numbered lawful none room q) h = omega (arith, room, ap (λ (l : List CustomsEntry). length l) q, length_push s (opened n p r))
few_step s t (changes act i lawful within taken q) h =
    omega (arith, ap (λ (l : List CustomsEntry). length l) q, length-set s i (entry_after act (get_or s i no_entry)))

pub never_full : NeverOverFull
never_full = from_steps (λ s. length s ≤ entry_places) (omega arith) few_step

ranged_step : (s t : List CustomsEntry) → Step s t → InRange s → InRange t
ranged_step s t (stays q) h = subst InRange (sym q) h
ranged_step s t (opens n p r numbered lawful none room q) h = subst InRange (sym q) (All-push (λ e. in_range e ≡ true) s (opened n p r) h (opened_in_range n p r numbered lawful))
ranged_step s t (changes act i lawful within taken q) h =
    subst InRange (sym q) (All-set (λ e. in_range e ≡ true) s i (entry_after act (get_or s i no_entry)) (after_ranged act (get_or s i no_entry) lawful (h i no_entry within)) h)

pub always_in_range : FiguresStayInRange
always_in_range = from_steps InRange (λ k d h. absurd (omega arith)) ranged_step

-- ---- duties

-- a whole quotient is the greatest number that goes in
quotient : (m d : ℕ) → m / whole_rate ≡ d → (d * whole_rate ≤ m) × (m < (d + 1) * whole_rate)
quotient m d e =
    let split = div-add-mod' m whole_rate in
    let small : m % whole_rate < whole_rate = mod_below m whole_rate (omega arith) in
    (omega arith, omega arith)

due_after : (act : EntryAct) (e : CustomsEntry) (d : ℕ) → is_taken (known_verdict act e) ≡ true → (entry_after act e).duty ≡ Some d → Due (entry_after act e) d
due_after (Open p r) e d h closed = absurd (false≢true h)
due_after (Freight c) e d h closed = clash e.duty d (amount_taken e.duty e.freight h).0 closed
due_after (Insurance c) e d h closed = clash e.duty d (amount_taken e.duty e.insurance h).0 closed
due_after Close e d h closed =
    let given = (closing_taken e.duty e.freight h).1 in
    let f = given.0 in
    let is : duty_of e ≡ d = cc in
    let value : (e.price + unwrap_or e.freight 0 + unwrap_or e.insurance 0) * e.rate ≡ (e.price + f + unwrap_or e.insurance 0) * e.rate =
    ap (λ (o : Option ℕ). (e.price + unwrap_or o 0 + unwrap_or e.insurance 0) * e.rate) given.1 in
    let both = quotient ((e.price + f + unwrap_or e.insurance 0) * e.rate) d (ap (λ (m : ℕ). m / whole_rate) (sym value) ∙ is) in
    record { f = f; freight = given.1; enough = both.0; exact = both.1 }

due_step : (s t : List CustomsEntry) → Step s t → DutiesDue s → DutiesDue t
due_step s t (stays q) h = subst DutiesDue (sym q) h
due_step s t (opens n p r numbered lawful none room q) h =
    subst DutiesDue (sym q)
    (λ k e d stands closed.
    let at = at_nth k (s ++ (opened n p r ∷ [])) e stands in
    ⊎_elim (λ (old : slice_get s (k - 1) ≡ Some e). h k e d (nth_at k s e at.0 old) closed)
    (λ (new : opened n p r ≡ e). clash e.duty d (ap (λ (x : CustomsEntry). x.duty) (sym new)) closed) (nth_pushed s (opened n p r) (k - 1) e at.1))
due_step s t (changes act i lawful within taken q) h =
    let was = get_or s i no_entry in
    subst DutiesDue (sym q)
    (λ k e d stands closed.
    let at = at_nth k (set s i (entry_after act was)) e stands in
    ⊎_elim
    (λ (same : k - 1 ≡ i).
    let some : Some (entry_after act was) ≡ Some e = sym (ap (λ (m : ℕ). slice_get (set s i (entry_after act was)) m) same ∙ nth_set_here s i (entry_after act was) within) ∙ at.1 in
    let is : entry_after act was ≡ e = cc in
    subst (λ (x : CustomsEntry). Due x d) is (due_after act was d taken (ap (λ (x : CustomsEntry). x.duty) is ∙ closed)))
    (λ (apart : k - 1 ≡ i → ⊥). h k e d (nth_at k s e at.0 (sym (nth_set_there s i (k - 1) (entry_after act was) apart) ∙ at.1)) closed) (cases_eq (k - 1) i))

pub always_due : DutiesAreDue
always_due =
    from_steps DutiesDue (λ k e d stands closed. let at = at_nth k [] e stands in let z : ◌≡◌ {A = ℕ} 0 1 = cc in absurd (omega arith)) due_step
