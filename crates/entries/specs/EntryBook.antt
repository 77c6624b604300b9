-- The entry book: what a note asks, which verdict it gets and what the book holds then. Assumes nothing.
use Rattle.std.specs.Prelude.{◌≡◌, ℕ, ◌+◌, ◌*◌, ◌/◌, Bool, true, cond, ◌&&◌, List, [], ◌∷◌, ◌++◌, All, map, find, length, is_some, Some, None, Option, ◌==◌, nat_le, nat_lt, Result, IfOk}
use Rattle.std.specs.Result.{result_ok}
use Rattle.std.specs.Option.{unwrap_or}
use Rattle.protocol.specs.declared.note.Note.{Note}
use Rattle.books.specs.Limits.{is_number}
use Rattle.entries.specs.Limits.{entry_places, max_amount, max_rate, whole_rate, max_duty}
use Rattle.books.specs.declared.book.MalformedNote.{MalformedNote}
use Rattle.entries.specs.declared.customs_entry.CustomsEntry.{CustomsEntry}
use Rattle.entries.specs.declared.entry_act.EntryAct.{EntryAct}
use Rattle.entries.specs.declared.entry_act.EntryAct.TheVariants.{Open, Freight, Insurance, Close}
use Rattle.entries.specs.declared.entry_verdict.EntryVerdict.{EntryVerdict}
use Rattle.entries.specs.declared.entry_verdict.EntryVerdict.TheVariants.{Taken, Malformed, OpenedBefore, NoPlace, UnknownEntry, Closed, GivenBefore, NoFreight}

-- the number of each verdict
abbrev pub entry_verdict_number : EntryVerdict → ℕ
entry_verdict_number Taken = 0
entry_verdict_number Malformed = 1
entry_verdict_number OpenedBefore = 2
entry_verdict_number NoPlace = 3
entry_verdict_number UnknownEntry = 4
entry_verdict_number Closed = 5
entry_verdict_number GivenBefore = 6
entry_verdict_number NoFreight = 7

-- ---- what a note asks

-- a price, a freight or an insurance
abbrev pub is_amount : ℕ → Bool
is_amount n = nat_le n max_amount

abbrev pub is_rate : ℕ → Bool
is_rate n = nat_le n max_rate

-- a = 1 opens with price c and rate d, 2 gives freight c and 3 insurance c, both with d = 0, and 4 closes, with c = d = 0
abbrev pub act_of : ℕ → ℕ → ℕ → Option EntryAct
act_of a c d =
    cond (a == 1 && is_rate d) (Some (Open c d))
    (cond (a == 2 && d == 0) (Some (Freight c))
    (cond (a == 3 && d == 0) (Some (Insurance c))
    (cond (a == 4 && (c == 0 && d == 0)) (Some Close)
    None)))

-- what the note asks of the entry of number b: nothing if it is malformed
abbrev pub entry_act : Note → Option EntryAct
entry_act x = cond (is_number x.b && is_amount x.c) (act_of x.a x.c x.d) None

-- the figures of an act are in range
abbrev pub lawful_act : EntryAct → Bool
lawful_act (Open p r) = is_amount p && is_rate r
lawful_act (Freight c) = is_amount c
lawful_act (Insurance c) = is_amount c
lawful_act Close = true

-- what reading the note as an act gives: nothing but an error if it is malformed, and an act whose figures are in range
abbrev pub Asks : Note → Result EntryAct MalformedNote → Type 0
Asks x r = (result_ok r ≡ entry_act x) × IfOk r (λ act. (is_number x.b ≡ true) × (lawful_act act ≡ true))

-- ---- what the book holds

abbrev pub has_number : ℕ → CustomsEntry → Bool
has_number n e = e.number == n

-- the entry of that number
abbrev pub entry_of : ℕ → List CustomsEntry → Option CustomsEntry
entry_of n s = find (has_number n) s

-- the numbers of all entries, in order of opening
abbrev pub numbers : List CustomsEntry → List ℕ
numbers s = map (λ e. e.number) s

-- an entry that has its duty is closed
abbrev pub closed : CustomsEntry → Bool
closed e = is_some e.duty

-- an absent insurance counts 0
abbrev pub duty_of : CustomsEntry → ℕ
duty_of e = (e.price + unwrap_or e.freight 0 + unwrap_or e.insurance 0) * e.rate / whole_rate

-- ---- the verdict

-- on an amount, of which the entry has what was given before
abbrev pub amount_verdict : CustomsEntry → Option ℕ → EntryVerdict
amount_verdict e given = cond (closed e) Closed (cond (is_some given) GivenBefore Taken)

abbrev pub closing_verdict : CustomsEntry → EntryVerdict
closing_verdict e = cond (closed e) Closed (cond (is_some e.freight) Taken NoFreight)

-- if the entry stands in the book
abbrev pub known_verdict : EntryAct → CustomsEntry → EntryVerdict
known_verdict (Open _ _) e = OpenedBefore
known_verdict (Freight _) e = amount_verdict e e.freight
known_verdict (Insurance _) e = amount_verdict e e.insurance
known_verdict Close e = closing_verdict e

-- if no entry has the number, in a book of k entries
abbrev pub unknown_verdict : EntryAct → ℕ → EntryVerdict
unknown_verdict (Open _ _) k = cond (nat_lt k entry_places) Taken NoPlace
unknown_verdict (Freight _) k = UnknownEntry
unknown_verdict (Insurance _) k = UnknownEntry
unknown_verdict Close k = UnknownEntry

abbrev pub verdict_on : EntryAct → Option CustomsEntry → ℕ → EntryVerdict
verdict_on act None k = unknown_verdict act k
verdict_on act (Some e) k = known_verdict act e

abbrev pub act_verdict : Option EntryAct → ℕ → List CustomsEntry → EntryVerdict
act_verdict None n s = Malformed
act_verdict (Some act) n s = verdict_on act (entry_of n s) (length s)

abbrev pub entry_verdict : List CustomsEntry → Note → EntryVerdict
entry_verdict s x = act_verdict (entry_act x) x.b s

-- ---- the next state

abbrev pub opened : ℕ → ℕ → ℕ → CustomsEntry
opened n p r = record { number = n; price = p; rate = r; freight = None; insurance = None; duty = None }

-- the entry after an act other than its opening
abbrev pub entry_after : EntryAct → CustomsEntry → CustomsEntry
entry_after (Open _ _) e = e
entry_after (Freight c) e = record { number = e.number; price = e.price; rate = e.rate; freight = Some c; insurance = e.insurance; duty = e.duty }
entry_after (Insurance c) e = record { number = e.number; price = e.price; rate = e.rate; freight = e.freight; insurance = Some c; duty = e.duty }
entry_after Close e = record { number = e.number; price = e.price; rate = e.rate; freight = e.freight; insurance = e.insurance; duty = Some (duty_of e) }

-- the list with the entry of that number changed
abbrev pub changed : ℕ → (CustomsEntry → CustomsEntry) → List CustomsEntry → List CustomsEntry
changed n f [] = []
changed n f (e ∷ es) = cond (has_number n e) (f e ∷ es) (e ∷ changed n f es)

-- the book after an act that is taken: a new entry comes last
abbrev pub act_next : EntryAct → ℕ → List CustomsEntry → List CustomsEntry
act_next (Open p r) n s = s ++ (opened n p r ∷ [])
act_next (Freight c) n s = changed n (entry_after (Freight c)) s
act_next (Insurance c) n s = changed n (entry_after (Insurance c)) s
act_next Close n s = changed n (entry_after Close) s

abbrev pub is_taken : EntryVerdict → Bool
is_taken v = entry_verdict_number v == 0

abbrev pub asked_next : Option EntryAct → ℕ → List CustomsEntry → List CustomsEntry
asked_next None n s = s
asked_next (Some act) n s = act_next act n s

abbrev pub entry_next : List CustomsEntry → Note → List CustomsEntry
entry_next s x = cond (is_taken (entry_verdict s x)) (asked_next (entry_act x) x.b s) s

-- ---- figures in range

abbrev pub absent_or : (ℕ → Bool) → Option ℕ → Bool
absent_or test None = true
absent_or test (Some n) = test n

abbrev pub is_duty : ℕ → Bool
is_duty n = nat_le n max_duty

abbrev pub in_range : CustomsEntry → Bool
in_range e = is_number e.number && (is_amount e.price && (is_rate e.rate
    && (absent_or is_amount e.freight && (absent_or is_amount e.insurance && absent_or is_duty e.duty))))

-- the record of no entry, which is what is read past the end of a list
abbrev pub no_entry : CustomsEntry
no_entry = opened 0 0 0

-- every entry's figures are
abbrev pub InRange : List CustomsEntry → Type 0
InRange s = All (λ e. in_range e ≡ true) s
