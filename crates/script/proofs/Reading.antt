-- The reading of a line is the one command that is written so.
use Rattle.std.proofs.Common.{◌≡◌, ℕ, ◌+◌, ◌-◌, ◌*◌, ◌^◌, ◌<◌, true, ◌&&◌, ◌⊎◌, List, [], ◌∷◌, ◌++◌, length, Some, None, Ok, Err, decimal, Decides, MatchOption, Option, Result, sym, refl, ap, ◌∙◌, subst, inl, inr, append-nil, arith, rules}
use Rattle.std.specs.Str.Parse.{AllDigits}
use Rattle.std.specs.Int.{IsInRange}
use Rattle.std.specs.Option.{ok_or}
use Rattle.std.specs.Char.{is_ascii_digit}
use Rattle.std.specs.Str.{bytes_eq}
use Rattle.std.proofs.lemmas.Slice.Eq.{bytes_eq-Decides}
use Rattle.std.proofs.lemmas.Fmt.{digits_decimal, digits_value-decimal, decimal_nonempty}
use Rattle.std.proofs.lemmas.Str.Parse.{IsNumeralModel, numerals_by_fold, tells_digits, digit_from_value}
use Rattle.std.proofs.lemmas.Bool.{and_parts, and_from, cond_both}
use Rattle.std.proofs.lemmas.Bool.Decides.{nat_tests, Decides-and, not_from_Decides}
use Rattle.protocol.specs.declared.refusal.Refusal.{Refusal}
use Rattle.protocol.specs.declared.refusal.Refusal.TheVariants.{MisshapenLine}
use Rattle.script.specs.Commands.{written, Sized, SizedCall}
use Rattle.script.specs.Reading.{Reads, numbers, forms, is_u32, sized_call, sized, first_written, reading}
use Rattle.runs.specs.declared.call.Call.{Call}
use Rattle.runs.specs.declared.call.Call.TheVariants.{Note, Turn, Take, Lose, Stop, Enter}
use Rattle.script.specs.declared.command.Command.{Command}
use Rattle.script.specs.declared.command.Command.TheVariants.{Roll, Call as Calls}
use Rattle.script.proofs.Commands.{unique}
use Rattle.script.proofs.Decimal.{small}

-- the numbers of a text that begins with a decimal

abbrev read_on : ℕ → List ℕ → ℕ
read_on v [] = v
read_on v (x ∷ xs) = read_on (v * 10 + (x - 48)) xs

own : IsNumeralModel (AllDigits 10) (read_on 0)
own = numerals_by_fold (AllDigits 10) tells_digits read_on (search rules)

is_digit : (x : ℕ) → IsInRange 48 57 x → is_ascii_digit x ≡ true
is_digit x h = grind (arith, nat_tests)

run : (v : ℕ) (ds t : List ℕ) → AllDigits 10 ds → numbers (Some v) (ds ++ t) ≡ numbers (Some (read_on v ds)) t
run v [] t h = refl
run v (x ∷ xs) t h = rw (is_digit x (digit_from_value x h.0)) (run (v * 10 + (x - 48)) xs t h.1)

begun : (ds t : List ℕ) → 0 < length ds → AllDigits 10 ds → numbers None (ds ++ t) ≡ numbers (Some (read_on 0 ds)) t
begun [] t l h = absurd (omega arith)
begun (x ∷ xs) t l h =
    let e : x - 48 ≡ 0 * 10 + (x - 48) = omega arith in
    rw (is_digit x (digit_from_value x h.0)) (run (x - 48) xs t h.1 ∙ ap (λ (v : ℕ). numbers (Some (read_on v xs)) t) e)

one : (n : ℕ) (t : List ℕ) → n < 2 ^ 32 → numbers None (decimal n ++ t) ≡ numbers (Some n) t
one n t h =
    begun (decimal n) t (decimal_nonempty n (small n h)) (digits_decimal own n (small n h))
    ∙ ap (λ (v : ℕ). numbers (Some v) t) (digits_value-decimal own n (small n h))

one_last : (n : ℕ) → n < 2 ^ 32 → numbers None (decimal n) ≡ n ∷ []
one_last n h = ap (numbers None) (sym (append-nil (decimal n))) ∙ one n [] h

-- the test of a command's numbers, and the test of a form

u32_decides : (n : ℕ) → Decides (is_u32 n) (n < 2 ^ 32)
u32_decides n = (λ e. grind (arith, nat_tests), λ h. grind (arith, nat_tests))

call_decides : (c : Call) → Decides (sized_call c) (SizedCall c)
call_decides (Note s x) = (
  λ e. let p = and_parts _ _ e in let q = and_parts _ _ p.1 in let r = and_parts _ _ q.1 in let t = and_parts _ _ r.1 in
      ((u32_decides s).0 p.0, (u32_decides x.a).0 q.0, (u32_decides x.b).0 r.0, (u32_decides x.c).0 t.0, (u32_decides x.d).0 t.1),
  λ h. and_from _ _ ((u32_decides s).1 h.0) (and_from _ _ ((u32_decides x.a).1 h.1) (and_from _ _ ((u32_decides x.b).1 h.2)
      (and_from _ _ ((u32_decides x.c).1 h.3) ((u32_decides x.d).1 h.4)))),
)
call_decides Turn = (λ e. tt, λ h. refl)
call_decides (Take s) = u32_decides s
call_decides (Lose s) = u32_decides s
call_decides (Stop s) = u32_decides s
call_decides (Enter s) = u32_decides s

sized_decides : (c : Command) → Decides (sized c) (Sized c)
sized_decides (Roll n) = u32_decides n
sized_decides (Calls c) = call_decides c

form_decides : (line : List ℕ) (c : Command) → Decides (sized c && bytes_eq line (written c)) (Sized c × (line ≡ written c))
form_decides line c = Decides-and _ _ (sized_decides c) (bytes_eq-Decides line (written c))

-- where no command is written as the line, no form is
none_written : (line : List ℕ) (cs : List Command) → ((k : Command) → Sized k → line ≡ written k → ⊥) → first_written line cs ≡ Err MisshapenLine
none_written line [] none = refl
none_written line (c ∷ cs) none =
    cond_both (sized c && bytes_eq line (written c)) (Ok c) (first_written line cs) (λ (r : Result Command Refusal). r ≡ Err MisshapenLine)
    (λ e. let p = (form_decides line c).0 e in absurd (none c p.0 p.1)) (λ e. none_written line cs none)

abbrev Among : Command → List Command → Type 0
Among k [] = ⊥
Among k (c ∷ cs) = (c ≡ k) ⊎ Among k cs

-- a command is found among those that it stands with
found : (k : Command) (cs : List Command) → Sized k → Among k cs → first_written (written k) cs ≡ Ok k
found k [] h a = absurd a
found k (c ∷ cs) h a =
    cond_both (sized c && bytes_eq (written k) (written c)) (Ok c) (first_written (written k) cs) (λ (r : Result Command Refusal). r ≡ Ok k)
    (λ e. let p = (form_decides (written k) c).0 e in ap Ok (sym (unique k c h p.0 p.1)))
    (λ e.
    elim a [
      | inl q ↦ absurd (not_from_Decides _ (form_decides (written k) c) e (subst Sized (sym q) h, ap written (sym q)))
      | inr later ↦ found k cs h later
    ])

-- each command is among the forms with its own numbers
with_numbers : (k : Command) (ns : List ℕ) → Sized k → numbers None (written k) ≡ ns → Among k (forms ns) → reading (written k) ≡ Ok k
unfolding reading
with_numbers k ns h e a = ap (λ (m : List ℕ). first_written (written k) (forms m)) e ∙ found k (forms ns) h a

pub reading_written : (k : Command) → Sized k → reading (written k) ≡ Ok k
reading_written (Roll n) h = with_numbers (Roll n) (n ∷ []) h (one_last n h) (inl refl)
reading_written (Calls Turn) h = with_numbers (Calls Turn) [] h refl (inr (inl refl))
reading_written (Calls (Take s)) h = with_numbers (Calls (Take s)) (s ∷ []) h (one_last s h) (inr (inr (inl refl)))
reading_written (Calls (Lose s)) h = with_numbers (Calls (Lose s)) (s ∷ []) h (one_last s h) (inr (inr (inr (inl refl))))
reading_written (Calls (Stop s)) h = with_numbers (Calls (Stop s)) (s ∷ []) h (one_last s h) (inr (inr (inr (inr (inl refl)))))
reading_written (Calls (Enter s)) h = with_numbers (Calls (Enter s)) (s ∷ []) h (one_last s h) (inr (inr (inr (inr (inr (inl refl))))))
reading_written (Calls (Note s x)) h =
    let e3 = one x.c _ h.3 ∙ ap (λ (ns : List ℕ). x.c ∷ ns) (one_last x.d h.4) in
    let e2 = one x.b _ h.2 ∙ ap (λ (ns : List ℕ). x.b ∷ ns) e3 in
    let e1 = one x.a _ h.1 ∙ ap (λ (ns : List ℕ). x.a ∷ ns) e2 in
    let e0 = one s _ h.0 ∙ ap (λ (ns : List ℕ). s ∷ ns) e1 in
    with_numbers (Calls (Note s x)) (s ∷ x.a ∷ x.b ∷ x.c ∷ x.d ∷ []) h e0 (inr (inr (inr (inr (inr (inr (inl refl)))))))

pub read_so : (line : List ℕ) (k : Command) → line ≡ written k → Sized k → Ok k ≡ reading line
read_so line k e h = sym (ap reading e ∙ reading_written k h)

pub unread : (line : List ℕ) → ((k : Command) → Sized k → line ≡ written k → ⊥) → Err MisshapenLine ≡ reading line
unfolding reading
unread line none = sym (none_written line (forms (numbers None line)) none)

-- what a line is read as, where the command is known or there is none
pub read_as : (line : List ℕ) (o : Option Command) → MatchOption o ((k : Command) → Sized k → line ≡ written k → ⊥) (λ k. (line ≡ written k) × Sized k)
    → Reads line (ok_or o MisshapenLine) × ((k : Command) → Sized k → line ≡ written k → ok_or o MisshapenLine ≡ Ok k) × (ok_or o MisshapenLine ≡ reading line)
read_as line None none = ((refl, none), (λ k h e. absurd (none k h e)), unread line none)
read_as line (Some c) p = (p, (λ k h e. ap Ok (unique c k p.1 h (sym p.0 ∙ e))), read_so line c p.0 p.1)
