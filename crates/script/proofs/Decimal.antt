-- a decimal number without leading zeros, and what `parse` says of its digits
use Rattle.std.proofs.Common.{◌≡◌, ℕ, zero, suc, ◌^◌, ◌<◌, List, [], ◌∷◌, length, get_or, Ok, Err, MatchOption, IsUtf8, decimal, Decides, Result, nat_eq, sym, ap, ◌∙◌, subst, arith}
use Rattle.std.specs.List.{starts_with}
use Rattle.std.specs.Str.Parse.{AllDigits, digits_value, ParsesUnsigned}
use Rattle.std.specs.Result.{OkIff, result_ok}
use Rattle.std.specs.Int.{IsInRange}
use Rattle.std.proofs.lemmas.Str.Parse.{IsNumeralModel, numerals_by_value, tells_digits, parse_plain, digit_at}
use Rattle.std.proofs.lemmas.Bool.Decides.{nat_tests}
use Rattle.std.proofs.lemmas.Fmt.{decimal-digits_value, digits_decimal, digits_value-decimal, first_decimal, decimal_nonempty, decimal_digit, IsAscii-decimal}
use Rattle.std.proofs.lemmas.Str.{IsUtf8-from_ascii}

own : IsNumeralModel (AllDigits 10) (digits_value 10)
own = numerals_by_value (AllDigits 10) tells_digits

pub small : (n : ℕ) → n < 2 ^ 32 → n < 2 ^ 64
small n h = omega arith

-- a decimal is not empty, does not begin with a plus, and begins with 0 only alone
pub not_empty : (n : ℕ) (bs : List ℕ) → n < 2 ^ 32 → bs ≡ decimal n → 0 < length bs
not_empty n bs h e = rw e (decimal_nonempty n (small n h))

pub first_digit : (n : ℕ) (bs : List ℕ) → n < 2 ^ 32 → bs ≡ decimal n → IsInRange 48 57 (get_or bs 0 0)
first_digit n bs h e = rw e (digit_at (decimal n) 0 (digits_decimal own n (small n h)) (decimal_nonempty n (small n h)))

pub lone_zero : (n : ℕ) (bs : List ℕ) → n < 2 ^ 32 → bs ≡ decimal n → get_or bs 0 0 ≡ 48 → length bs ≡ 1
lone_zero zero bs h e z = rw e (ap length (decimal_digit 0 (omega arith)))
lone_zero (suc n) bs h e z = absurd (omega (arith, first_decimal (suc n) (omega arith) (small (suc n) h), ap (λ (x : List ℕ). get_or x 0 0) e))

-- whether a text begins with a byte other than 0
pub begins : (b : ℕ) (bs : List ℕ) → 0 < b → Decides (starts_with nat_eq bs (b ∷ [])) (get_or bs 0 0 ≡ b)
begins b [] h = (λ e. grind arith, λ e. absurd (omega arith))
begins b (x ∷ xs) h = (λ e. grind (arith, nat_tests), λ e. grind (arith, nat_tests))

-- what `parse` answers at digits with no plus and no leading zero in front
pub parsed : {E : Type 0} (bs : List ℕ) (r : Result ℕ E) → (get_or bs 0 0 ≡ 48 → length bs ≡ 1)
    → OkIff r (AllDigits 10 bs × (0 < length bs) × (digits_value 10 bs < 2 ^ 32)) (digits_value 10 bs)
    → MatchOption (result_ok r) ((n : ℕ) → n < 2 ^ 32 → bs ≡ decimal n → ⊥) (λ n. (bs ≡ decimal n) × (n < 2 ^ 32))
parsed bs (Ok m) lone t =
    (sym (ap decimal t.1 ∙ decimal-digits_value own bs t.0.0 t.0.1 lone (small (digits_value 10 bs) t.0.2)), omega arith)
parsed bs (Err d) lone t =
    λ n h b.
    t (
      subst (AllDigits 10) (sym b) (digits_decimal own n (small n h)),
      not_empty n bs h b,
      subst (λ (x : List ℕ). digits_value 10 x < 2 ^ 32) (sym b) (subst (λ (x : ℕ). x < 2 ^ 32) (sym (digits_value-decimal own n (small n h))) h),
    )

pub read : {E : Type 0} (xs bs : List ℕ) (r : Result ℕ E) → xs ≡ bs → ParsesUnsigned 32 10 xs r → (get_or bs 0 0 ≡ 43 → ⊥) → (get_or bs 0 0 ≡ 48 → length bs ≡ 1)
    → MatchOption (result_ok r) ((n : ℕ) → n < 2 ^ 32 → bs ≡ decimal n → ⊥) (λ n. (bs ≡ decimal n) × (n < 2 ^ 32))
read xs bs r same reads plain lone =
    parsed bs r lone (parse_plain own 32 bs r (subst (λ (x : List ℕ). ParsesUnsigned 32 10 x r) same reads) plain)

pub text_of : (n : ℕ) (bs : List ℕ) → n < 2 ^ 32 → bs ≡ decimal n → IsUtf8 bs
text_of n bs h e = rw e (IsUtf8-from_ascii (decimal n) (IsAscii-decimal n (small n h)))

pub all_digits : (n : ℕ) → n < 2 ^ 32 → AllDigits 10 (decimal n)
all_digits n h = digits_decimal own n (small n h)
