-- Numbers written with zeros before them, digit by digit. Assumes nothing.
use Rattle.std.proofs.Common.{◌≡◌, ℕ, ◌+◌, ◌/◌, ◌%◌, ◌^◌, ◌-◌, ◌<◌, ◌≤◌, false, List, [], ◌∷◌, ◌++◌, decimal, ltb, sym, ap, ◌∙◌, refl, ⊎_elim, arith}
use Rattle.std.specs.Fmt.{padded_integral, format_spec, char_count, styled_decimal}
use Rattle.std.proofs.lemmas.Fmt.{decimal_step, decimal_by_steps}
use Rattle.std.proofs.lemmas.Bool.{cases_lt, cond-true, cond-false, lt-ltb, le-ltb}
use Rattle.sheet.specs.Amounts.{digit, units, amount}

one_digit : (n : ℕ) → n < 10 → decimal n ≡ (48 + n) ∷ []
one_digit n small = decimal_by_steps (λ m ds. m < 10 → ds ≡ (48 + m) ∷ []) (λ m h l. refl) (λ m ds ge p l. absurd (omega arith)) n (omega arith) small

two_digits : (n : ℕ) → 10 ≤ n → n < 100 → decimal n ≡ (48 + n / 10) ∷ (48 + n % 10) ∷ []
two_digits n large small = decimal_step n large (omega arith) ∙ ap (λ ds. ds ++ ((48 + n % 10) ∷ [])) (one_digit (n / 10) (omega arith))

three_digits : (n : ℕ) → 100 ≤ n → n < 1000 → decimal n ≡ (48 + n / 10 / 10) ∷ (48 + n / 10 % 10) ∷ (48 + n % 10) ∷ []
three_digits n large small = decimal_step n (omega arith) (omega arith) ∙ ap (λ ds. ds ++ ((48 + n % 10) ∷ [])) (two_digits (n / 10) (omega arith) (omega arith))

-- what `{:02}` and `{:03}` write
in_two : (n : ℕ) → n < 100 → padded_integral (format_spec 32 0 4 2 (2 ^ 64 - 1)) false [] (decimal n) ≡ (48 + n / 10) ∷ (48 + n % 10) ∷ []
unfolding padded_integral char_count
in_two n small =
    ⊎_elim (λ (one : n < 10). let high : n / 10 ≡ 0 = omega arith in let low : n % 10 ≡ n = omega arith in rw (one_digit n one, high, low) refl)
    (λ (two : 10 ≤ n). rw (two_digits n two small) refl) (cases_lt n 10)

in_three : (n : ℕ) → n < 1000 → padded_integral (format_spec 32 0 4 3 (2 ^ 64 - 1)) false [] (decimal n) ≡ (48 + n / 10 / 10) ∷ (48 + n / 10 % 10) ∷ (48 + n % 10) ∷ []
unfolding padded_integral char_count
in_three n small =
    ⊎_elim
    (λ (one : n < 10).
    let high : n / 10 ≡ 0 = omega arith in let low : n % 10 ≡ n = omega arith in
    rw (one_digit n one, high, low) refl)
    (λ (more : 10 ≤ n).
    ⊎_elim (λ (two : n < 100). let high : n / 10 / 10 ≡ 0 = omega arith in let low : n / 10 % 10 ≡ n / 10 = omega arith in rw (two_digits n more two, high, low) refl)
    (λ (three : 100 ≤ n). rw (three_digits n three small) refl) (cases_lt n 100))
    (cases_lt n 10)

-- an amount's cents, and its units in groups of three digits
pub amount_written : (c : ℕ) → units (c / 100) ++ (46 ∷ styled_decimal (format_spec 32 0 4 2 (2 ^ 64 - 1)) (c % 100)) ≡ amount c
amount_written c =
    let a : c % 100 / 10 ≡ c / 10 % 10 = omega arith in
    let b : c % 100 % 10 ≡ c % 10 = omega arith in
    ap (λ ds. units (c / 100) ++ (46 ∷ ds)) (in_two (c % 100) (omega arith) ∙ rw (a, b, one_digit (c / 10 % 10) (omega arith), one_digit (c % 10) (omega arith)) refl)

-- a group of three digits before what follows
group : (n : ℕ) (more : List ℕ) → styled_decimal (format_spec 32 0 4 3 (2 ^ 64 - 1)) (n % 1000) ++ more ≡ digit 100 n ++ (digit 10 n ++ (digit 1 n ++ more))
group n more =
    let a : n % 1000 / 10 / 10 ≡ n / 100 % 10 = omega arith in
    let b : n % 1000 / 10 % 10 ≡ n / 10 % 10 = omega arith in
    let c : n % 1000 % 10 ≡ n / 1 % 10 = omega arith in
    ap (λ ds. ds ++ more) (in_three (n % 1000) (omega arith))
    ∙ rw (a, b, c, one_digit (n / 100 % 10) (omega arith), one_digit (n / 10 % 10) (omega arith), one_digit (n / 1 % 10) (omega arith)) refl

last_group : (n : ℕ) → styled_decimal (format_spec 32 0 4 3 (2 ^ 64 - 1)) (n % 1000) ≡ digit 100 n ++ (digit 10 n ++ decimal (n % 10))
last_group n =
    let a : n % 1000 / 10 / 10 ≡ n / 100 % 10 = omega arith in
    let b : n % 1000 / 10 % 10 ≡ n / 10 % 10 = omega arith in
    let c : n % 1000 % 10 ≡ n % 10 = omega arith in
    in_three (n % 1000) (omega arith) ∙ rw (a, b, c, one_digit (n / 100 % 10) (omega arith), one_digit (n / 10 % 10) (omega arith), one_digit (n % 10) (omega arith)) refl

module _ (n : ℕ) where
  pub thousands_written : 1000 ≤ n → n < 1000000 → decimal (n / 1000) ++ (44 ∷ styled_decimal (format_spec 32 0 4 3 (2 ^ 64 - 1)) (n % 1000)) ≡ units n
  thousands_written low high =
      ap (λ ds. decimal (n / 1000) ++ (44 ∷ ds)) (last_group n)
      ∙ sym (cond-false (ltb n 1000) _ _ (le-ltb n 1000 low) ∙ cond-true (ltb n 1000000) _ _ (lt-ltb n 1000000 high))

  pub millions_written : 1000000 ≤ n
      → decimal (n / 1000 / 1000) ++ (44 ∷ (styled_decimal (format_spec 32 0 4 3 (2 ^ 64 - 1)) (n / 1000 % 1000) ++ (44 ∷ styled_decimal (format_spec 32 0 4 3 (2 ^ 64 - 1)) (n % 1000)))) ≡ units n
  millions_written low =
      let a : n / 1000 / 1000 ≡ n / 1000000 = omega arith in
      let b : n / 1000 / 100 ≡ n / 100000 = omega arith in
      let c : n / 1000 / 10 ≡ n / 10000 = omega arith in
      let d : n / 1000 / 1 ≡ n / 1000 = omega arith in
      ap (λ ds. decimal (n / 1000 / 1000) ++ (44 ∷ ds)) (ap (λ ds. styled_decimal (format_spec 32 0 4 3 (2 ^ 64 - 1)) (n / 1000 % 1000) ++ (44 ∷ ds)) (last_group n) ∙ group (n / 1000) _)
      ∙ rw (a, b, c, d) refl
      ∙ sym (cond-false (ltb n 1000) _ _ (le-ltb n 1000 (omega arith)) ∙ cond-false (ltb n 1000000) _ _ (le-ltb n 1000000 low))
