-- Digits without a plus and without leading zeros are a decimal.
use Rattle.std.proofs.Common.{arith, rules, sym, ◌∙◌}
use Rattle.std.proofs.lemmas.List.{get_or_past}
use Rattle.script.proofs.Decimal.{begins, first_digit, lone_zero, read, text_of}
use Rattle.script.proofs.number.number.Goals as goal

pub returns-then-starts_with : goal.returns-then-starts_with
returns-then-starts_with c =
    λ n h e. omega (arith, first_digit n _ h e, (begins 43 c.args.digits.now (omega arith)).0 (sym c.starts_with.ensures.value ∙ c.if-starts_with.true))

pub returns-then-digits-gt-LONE : goal.returns-then-digits-gt-LONE
returns-then-digits-gt-LONE c =
    λ n h e.
    omega (arith, lone_zero n _ h e ((begins 48 c.args.digits.now (omega arith)).0 (sym c.starts_with-2.ensures.value ∙ c.if-starts_with-2.true)))

pub returns-in_err-ok : goal.returns-in_err-ok
returns-in_err-ok c = rw c.from_residual.ensures (λ n h e. let t = text_of n _ h e in search rules)

pub returns : goal.returns
returns c =
    rw c.ok-2.ensures.value
    (read c.in_ok-ok.field-0.now c.args.digits.now c.parse.result (search rules) c.parse.ensures.value.0
    (λ e. grind (arith, (begins 43 c.args.digits.now (omega arith)).1 e))
    (λ e. grind (arith, get_or_past c.args.digits.now 0 0, (begins 48 c.args.digits.now (omega arith)).1 e)))
