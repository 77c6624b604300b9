-- The duty of an entry whose figures are in range, and what the acts keep in range. Assumes nothing.
use Rattle.std.proofs.Common.{◌≡◌, ◌+◌, ◌≤◌, true, unwrap_or, mul-le-mul, arith}
use native.Mathlib.Nat.{div-le_of_le-mul}
use Rattle.entries.specs.Limits.{max_rate, max_duty, whole_rate}
use Rattle.entries.specs.EntryBook.{in_range, lawful_act, duty_of, entry_after}
use Rattle.entries.specs.declared.customs_entry.CustomsEntry.{CustomsEntry}
use Rattle.entries.specs.declared.entry_act.EntryAct.{EntryAct}
use Rattle.entries.specs.declared.entry_act.EntryAct.TheVariants.{Open, Freight, Insurance, Close}

module _ (e : CustomsEntry) (ranged : in_range e ≡ true) where
  pub value_bound : e.price + unwrap_or e.freight 0 + unwrap_or e.insurance 0 ≤ max_duty
  value_bound = grind arith

  rate_bound : e.rate ≤ max_rate
  rate_bound = grind arith

  -- a value and a rate in range give a duty in range
  due_bound : duty_of e ≤ max_duty
  due_bound = div-le_of_le-mul whole_rate (mul-le-mul value_bound rate_bound)

pub after_ranged : (act : EntryAct) (e : CustomsEntry) → lawful_act act ≡ true → in_range e ≡ true → in_range (entry_after act e) ≡ true
after_ranged (Open p q) e lawful h = h
after_ranged (Freight c) e lawful h = grind arith
after_ranged (Insurance c) e lawful h = grind arith
after_ranged Close e lawful h = let bound = due_bound e h in grind arith
