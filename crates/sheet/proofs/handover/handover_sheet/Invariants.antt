use Rattle.std.proofs.Common.{◌≡◌, map, reverse, string_bytes}
use Rattle.sheet.specs.Sheet.{sheet}
use Rattle.sheet.proofs.handover.handover_sheet.Given as goal

-- the text has the entries so far, of which the first is the newest
abbrev pub invariant-loop-entry : goal.invariant-loop-entry
invariant-loop-entry l = string_bytes l.text ≡ sheet l.filed (reverse (map (λ y. y.now) l.yielded))
