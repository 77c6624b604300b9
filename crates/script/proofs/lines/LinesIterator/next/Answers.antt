-- The first line that is left is what stands before the first byte 10.
use Rattle.std.proofs.Common.{rules, arith, ap, length}
use Rattle.script.proofs.Texts.{next_line}
use Rattle.script.proofs.lines.LinesIterator.next.Goals as goal

pub returns-clause-steps : goal.returns-clause-steps
returns-clause-steps c = rw c.in_ok-self.was (next_line _ _ c.cut.result.1 c.filter-self.result c.cut.ensures.free c.cut.ensures.whole (search rules))

pub returns-clause-goes : goal.returns-clause-goes
returns-clause-goes c = record { on = λ _. (tt, tt, omega (arith, ap length (returns-clause-steps c))); keeps = tt; rests = λ _. tt }
