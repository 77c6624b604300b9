-- The text of the arguments that are not read yet. Assumes nothing.
use Rattle.std.specs.Prelude.{ℕ, List}
use Rattle.script.specs.Words.{tail_at}
use Rattle.script.specs.declared.command.Arguments.{Arguments}

abbrev pub left : Arguments → List ℕ
left s = tail_at s.line.now s.next
