-- Two commands are never written alike.
use Rattle.script.proofs.Commands.{unique}
use Rattle.script.proofs.command.written_once.Goals as goal

pub returns : goal.returns
returns c = unique
