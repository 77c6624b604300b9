-- A line is read as the one command that is written so.
use Rattle.script.proofs.Reading.{read_as}
use Rattle.script.proofs.command.command_of.Goals as goal

pub returns : goal.returns
returns c =
    let r = read_as c.args.line.now c.read_command.result c.read_command.ensures in
    rw c.ok_or.ensures.value (record { reads = r.0; exact = r.1; value = r.2 })
