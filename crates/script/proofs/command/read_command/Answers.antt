-- A line asks for the command that it is written as.
use Rattle.script.proofs.Args.{the_field, follows_tail}
use Rattle.script.proofs.Commands.{asked_so}
use Rattle.script.proofs.command.read_command.Goals as goal

pub returns : goal.returns
returns c =
    let f = the_field _ _ _ _ _ _ _ _ _ c.in-Key-Value-default.is-0 c.in-Key-Value-default.is-1 c.in_ok-field.ensures in
    asked_so c.args.line.now _ _ _ f.0 f.1 (follows_tail c.args.line.now c.in_ok-field.field.2) f.2 _ c.asked.ensures
