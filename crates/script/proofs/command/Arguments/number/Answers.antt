-- Why a field that is no number under the key is refused.
use Rattle.std.proofs.Common.{drop, None, [], rules}
use Rattle.script.specs.Words.{tail_at}
use Rattle.script.proofs.Args.{no_field, other_key, reads, follows_tail, the_field, at_place}
use Rattle.script.proofs.command.Arguments.number.Goals as goal

pub returns-in_err-field : goal.returns-in_err-field
returns-in_err-field c =
    rw c.from_residual-in_err-field.ensures
    (at_place c.args.self.now.line.now c.args.key.now [] _ c.in_ok-self.field-0 None c.in_ok-self.was
    (no_field c.args.key.now (drop c.in_ok-self.field-0 c.args.self.now.line.now) c.requires c.in_err-field.ensures))

pub returns-then-ne : goal.returns-then-ne
returns-then-ne c =
    let f = the_field _ _ _ _ _ _ _ _ _ c.in-Key-Value-default.is-0 c.in-Key-Value-default.is-1 c.in_ok-field.ensures in
    at_place c.args.self.now.line.now c.args.key.now [] _ c.in_ok-self.field-0 None c.in_ok-self.was
    (other_key c.args.key.now (drop c.in_ok-self.field-0 c.args.self.now.line.now) c.requires _ _ _ f.0 f.1 f.2 (λ e. search rules))

pub returns : goal.returns
returns c =
    let f = the_field _ _ _ _ _ _ _ _ _ c.in-Key-Value-default.is-0 c.in-Key-Value-default.is-1 c.in_ok-field.ensures in
    let s = tail_at c.args.self.now.line.now c.in_ok-field.field.2 in
    at_place c.args.self.now.line.now c.args.key.now s _ c.in_ok-self.field-0 _ c.in_ok-self.was
    (reads c.args.key.now (drop c.in_ok-self.field-0 c.args.self.now.line.now) c.requires _ _ s f.0 f.1 f.2 (search rules) (follows_tail c.args.self.now.line.now c.in_ok-field.field.2) _ c.number.ensures)
