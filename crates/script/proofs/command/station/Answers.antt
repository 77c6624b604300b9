-- A station with more after it is refused.
use Rattle.std.proofs.Common.{codes, [], rules}
use Rattle.script.proofs.Args.{left_out, follows_tail, free_at}
use Rattle.script.proofs.Options.{on_each}
use Rattle.script.proofs.command.station.Goals as goal

pub returns : goal.returns
returns c =
    on_each c.end.result (λ none n h. left_out (codes "at") c.in_ok-at.at n _ [] _ free_at (follows_tail _ c.number.new.self.next) c.in_ok-at.ensures h tt none) (λ n p. search rules) c.end.ensures
