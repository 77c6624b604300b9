use Rattle.std.proofs.Common.{rules}
use Rattle.journal.proofs.Turns.{turned}
use Rattle.journal.proofs.reading.turn_at.Goals as goal

pub returns : goal.returns
returns c = turned c.args.journal.now c.args.place _ _ _ c.entry_at.ensures c.map_or.ensures (λ e h. search rules)
