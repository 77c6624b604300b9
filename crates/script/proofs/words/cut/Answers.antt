-- The byte does not stand before the place at which it is found.
use Rattle.std.proofs.Common.{rules}
use Rattle.script.proofs.Cuts.{free_by_places, front_free}
use Rattle.script.proofs.words.cut.Goals as goal

pub returns-in-Some-clause-free : goal.returns-in-Some-clause-free
returns-in-Some-clause-free c = front_free _ _ _ (search rules) (λ k l. search rules)

pub returns-in-None-clause-free : goal.returns-in-None-clause-free
returns-in-None-clause-free c = free_by_places _ _ (λ k l. search rules)
