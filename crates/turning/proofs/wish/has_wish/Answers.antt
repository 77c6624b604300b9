use Rattle.std.proofs.Common.{rules, ◌∙◌}
use Rattle.std.proofs.lemmas.Iterator.{YieldsList-from_slice}
use Rattle.std.proofs.lemmas.Iterator.Search.{any_from_yields_List}
use Rattle.std.specs.Option.{is_some}
use Rattle.journal.specs.declared.peer.Peer.{Peer}
use Rattle.turning.proofs.Wishes.{any_stands}
use Rattle.turning.proofs.wish.has_wish.Goals as goal

pub returns : goal.returns
returns c =
    let ps = c.args.peers.now in
    any_from_yields_List (λ (p : Peer). is_some p.wish) _ _ _ c.any.ensures.ran (YieldsList-from_slice ps cc) (λ x b q k. search rules)
    ∙ any_stands ps
