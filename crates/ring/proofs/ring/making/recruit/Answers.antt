use Rattle.std.proofs.Common.{vec_items, ap, ◌∙◌, arith}
use Rattle.station.specs.Model.{new_model}
use Rattle.station.specs.Meaning.{model}
use Rattle.ring.proofs.Making.{one_more, all_made}
use Rattle.ring.proofs.ring.making.recruit.Goals as goal

pub loop-me-preserved : goal.loop-me-preserved
loop-me-preserved g c =
    let put = c.push_reserved.ensures in
    let roll = c.args.roll in
    let me = c.loop-me.me in
    let station = c.in_ok-station.ensures.1 ∙ ap (new_model me roll) c.in_ok-own.ensures in (
      omega arith,
      omega arith,
      one_more roll (g.B.Book.means c.args.book.now) (model g.B.Book.means) (vec_items c.loop-me.stations) (vec_items c.push_reserved.new.self) c.in_ok-station.station me _ (omega arith)
          put.items station c.loop-me.invariant.2,
    )

pub returns : goal.returns
returns g c = all_made c.args.roll (g.B.Book.means c.args.book.now) _ c.loop-me.me _ (omega arith) c.loop-me.invariant.2
