use Rattle.std.proofs.Common.{◌≤◌, length, sym, arith}
use Rattle.std.proofs.lemmas.Option.{slice_get_past}
use Rattle.queue.specs.Contents.{contents}
use Rattle.queue.proofs.Turns.{contents_length, contents_nth}
use Rattle.queue.proofs.Queue.get.Goals as goal

pub returns-then-i-min : goal.returns-then-i-min
returns-then-i-min g c =
    let past : length (contents c.args.self.now c.args.places.now) ≤ c.args.i = rw contents_length (omega arith) in
    sym (slice_get_past (contents c.args.self.now c.args.places.now) c.args.i past)

pub returns : goal.returns
returns g c =
    contents_nth c.args.self.now c.args.places.now c.min.result c.min.ensures
    c.index-places-place.result c.args.i c.place.result c.if-i-min.false c.place.ensures.value c.index-places-place.is
