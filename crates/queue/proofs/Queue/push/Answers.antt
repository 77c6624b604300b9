use Rattle.std.proofs.Common.{◌<◌, length, sym, refl, ◌∙◌, arith}
use Rattle.std.proofs.lemmas.Bool.{cond-true, cond-false, true≢false}
use Rattle.queue.proofs.Turns.{contents_full, contents_room, contents_push}
use Rattle.queue.proofs.Queue.push.Goals as goal

pub returns-then-len-room : goal.returns-then-len-room
returns-then-len-room g c =
    let full = contents_full c.args.self.now c.args.places.now c.min-len.result c.min-len.ensures c.if-len-room.true in
    record { value = sym full; after = sym (cond-false _ _ _ full); same = λ _. (refl, refl) }

pub returns : goal.returns
returns g c =
    let lt : c.min-len.result < length c.args.places.now = omega arith in
    let room = contents_room c.args.self.now c.args.places.now c.min-len.result c.min-len.ensures lt in
    record {
      value = sym room;
      after = contents_push c.args.self.now c.args.places.now c.min-len.result c.min-len.ensures c.args.x c.place.result lt c.place.ensures.value
          ∙ sym (cond-true _ _ _ room);
      same = λ e. absurd (true≢false e);
    }
