use Rattle.std.proofs.Common.{◌≡◌, ◌≤◌, ◌-◌, ◌*◌, length, get_or, set, ap, vec_items, sym, ◌∙◌, arith}
use Rattle.protocol.specs.Limits.{line_places}
use Rattle.std.specs.Vec.{with_items}
use Rattle.std.proofs.lemmas.List.{with_items_is}
use borrow.Rule.Slice.PartMut.{put_mid}
use Rattle.queue.specs.Contents.{contents, vacant}
use Rattle.wires.specs.Calls.{offering}
use Rattle.lines.specs.LineWire.{places_of}
use Rattle.lines.proofs.Parts.{part_length, written, written_length, written_here, written_there}
use Rattle.lines.proofs.Queues.{line_changed, of}
use Rattle.lines.proofs.line_wire.LineWire.offer.Goals as goal

pub returns : goal.returns
returns g c =
    let w = c.args.self.now in
    let xs = w.places.items in
    let s = c.args.station in
    let ws = c.push.new.places in
    let fits : w.roll * line_places ≤ length xs = omega (arith, w.fits, w.places.ok.0) in
    let many : w.roll ≤ length w.queues = omega (arith, w.few) in
    let long = part_length xs w.roll s c.requires fits in
    let ws_long : length ws ≡ line_places = cc (c.push.auto.places, c.deref_mut.ensures.value, c.part.ensures.start, c.part.ensures.end, long) in
    let after : contents c.push.new.self ws ≡ offering c.args.frame (contents (get_or w.queues s vacant) (places_of xs s)) =
    cc (c.push.ensures.after, c.deref_mut.ensures.value, c.part.ensures.start, c.part.ensures.end, long) in
    let k : c.part.result.end - c.part.result.start ≡ line_places = omega arith in
    let now = written xs w.roll s c.requires fits ws ws_long in
    let put : put_mid c.part.result.start (c.part.result.end - c.part.result.start) c.deref_mut.result.now ws ≡ now = cc (c.deref_mut.ensures.value, c.part.ensures.start, k) in
    let kept : length now ≡ w.places.len = written_length xs w.roll s c.requires fits ws ws_long ∙ sym w.places.ok.0 in
    ap (of w.roll (set w.queues s c.push.new.self)) (ap (λ ys. vec_items (with_items w.places ys)) put ∙ with_items_is w.places now kept)
    ∙ line_changed w.roll w.queues xs now s c.push.new.self (offering c.args.frame) c.requires many
    (ap (contents c.push.new.self) (written_here xs w.roll s c.requires fits ws ws_long) ∙ after) (written_there xs w.roll s c.requires fits ws ws_long)
