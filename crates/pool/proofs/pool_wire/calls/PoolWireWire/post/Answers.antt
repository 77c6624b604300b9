use Rattle.std.proofs.Common.{◌^◌, ◌<◌, ◌∙◌, arith, rules}
use Rattle.std.proofs.lemmas.Bool.{cond_below}
use Rattle.std.proofs.lemmas.List.Elements.{All-same, All-push}
use Rattle.wires.proofs.Calls.{accepted}
use Rattle.wires.proofs.Changes.{with_at}
use Rattle.pool.specs.declared.place.Place.{Place}
use Rattle.pool.proofs.Receivers.{place_left, pool_posted, pool_same, posted_short}
use Rattle.pool.proofs.pool_wire.calls.PoolWireWire.post.Goals as goal

pub push_reserved-requires : goal.push_reserved-requires
push_reserved-requires g c =
    let w = c.args.self.now in
    let m = c.receivers-waits in
    let left = place_left w.roll c.args.sender w.pool.items m.result m.ensures.each w.few w.busy w.listed w.short m.ensures.bound (omega arith) in
    omega (arith, left, w.room, w.pool.ok.0)

pub invariant_of-self : goal.invariant_of-self
invariant_of-self g c =
    let w = c.args.self.now in
    let m = c.receivers-waits in
    let added = c.push_reserved.ensures.items in
    let place : Place g.row.T.Denot = record { frame = c.args.frame; waits = m.result } in
    record {
      some = w.some;
      few = w.few;
      room = search rules;
      busy = All-same (λ p. 0 < p.waits) _ _ added (All-push (λ p. 0 < p.waits) w.pool.items place w.busy (omega arith));
      listed = All-same (λ p. p.waits < 2 ^ w.roll) _ _ added (All-push (λ p. p.waits < 2 ^ w.roll) w.pool.items place w.listed m.ensures.bound);
      short = posted_short w.roll c.args.sender w.pool.items m.result m.ensures.each c.args.frame _ added w.short;
    }

pub returns-then-waits-ne0-clause-after : goal.returns-then-waits-ne0-clause-after
returns-then-waits-ne0-clause-after g c =
    let w = c.args.self.now in
    let m = c.receivers-waits in
    let on = accepted w.roll c.args.sender c.args.sender c.in_ok-on_roll.field-0 c.in_ok-on_roll.ensures in
    with_at w.roll (pool_posted w.roll c.args.sender w.pool.items m.result m.ensures.each c.args.frame _ c.push_reserved.ensures.items) ∙ cond_below _ _ _ _ on.0

pub returns-else-waits-ne0-clause-after : goal.returns-else-waits-ne0-clause-after
returns-else-waits-ne0-clause-after g c =
    let w = c.args.self.now in
    let m = c.receivers-waits in
    let on = accepted w.roll c.args.sender c.args.sender c.in_ok-on_roll.field-0 c.in_ok-on_roll.ensures in
    with_at w.roll (pool_same w.roll c.args.sender w.pool.items m.result m.ensures.each c.args.frame c.if-waits-ne0.false) ∙ cond_below _ _ _ _ on.0
