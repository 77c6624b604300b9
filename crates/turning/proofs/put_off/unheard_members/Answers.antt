use Rattle.std.proofs.Common.{◌≡◌, ◌-◌, sym, ◌∙◌, arith}
use Rattle.std.specs.Iterator.Adapters.{rev_source}
use Rattle.turning.proofs.Rounds.{back_none, back_past, back_heard, back_gone}
use Rattle.turning.proofs.put_off.unheard_members.Goals as goal

pub loop-left-preserved : goal.loop-left-preserved
loop-left-preserved c =
    let x = c.args.status.now in
    let k = c.in-Some.left in
    let i = c.loop-left.invariant in
    let j = c.in-Some.ensures.steps in
    let e : (rev_source c.next.new.self).end ≡ k = omega arith in
    let f : (rev_source c.loop-left.back).end - 1 ≡ k = omega arith in
    let p = back_past x.roll x.me c.args.view x.peers k _ c.round.gone (omega arith) c.station_after-at.ensures.value c.if-contains.ensures in
    record { first = omega arith; last = omega arith; same = rw e (p ∙ (rw f at i.same)) }

pub round-preserved : goal.round-preserved
round-preserved c =
    let x = c.args.status.now in
    let k = c.in-Some.left in
    let i = c.loop-left.invariant in
    let h = c.round.invariant in
    let j = c.in-Some.ensures.steps in
    let e : (rev_source c.next.new.self).end ≡ k = omega arith in
    let f : (rev_source c.loop-left.back).end - 1 ≡ k = omega arith in
    let p = back_gone x.roll x.me c.args.view x.peers k _ c.round.gone (omega arith) c.station_after-at.ensures.value c.if-contains.ensures c.if-status-at.false in
    record { first = omega arith; last = omega arith; same = rw (e, c.with-gone.ensures) (p ∙ (rw f at i.same) ∙ h.same) }

pub returns-in_default : goal.returns-in_default
returns-in_default c =
    let x = c.args.status.now in
    let i = c.loop-left.invariant in
    let h = c.round.invariant in
    let j = c.in_default.ensures.steps in
    sym (back_none x.roll x.me c.args.view x.peers ((rev_source c.loop-left.back).end - 1) c.round.gone (omega arith)) ∙ i.same ∙ h.same

pub returns-then-status-at : goal.returns-then-status-at
returns-then-status-at c =
    let x = c.args.status.now in
    let k = c.in-Some.left in
    let i = c.loop-left.invariant in
    let h = c.round.invariant in
    let j = c.in-Some.ensures.steps in
    let f : (rev_source c.loop-left.back).end - 1 ≡ k = omega arith in
    back_heard x.roll x.me c.args.view x.peers k _ c.round.gone (omega arith) c.station_after-at.ensures.value c.if-contains.ensures c.if-status-at.true
    ∙ (rw f at i.same) ∙ h.same
