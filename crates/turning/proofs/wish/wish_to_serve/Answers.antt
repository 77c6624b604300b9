use Rattle.std.proofs.Common.{sym, ◌-◌, ◌∙◌, arith}
use Rattle.std.proofs.lemmas.Bool.{eq-eqb, ne_eqb}
use Rattle.journal.specs.Core.{core_of}
use Rattle.turning.proofs.Wishes.{look_none, look_past, look_other, look_found, on_past, on_met, on_none, chosen_none, chosen_look}
use Rattle.turning.proofs.wish.wish_to_serve.Goals as goal

pub returns-then-not-has_wish-clause-value : goal.returns-then-not-has_wish-clause-value
returns-then-not-has_wish-clause-value c = chosen_none (core_of c.args.status.now c.args.journal.now) c.if-not-has_wish.ensures

pub search-preserved-in_default : goal.search-preserved-in_default
search-preserved-in_default c =
    let m = core_of c.args.status.now c.args.journal.now in
    look_past c.newest_view-view.result m (c.search.left - 1) _ (omega arith) c.station_after-at.ensures.value c.in_default.ensures.value ∙ c.search.invariant

pub search-preserved : goal.search-preserved
search-preserved c =
    let x = c.args.status.now in
    let v = c.newest_view-view.result in
    look_other v (core_of x c.args.journal.now) (c.search.left - 1) _ _ (omega arith) c.station_after-at.ensures.value c.in-Some.ensures.value
    (sym c.loop-k.invariant ∙ on_none x.roll x.me v c.station_after-at.result c.loop-k.k (omega arith))
    ∙ c.search.invariant

pub search-preserved-then-contains : goal.search-preserved-then-contains
search-preserved-then-contains c =
    let x = c.args.status.now in
    let v = c.newest_view-view.result in
    look_other v (core_of x c.args.journal.now) (c.search.left - 1) _ _ (omega arith) c.station_after-at.ensures.value c.in-Some.ensures.value
    (sym c.loop-k.invariant
    ∙ on_met x.roll x.me v c.station_after-at.result c.loop-k.k _ (omega arith) c.station_after-next.ensures.value c.if-contains.ensures
    ∙ ne_eqb _ _ c.if-next-status.false)
    ∙ c.search.invariant

pub loop-k-preserved : goal.loop-k-preserved
loop-k-preserved c =
    let x = c.args.status.now in
    on_past x.roll x.me c.newest_view-view.result c.station_after-at.result c.loop-k.k _ (omega arith) c.station_after-next.ensures.value c.if-contains.ensures
    ∙ c.loop-k.invariant

pub returns-clause-value : goal.returns-clause-value
returns-clause-value c =
    let m = core_of c.args.status.now c.args.journal.now in
    sym (look_none c.newest_view-view.result m (c.search.left - 1) (omega arith)) ∙ c.search.invariant ∙ chosen_look m _ c.if-not-has_wish.ensures c.newest_view-view.ensures

pub returns-then-next-status-clause-value : goal.returns-then-next-status-clause-value
returns-then-next-status-clause-value c =
    let x = c.args.status.now in
    let m = core_of c.args.status.now c.args.journal.now in
    let v = c.newest_view-view.result in
    look_found v m (c.search.left - 1) _ _ (omega arith) c.station_after-at.ensures.value c.in-Some.ensures.value
    (sym c.loop-k.invariant
    ∙ on_met x.roll x.me v c.station_after-at.result c.loop-k.k _ (omega arith) c.station_after-next.ensures.value c.if-contains.ensures
    ∙ eq-eqb _ _ c.if-next-status.true)
    ∙ c.search.invariant ∙ chosen_look m _ c.if-not-has_wish.ensures c.newest_view-view.ensures
