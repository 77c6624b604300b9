use Rattle.std.proofs.Common.{◌^◌, ◌<◌, ◌∙◌, ap, set, arith, rules}
use Rattle.std.proofs.lemmas.List.Elements.{All-set}
use Rattle.pool.specs.PoolWire.{pool_lines}
use Rattle.pool.specs.declared.place.Place.{Place}
use Rattle.pool.proofs.Removals.{all_removed, found, first_frame, lines_removed, lines_kept, still_short, taken_from, less_listed}
use Rattle.pool.proofs.pool_wire.PoolWire.remove_oldest.Goals as goal
use Rattle.pool.proofs.pool_wire.PoolWire.remove_oldest.Goals.{then-waits-eq0, else-waits-eq0}

pub invariant_of-self : goal.invariant_of-self
invariant_of-self g c =
    let w = c.args.self.now in
    let it = found w.few w.listed c.requires c.deref.ensures.value c.in_ok-at.ensures c.index-place.ensures c.with.ensures c.without-waits.ensures in
    record {
      some = w.some;
      few = w.few;
      room = search rules;
      busy = all_removed (λ p. 0 < p.waits) w.pool.items _ c.in_ok-at.at (cc) w.busy;
      listed = all_removed (λ p. p.waits < 2 ^ w.roll) w.pool.items _ c.in_ok-at.at (cc) w.listed;
      short = still_short w.pool.items _ c.args.station w.short (lines_removed it _ (cc) c.if-waits-eq0.true);
    }

pub invariant_of-self-else-waits-eq0 : goal.invariant_of-self-else-waits-eq0
invariant_of-self-else-waits-eq0 g c =
    let w = c.args.self.now in
    let it = found w.few w.listed c.requires c.deref.ensures.value c.in_ok-at.ensures c.index-place.ensures c.with.ensures c.without-waits.ensures in
    let place : Place g.row.T.Denot = record { frame = c.index_mut.result.now.frame; waits = c.without-waits.result } in
    record {
      some = w.some;
      few = w.few;
      room = w.room;
      busy = All-set (λ p. 0 < p.waits) w.pool.items c.in_ok-at.at place (omega arith) w.busy;
      listed = All-set (λ p. p.waits < 2 ^ w.roll) w.pool.items c.in_ok-at.at place (less_listed it) w.listed;
      short = still_short w.pool.items (set w.pool.items c.in_ok-at.at place) c.args.station w.short (lines_kept it c.index_mut.result.now c.index_mut.ensures.value);
    }

pub returns-clause-value : goal.returns-clause-value
returns-clause-value g c =
    let w = c.args.self.now in
    first_frame (found w.few w.listed c.requires c.deref.ensures.value c.in_ok-at.ensures c.index-place.ensures c.with.ensures c.without-waits.ensures)

pub returns-clause-after : goal.returns-clause-after
returns-clause-after g c =
    let w = c.args.self.now in
    let it = found w.few w.listed c.requires c.deref.ensures.value c.in_ok-at.ensures c.index-place.ensures c.with.ensures c.without-waits.ensures in
    elim c.if-waits-eq0.branch [
      | then-waits-eq0 b ↦ ap pool_lines b.self-is ∙ taken_from (pool_lines w) c.args.station _ c.requires (lines_removed it _ (cc) b.if-waits-eq0.true)
      | else-waits-eq0 b ↦ ap pool_lines b.self-is ∙ taken_from (pool_lines w) c.args.station _ c.requires (lines_kept it b.index_mut.result.now b.index_mut.ensures.value)
    ]
