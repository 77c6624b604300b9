use Rattle.std.proofs.Common.{◌≡◌, eqb, vec_items, sym, refl, ap, ◌∙◌, arith}
use Rattle.std.proofs.lemmas.Bool.{cond-true, eq-eqb}
use Rattle.wires.specs.Lines.{silent}
use Rattle.station.specs.Meaning.{model}
use Rattle.ring.proofs.Making.{is_new, as_many}
use Rattle.ring.proofs.ring.Ring.new.Goals as goal

pub invariant_of-result : goal.invariant_of-result
invariant_of-result g c =
    let few = g.met.R.VotingRule.few c.args.rule in
    let many = as_many c.roll-roll.result (g.B.Book.means c.args.book.now) (model g.B.Book.means) (vec_items c.in_ok-stations.stations) c.in_ok-stations.ensures in
    record { few = omega arith; begun = omega arith }

pub returns : goal.returns
returns g c =
    let same : (g.W.Wire.lines c.args.wire).roll ≡ g.R.VotingRule.size c.args.rule = sym c.roll.ensures ∙ (c.if-roll.false ∙ c.roll-roll.ensures) in (
      cond-true (eqb (g.W.Wire.lines c.args.wire).roll (g.R.VotingRule.size c.args.rule)) _ _ (eq-eqb _ _ same),
      is_new _ _ c.roll-roll.result _ _ c.roll-roll.ensures c.in_ok-stations.ensures (c.silence.ensures ∙ ap silent (same ∙ sym c.roll-roll.ensures)),
      refl,
    )
