use Rattle.std.proofs.Common.{sym, refl, ap, ◌∙◌}
use Rattle.protocol.specs.declared.refusal.Refusal.TheVariants.{NotOnRoll, IsOut, LineEmpty}
use Rattle.journal.specs.Core.{is_out}
use Rattle.station.specs.Meaning.{model}
use Rattle.runs.proofs.Stepping.{take_on, take_off, take_out, take_empty, takes}
use Rattle.ring.specs.Meaning.{ruling}
use Rattle.ring.proofs.Calls.{misses, balks, obeys}
use Rattle.ring.proofs.ring.Ring.take.Goals as goal

pub returns-in_err-station : goal.returns-in_err-station
returns-in_err-station g c = misses c.args.at NotOnRoll _ _ _ _ c.from_residual.ensures.1 c.in_err-station.ensures.value (take_off _ _ c.args.at)

pub returns-then-is_out : goal.returns-then-is_out
returns-then-is_out g c =
    let x = c.in_ok-station.station.now in
    let out = ap is_out (sym c.state.ensures) ∙ (sym c.is_out.ensures ∙ c.if-is_out.true) in
    balks c.args.at x x _ _ _ c.in_ok-station.ensures.value _ IsOut IsOut refl refl refl refl (λ on. take_out _ _ c.args.at (model g.B.Book.means x) on out)

pub returns-in_err-frame : goal.returns-in_err-frame
returns-in_err-frame g c =
    let x = c.in_ok-station.station.now in
    let in_ring = ap is_out (sym c.state.ensures) ∙ (sym c.is_out.ensures ∙ c.if-is_out.false) in
    let told = c.in_err-frame.ensures in
    balks c.args.at x x _ _ _ c.in_ok-station.ensures.value _ LineEmpty _ c.from_residual-in_err-frame.ensures.1 told.value.1 refl told.same
    (λ on. take_empty _ _ c.args.at (model g.B.Book.means x) on in_ring told.value.0)

pub returns : goal.returns
returns g c =
    let x = c.in_ok-station.station.now in
    let z = model g.B.Book.means x in
    let in_ring = ap is_out (sym c.state.ensures) ∙ (sym c.is_out.ensures ∙ c.if-is_out.false) in
    let told = c.in_ok-frame.ensures in
    let f = c.in_ok-frame.frame in
    let done = take_on (ruling g.R.VotingRule.size g.R.VotingRule.votes g.B.Book.next c.args.self.now) f z in_ring in
    obeys c.args.at x c.take.new.self _ _ _ c.in_ok-station.ensures.value _ _ _ (c.take.ensures.value ∙ ap (λ p. p.0) done) (c.take.ensures.after ∙ ap (λ p. p.1) done) told.after
    (λ on. takes _ _ c.args.at z on f in_ring told.value)
