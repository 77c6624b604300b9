use Rattle.std.proofs.Common.{◌∷◌, [], map, vec_items, sym, ap, ◌∙◌, arith}
use mathlib.Core.List.{map-append}
use Rattle.runs.specs.Rings.{result_number}
use Rattle.runs.proofs.Running.{run_next, answers_next, run_all, answers_all}
use Rattle.ring.specs.Meaning.{meaning, ruling}
use Rattle.ring.proofs.ring.Ring.call_all.Goals as goal

pub loop-call-preserved : goal.loop-call-preserved
loop-call-preserved g c =
    let by = ruling g.R.VotingRule.size g.R.VotingRule.votes g.B.Book.next in
    let means = meaning g.B.Book.means g.W.Wire.lines in
    let R = by c.args.self.now in
    let i = c.loop-call.call-index in
    let inv = c.loop-call.invariant in
    let q = ap (λ v. record { size = g.R.VotingRule.size v; vote = g.R.VotingRule.votes v; next = g.B.Book.next }) inv.2 in
    let put = ap (map result_number) c.push_reserved.ensures.items ∙ map-append result_number (vec_items c.loop-call.given) (c.call.result ∷ []) in
    let call = c.call.ensures in (
      omega arith,
      omega arith,
      call.rule ∙ inv.2,
      run_next R c.args.calls.now i (by c.loop-call.self) (means c.loop-call.self) (means c.call.new.self) _ (omega arith) q call.after ∙ inv.3,
      answers_next R c.args.calls.now i (by c.loop-call.self) (means c.loop-call.self) (means c.call.new.self) _
          (map result_number (vec_items c.loop-call.given)) (map result_number (vec_items c.push_reserved.new.self)) (result_number c.call.result) (omega arith) q call.after call.value put ∙ inv.4,
    )

pub returns : goal.returns
returns g c =
    let means = meaning g.B.Book.means g.W.Wire.lines in
    let R = ruling g.R.VotingRule.size g.R.VotingRule.votes g.B.Book.next c.args.self.now in
    let i = c.loop-call.call-index in
    let inv = c.loop-call.invariant in
    record {
      answered = sym (answers_all R c.args.calls.now i (means c.loop-call.self) (map result_number (vec_items c.loop-call.given)) (omega arith)) ∙ inv.4;
      after = sym (run_all R c.args.calls.now i (means c.loop-call.self) (omega arith)) ∙ inv.3;
      rule = inv.2;
    }
