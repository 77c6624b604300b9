use Rattle.std.proofs.Common.{map, vec_items, sym, ap, ◌∙◌}
use Rattle.runs.specs.Promises.{Laws}
use Rattle.runs.specs.Rings.{result_number}
use Rattle.runs.proofs.Running.{ran, told, promised}
use Rattle.ring.specs.Meaning.{meaning, ruling}
use Rattle.ring.proofs.ring.performing.perform.Goals as goal

pub returns : goal.returns
returns g c =
    let by = ruling g.R.VotingRule.size g.R.VotingRule.votes g.B.Book.next in
    let means = meaning g.B.Book.means g.W.Wire.lines in
    let first = c.in_ok-ring.ring in
    let last = c.call_all.new.self in
    let b = g.B.Book.means c.args.book.now in
    let calls = c.args.calls.now in
    let new = c.in_ok-ring.ensures in
    let done = c.in_ok-given.ensures in
    let law = g.met.R.VotingRule in
    let rule = last.rule in
    let few = law.few rule in
    let laws : Laws (g.R.VotingRule.size rule) (g.R.VotingRule.votes rule) = record { shares = λ v w _ _ a d. law.shares rule v w a d; grows = λ v w _ high more a. law.grows rule v w more high a; all = law.all rule } in
    let q = ap (λ z. record { size = g.R.VotingRule.size z; vote = g.R.VotingRule.votes z; next = g.B.Book.next }) (sym done.rule) in (
      new.0,
      done.rule ∙ new.2,
      record {
        ring = ran (by last) (by first) b calls q (means first) new.1 (means last) done.after;
        answers_given = told (by last) (by first) b calls q (means first) new.1 (map result_number (vec_items c.in_ok-given.given)) done.answered;
        promises = promised (by last) (by first) b calls q (means first) new.1 few.0 few.1 laws (means last) done.after;
      },
    )
