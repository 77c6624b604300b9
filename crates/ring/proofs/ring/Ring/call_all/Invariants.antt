use Rattle.std.proofs.Common.{◌≡◌, ◌≤◌, ◌++◌, length, map, drop, vec_items, vec_len, vec_capacity}
use Rattle.runs.specs.Rings.{result_number, run, answers}
use Rattle.ring.specs.Meaning.{meaning, ruling}
use Rattle.ring.proofs.ring.Ring.call_all.Given as goal

-- the calls that are left make and answer what all of them do
abbrev pub invariant-loop-call : goal.invariant-loop-call
invariant-loop-call g l =
    (vec_len l.given ≡ l.call-index) × (length l.calls ≤ vec_capacity l.given) × (l.self.rule ≡ l.initial.self.rule) ×
    (run (ruling g.R.VotingRule.size g.R.VotingRule.votes g.B.Book.next l.initial.self) (meaning g.B.Book.means g.W.Wire.lines l.self) (drop l.call-index l.calls) ≡
    run (ruling g.R.VotingRule.size g.R.VotingRule.votes g.B.Book.next l.initial.self) (meaning g.B.Book.means g.W.Wire.lines l.initial.self) l.calls) ×
    (map result_number (vec_items l.given) ++ answers (ruling g.R.VotingRule.size g.R.VotingRule.votes g.B.Book.next l.initial.self) (meaning g.B.Book.means g.W.Wire.lines l.self) (drop l.call-index l.calls) ≡
    answers (ruling g.R.VotingRule.size g.R.VotingRule.votes g.B.Book.next l.initial.self) (meaning g.B.Book.means g.W.Wire.lines l.initial.self) l.calls)
