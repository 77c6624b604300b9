-- What is printed so far and what is left make the whole.
use Rattle.std.proofs.Common.{◌≡◌, ◌+◌, ◌++◌, map, drop, vec_items}
use Rattle.std.specs.Slice.Iter.{iter_rest}
use Rattle.runs.specs.Rings.{result_number}
use Rattle.replay.specs.Print.{answers_text}
use Rattle.replay.proofs.answers.append_answers.Given as goal

abbrev pub invariant-loop-i : goal.invariant-loop-i
invariant-loop-i l =
    vec_items l.text ++ answers_text (2 + l.i) (drop l.i l.lines) (map result_number (iter_rest l.given))
    ≡ vec_items l.initial.text ++ answers_text 2 l.lines (map result_number (iter_rest l.initial.given))
