-- Line by line.
use Rattle.replay.proofs.Texts.{line_added}
use Rattle.replay.proofs.answers.append_answers.Goals as goal

pub loop-i-preserved : goal.loop-i-preserved
loop-i-preserved c =
    line_added c.args.lines.now c.loop-i.i _ _ _ _ _ _ _ c.loop-i-test.true c.answer_to-answer.ensures.answer c.answer_to-answer.ensures.left
    c.in_ok-append_answer.ensures c.loop-i.invariant
