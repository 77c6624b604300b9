use Rattle.std.proofs.Common.{◌≡◌, ℕ, ◌<◌, []}
use Rattle.ring.proofs.ring.making.silence.Given as goal

-- the lines before this one are empty
abbrev pub invariant-loop-at : goal.invariant-loop-at
invariant-loop-at g l =
    ((g.W.Wire.lines l.wire).roll ≡ (g.W.Wire.lines l.initial.wire).roll) ×
    ((k : ℕ) → k < l.at → (g.W.Wire.lines l.wire).at k ≡ [])
