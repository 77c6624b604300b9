-- Worked examples of the two rules. Assumes nothing.
use Rattle.std.specs.Prelude.{◌≡◌, true, false, [], ◌∷◌}
use Rattle.vote.specs.Majority.{heads, majority}

pub record VoteExamples : Type 0 where
  -- by heads: 3 of 5 have the vote, 2 of 5 and 2 of 4 have not
  pub three_of_five : majority (heads 5) 7 ≡ true
  pub two_of_five : majority (heads 5) 3 ≡ false
  pub two_of_four : majority (heads 4) 3 ≡ false
  -- by the weights 3, 1, 1: the heavy station alone has the vote, the two light ones have not
  pub heavy_one : majority (3 ∷ 1 ∷ 1 ∷ []) 1 ≡ true
  pub light_two : majority (3 ∷ 1 ∷ 1 ∷ []) 6 ≡ false
