-- What the calls of a wire come to, over any lines. Assumes nothing.
use Rattle.std.proofs.Common.{◌≡◌, ℕ, ◌+◌, ◌<◌, ◌≤◌, true, false, List, [], ◌∷◌, length, is_some, Ok, Result, arith}
use Rattle.std.proofs.lemmas.Bool.Decides.{nat_tests}
use Rattle.std.proofs.lemmas.List.{length_push}
use Rattle.protocol.specs.Limits.{line_places}
use Rattle.protocol.specs.declared.refusal.Refusal.{Refusal}
use Rattle.queue.specs.Contents.{oldest, rest}
use Rattle.wires.specs.Lines.{Lines}
use Rattle.wires.specs.Calls.{answer, offering, posted, taken, cleared}
use Rattle.wires.proofs.Changes.{with_at}

-- an answer means that the station is on the roll
pub accepted : {X : Type 0} (n s : ℕ) (x y : X) → ◌≡◌ {A = Result X Refusal} (Ok y) (answer n s x) → (s < n) × (y ≡ x)
accepted n s x y e = (grind (arith, nat_tests), grind (arith, nat_tests))

-- ---- posts

module _ {T : Type 0} (w : Lines T) (sender : ℕ) (f : T) where
  pub posted_roll : (posted w sender f).roll ≡ w.roll
  posted_roll = grind (arith, nat_tests)

  pub posted_at : (t : ℕ) → sender < w.roll → t < w.roll → (t ≡ sender → ⊥) → (posted w sender f).at t ≡ offering f (w.at t)
  posted_at t on in_roll apart = grind (arith, nat_tests)

-- a full line is as it was, and any other has one frame more
pub offering_short : {T : Type 0} (f : T) (l : List T) → length l ≤ line_places → length (offering f l) ≤ line_places
offering_short f l h = grind (arith, nat_tests, length_push l f)

-- ---- takes

module _ {T : Type 0} (v : Lines T) (s : ℕ) where
  pub taken_roll : (taken v s).roll ≡ v.roll
  taken_roll = grind (arith, nat_tests)

  pub taken_here : s < v.roll → (taken v s).at s ≡ rest (v.at s)
  taken_here on = grind (arith, nat_tests)

  -- emptying a line after a take comes to the same
  pub cleared_taken : cleared (taken v s) s ≡ cleared v s
  cleared_taken = grind (arith, nat_tests, with_at)

  -- a take at an empty line clears it
  pub taken_empty : v.at s ≡ [] → taken v s ≡ cleared v s
  taken_empty none = grind (arith, nat_tests, with_at)

-- the take answers a frame: the line is shorter by one
pub one_less : {T : Type 0} (l : List T) → is_some (oldest l) ≡ true → length (rest l) + 1 ≡ length l
one_less [] e = cc
one_less (x ∷ l) e = omega arith

-- the take answers none: the line is empty
pub none_left : {T : Type 0} (l : List T) → is_some (oldest l) ≡ false → l ≡ []
none_left [] e = cc
none_left (x ∷ l) e = cc
