-- What several posts on a wire come to, over any lines. Assumes nothing.
use Rattle.std.proofs.Common.{◌≡◌, ℕ, ◌<◌, ◌≤◌, List, [], ◌∷◌, ◌++◌, length, take, refl, ⊎_elim, append_assoc, arith}
use Rattle.std.proofs.lemmas.Grind.{common_steps}
use Rattle.std.proofs.lemmas.Bool.{cases_lt, lt-ltb, le-ltb}
use Rattle.std.proofs.lemmas.Bool.Decides.{nat_tests}
use Rattle.std.proofs.lemmas.List.{append-nil, take_all, take-append-le}
use Rattle.protocol.specs.Limits.{line_places}
use Rattle.wires.specs.Lines.{Lines}
use Rattle.wires.specs.Calls.{offering, posted, posted_all}
use Rattle.wires.proofs.Calls.{posted_roll, posted_at, offering_short}

offering_then : {T : Type 0} (f : T) (l fs : List T) → length l ≤ line_places → take line_places (offering f l ++ fs) ≡ take line_places (l ++ f ∷ fs)
offering_then f l fs h = ⊎_elim
    (λ (lt : length l < line_places). rw (lt-ltb (length l) line_places lt, append_assoc))
    (λ (ge : line_places ≤ length l). rw (le-ltb (length l) line_places ge, take-append-le, take-append-le))
    (cases_lt (length l) line_places)

pub posted_order : {T : Type 0} (frames : List T) (w : Lines T) (sender t : ℕ) → sender < w.roll → t < w.roll → (t ≡ sender → ⊥)
    → length (w.at t) ≤ line_places → (posted_all w sender frames).at t ≡ take line_places (w.at t ++ frames)
unfolding posted_all
posted_order [] w sender t on in_roll apart short = rw (append-nil, take_all)
posted_order (f ∷ fs) w sender t on in_roll apart short =
    grind (arith, common_steps, posted_order fs (posted w sender f) sender t, posted_roll w sender f, posted_at w sender f t on in_roll apart, offering_short f (w.at t) short, offering_then f (w.at t) fs short)

-- nothing is posted by a station off the roll
pub posted_all_off : {T : Type 0} (frames : List T) (w : Lines T) (sender : ℕ) → w.roll ≤ sender → posted_all w sender frames ≡ w
unfolding posted_all
posted_all_off [] w sender off = refl
posted_all_off (f ∷ fs) w sender off = grind (arith, common_steps, nat_tests, posted_all_off fs w sender off)
