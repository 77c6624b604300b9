-- What a call on a book answers, and what it makes of the book. Assumes nothing.
use Rattle.std.specs.Prelude.{◌≡◌, ℕ, ◌≢◌}

-- the verdict is v, and a book for which its number is 0 means t then; any other leaves the whole book as it was
pub record Answered {B S V : Type 0} (number : V → ℕ) (means : B → S) (old new : B) (verdict v : V) (t : S) : Type 0 where
  pub value : verdict ≡ v
  pub taken : number verdict ≡ 0 → means new ≡ t
  pub same : number verdict ≢ 0 → new ≡ old
