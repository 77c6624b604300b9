-- The limits of the claim book, named once. Assumes nothing.
use Rattle.std.specs.Prelude.{ℕ}

-- the places of the claim book
abbrev pub claim_places : ℕ
claim_places = 32
