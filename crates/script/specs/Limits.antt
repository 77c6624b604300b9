-- The limit of a script's text. Assumes nothing.
use Rattle.std.specs.Prelude.{ℕ}

-- the most bytes of a text
abbrev pub max_text : ℕ
max_text = 16384
