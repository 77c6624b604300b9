-- The limits of the entry book, named once. Assumes nothing.
use Rattle.std.specs.Prelude.{ℕ}

-- the places of the entry book
abbrev pub entry_places : ℕ
entry_places = 32

-- the largest price, freight or insurance, in cents
abbrev pub max_amount : ℕ
max_amount = 1000000000

-- the largest rate, in hundredths of a per cent
abbrev pub max_rate : ℕ
max_rate = 10000

-- the rate at which the duty is the whole value
abbrev pub whole_rate : ℕ
whole_rate = 10000

-- the largest duty, in cents
abbrev pub max_duty : ℕ
max_duty = 3000000000
