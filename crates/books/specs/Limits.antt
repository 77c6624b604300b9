-- A limit that the books share. Assumes nothing.
use Rattle.std.specs.Prelude.{ℕ, Bool, ◌&&◌, nat_le}

-- the largest number of an entry or of a paper file
abbrev pub max_number : ℕ
max_number = 9999999

-- 1 to 9,999,999
abbrev pub is_number : ℕ → Bool
is_number n = nat_le 1 n && nat_le n max_number
