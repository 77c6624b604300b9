-- A mask is the sum of 2 ^ s over the stations s of a set. Assumes nothing.
use Rattle.std.specs.Prelude.{◌≡◌, ℕ, ◌-◌, ◌/◌, ◌%◌, ◌^◌, ◌<◌, Bool, true, cond, ◌==◌, bit_and, bit_or, nat_lt}
use Rattle.protocol.specs.Limits.{max_stations}

-- station s is in the mask m
unfoldable pub has : ℕ → ℕ → Bool
has m s = m / 2 ^ s % 2 == 1

-- every station of a is in b
abbrev pub Within : ℕ → ℕ → Type 0
Within a b = (s : ℕ) → has a s ≡ true → has b s ≡ true

-- a and b have a station below n in common
abbrev pub Share : ℕ → ℕ → ℕ → Type 0
Share n a b = (s : ℕ) × (s < n) × (has a s ≡ true) × (has b s ≡ true)

-- the whole roll of n stations
unfoldable pub everyone : ℕ → ℕ
everyone n = 2 ^ n - 1

-- m and station s; a mask of 8 bits has no station 8 or above, and stays as it is there
unfoldable pub adding : ℕ → ℕ → ℕ
adding m s = cond (nat_lt s max_stations) (bit_or m (2 ^ s)) m

-- m without the stations of o, both masks of 8 bits
abbrev pub removing : ℕ → ℕ → ℕ
removing m o = bit_and m (255 - o)
