-- Going round the ring, in which station 0 follows the last. Assumes nothing.
use Rattle.std.specs.Prelude.{ℕ, zero, suc, ◌+◌, ◌-◌, ◌%◌, List, [], ◌∷◌}

-- the station k after s, of n
unfoldable pub around : ℕ → ℕ → ℕ → ℕ
around n s k = (s + k) % n

-- the last k of the stations s - 1, s - 2 .. s + 1 round the ring
unfoldable pub count_back : ℕ → ℕ → ℕ → List ℕ
count_back n s zero = []
count_back n s (suc k) = around n s (suc k) ∷ count_back n s k

-- every other station, going back from s
abbrev pub going_back : ℕ → ℕ → List ℕ
going_back n s = count_back n s (n - 1)

-- the last k of the stations s + 1, s + 2 .. s - 1 round the ring
unfoldable pub count_on : ℕ → ℕ → ℕ → List ℕ
count_on n s zero = []
count_on n s (suc k) = around n s (n - suc k) ∷ count_on n s k

-- every other station, going on from s
abbrev pub going_on : ℕ → ℕ → List ℕ
going_on n s = count_on n s (n - 1)
