-- Amounts and rates as declarants write them, as bytes. Assumes nothing.
use Rattle.std.specs.Prelude.{ℕ, ◌/◌, ◌%◌, cond, List, ◌++◌, Some, None, codes, decimal, Option, nat_lt}

-- the digit of n that counts units of size u
abbrev pub digit : ℕ → ℕ → List ℕ
digit u n = decimal (n / u % 10)

-- a whole number below 1,000,000,000 in groups of three digits: 5,000
abbrev pub units : ℕ → List ℕ
units n =
    cond (nat_lt n 1000) (decimal n)
    (cond (nat_lt n 1000000) (decimal (n / 1000) ++ (codes "," ++ (digit 100 n ++ (digit 10 n ++ decimal (n % 10)))))
    (decimal (n / 1000000) ++ (codes "," ++ (digit 100000 n ++ (digit 10000 n ++ (digit 1000 n ++ (codes "," ++ (digit 100 n ++ (digit 10 n ++ decimal (n % 10))))))))))

-- cents with the point: 5,000.00
abbrev pub amount : ℕ → List ℕ
amount c = units (c / 100) ++ (codes "." ++ (digit 10 c ++ decimal (c % 10)))

-- an amount that may be absent
abbrev pub given : Option ℕ → List ℕ
given None = codes "not given"
given (Some c) = amount c

-- hundredths of a per cent: 12.00 per cent
abbrev pub rate : ℕ → List ℕ
rate r = amount r ++ codes " per cent"
