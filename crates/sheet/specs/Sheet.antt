-- The hand-over sheet: the entries that are not filed yet, the newest on top; and filing, which takes an entry off it. Assumes nothing.
use Rattle.std.specs.Prelude.{ℕ, Bool, false, cond, ◌||◌, List, [], ◌∷◌, ◌++◌, Some, None, codes, decimal, Option, ◌==◌}
use Rattle.entries.specs.declared.customs_entry.CustomsEntry.{CustomsEntry}
use Rattle.sheet.specs.Amounts.{amount, given, rate}

-- how far the duty has come
abbrev pub duty_words : Option ℕ → List ℕ
duty_words None = codes "awaiting duty"
duty_words (Some c) = codes "duty " ++ (amount c ++ codes ", to be filed")

abbrev pub sheet_line : CustomsEntry → List ℕ
sheet_line e =
    codes "entry " ++ (decimal e.number ++ (codes ": price " ++ (amount e.price ++ (codes " at " ++ (rate e.rate
    ++ (codes ", freight " ++ (given e.freight ++ (codes ", insurance " ++ (given e.insurance ++ (codes "; " ++ duty_words e.duty))))))))))

-- the number is among those filed
abbrev pub is_filed : ℕ → List ℕ → Bool
is_filed n [] = false
is_filed n (x ∷ xs) = x == n || is_filed n xs

-- what an entry adds to the sheet: its line, indented, or nothing once it is filed
abbrev pub sheet_part : List ℕ → CustomsEntry → List ℕ
sheet_part filed e = cond (is_filed e.number filed) [] (codes "    " ++ (sheet_line e ++ codes "\n"))

-- the sheet of a book's entries, which stand in order of opening: what was opened later comes before
abbrev pub sheet : List ℕ → List CustomsEntry → List ℕ
sheet filed [] = []
sheet filed (e ∷ es) = sheet filed es ++ sheet_part filed e

-- the duty of the entry of that number: none while it is unknown or open
abbrev pub duty_in : Option CustomsEntry → Option ℕ
duty_in None = None
duty_in (Some e) = e.duty

-- the numbers filed, after an entry with that duty was to be filed: one that has none cannot be
abbrev pub filed_with : Option ℕ → ℕ → List ℕ → List ℕ
filed_with None n filed = filed
filed_with (Some _) n filed = filed ++ (n ∷ [])
