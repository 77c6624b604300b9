-- The lines of a text. Each ends in byte 10, which the last may lack. Assumes nothing.
use Rattle.std.specs.Prelude.{ℕ, cond, List, [], ◌∷◌, Some, None, Option, ◌==◌}
use Rattle.std.specs.List.{onto_first}
use Rattle.std.specs.Borrow.{Bor}
use Rattle.script.specs.declared.lines.Lines.{Lines}

-- nothing follows the last byte
abbrev pub unless_empty : List ℕ → List (List ℕ) → List (List ℕ)
unless_empty [] ls = []
unless_empty (y ∷ ys) ls = ls

-- an empty text is one empty line; a text that ends in byte 10 has no further line
abbrev pub lines : List ℕ → List (List ℕ)
lines [] = [] ∷ []
lines (x ∷ xs) = cond (x == 10) ([] ∷ unless_empty xs (lines xs)) (onto_first x (lines xs))

-- the lines of the text that is left, if one is
abbrev pub lines_left : Option (Bor (List ℕ)) → List (List ℕ)
lines_left None = []
lines_left (Some t) = lines t.now

-- the lines that are still to come
abbrev pub unread_lines : Lines → List (List ℕ)
unread_lines s = lines_left s.left
