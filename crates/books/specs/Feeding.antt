-- Any book after a list of notes, given one after the other. Assumes nothing.
use Rattle.std.specs.Prelude.{List, [], ◌∷◌}
use Rattle.protocol.specs.declared.note.Note.{Note}

abbrev pub fed : {S : Type 0} → (S → Note → S) → S → List Note → S
fed next s [] = s
fed next s (x ∷ xs) = fed next (next s x) xs

-- it holds of the book that all start from, and notes do not end it
abbrev pub Always : {S : Type 0} → (S → Note → S) → S → (S → Type 0) → Type 0
Always {S} next start P = P start × ((s : S) (notes : List Note) → P s → P (fed next s notes))
