-- What each note keeps, any notes keep. Assumes nothing.
use Rattle.std.proofs.Common.{List, [], ◌∷◌}
use Rattle.protocol.specs.declared.note.Note.{Note}
use Rattle.books.specs.Feeding.{fed, Always}

module _ {S : Type 0} (next : S → Note → S) (P : S → Type 0) (kept : (s : S) (x : Note) → P s → P (next s x)) where
  fed_keeps : (notes : List Note) (s : S) → P s → P (fed next s notes)
  fed_keeps [] s h = h
  fed_keeps (x ∷ xs) s h = fed_keeps xs (next s x) (kept s x h)

  pub always : (start : S) → P start → Always next start P
  always start new = (new, λ s notes. fed_keeps notes s)
