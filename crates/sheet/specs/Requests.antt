-- What a note asks of the entry book, in words. Assumes nothing.
use Rattle.std.specs.Prelude.{ℕ, cond, List, ◌++◌, codes, decimal, ◌==◌}
use Rattle.protocol.specs.declared.note.Note.{Note}
use Rattle.sheet.specs.Amounts.{amount, rate}

abbrev pub request : Note → List ℕ
request x =
    cond (x.a == 1) (codes "open entry " ++ (decimal x.b ++ (codes ", price " ++ (amount x.c ++ (codes " at " ++ rate x.d)))))
    (cond (x.a == 2) (codes "freight " ++ (amount x.c ++ (codes " for entry " ++ decimal x.b)))
    (cond (x.a == 3) (codes "insurance " ++ (amount x.c ++ (codes " for entry " ++ decimal x.b)))
    (cond (x.a == 4) (codes "close entry " ++ decimal x.b)
    (codes "an unknown request"))))
