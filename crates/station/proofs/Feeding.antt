-- The book follows the firm part. Assumes nothing.
use Rattle.std.proofs.Common.{◌≡◌, ◌+◌, ◌-◌, ◌≤◌, List, [], ◌∷◌, ◌++◌, length, take, sym, refl, ap, ◌∙◌, arith, take-add}
use Rattle.std.proofs.lemmas.List.{take-append-le}
use Rattle.protocol.specs.declared.note.Note.{Note}
use Rattle.protocol.specs.declared.entry.Entry.{Entry}
use Rattle.journal.specs.Core.{Core}
use Rattle.journal.specs.Settle.{feed, fed, newly_firm}
use Rattle.station.specs.Model.{Model, moved, firm_part}
use Rattle.station.specs.Laws.{Grown, Fed}

module _ {S : Type 0} (next : S → Note → S) where
  fed_append : (s : S) (a b : List Entry) → fed next s (a ++ b) ≡ fed next (fed next s a) b
  fed_append s [] b = refl
  fed_append s (e ∷ a) b = fed_append (feed next s e.body) a b

  -- the entries firm before, and those newly firm
  joined : (m x : Core) → Grown m x → m.firm ≤ length m.journal → firm_part m ++ newly_firm m.firm x ≡ firm_part x
  joined m x g h =
      let z : m.firm + (x.firm - m.firm) ≡ x.firm = omega (arith, g.firm) in
      ap (λ (l : List Entry). l ++ newly_firm m.firm x) (sym (take-append-le m.firm m.journal g.more h) ∙ ap (take m.firm) (sym g.journal))
      ∙ sym (take-add m.firm (x.firm - m.firm) x.journal)
      ∙ ap (λ k. take k x.journal) z

  pub fed_moved : (b : S) (x : Model S) (ns : List Note) (m : Core) → Grown x.core m → Fed next b x → Fed next b (moved next ns m x)
  fed_moved b x ns m g h = record {
    within = g.within h.within;
    book =
        ap (λ (s : S). fed next s (newly_firm x.core.firm m)) h.book
        ∙ sym (fed_append b (firm_part x.core) (newly_firm x.core.firm m))
        ∙ ap (fed next b) (joined x.core m g h.within);
  }

  -- where the firm count stays as it is, the book does
  pub fed_kept : (b : S) (x : Model S) (ns : List Note) (m : Core) → Grown x.core m → m.firm ≡ x.core.firm → Fed next b x
      → Fed next b (record { core = m; outbox = ns; book = x.book })
  fed_kept b x ns m g e h =
      let n : newly_firm x.core.firm m ≡ [] = (let z : m.firm - x.core.firm ≡ 0 = omega arith in rw z) in
      let y = fed_moved b x ns m g h in
      record { within = y.within; book = sym (ap (fed next x.book) n) ∙ y.book }
