-- That a change keeps what the book promises of itself.
use Rattle.std.proofs.Common.{◌≡◌, true, get_or, vec_items, ap, ◌∙◌, rules}
use Rattle.std.proofs.lemmas.List.{get_or_read}
use Rattle.std.proofs.lemmas.List.Elements.{All-set}
use Rattle.entries.specs.EntryBook.{in_range, no_entry}
use Rattle.entries.specs.declared.customs_entry.CustomsEntry.{CustomsEntry}
use Rattle.entries.proofs.Entries.{after_number, replaced_apart}
use Rattle.entries.proofs.entry_book.EntryBook.change.Goals as goal

pub invariant_of-self : goal.invariant_of-self
invariant_of-self c =
    let s = vec_items c.args.self.now.entries in
    let e = get_or_read s c.args.place c.index.result.now c.requires.within c.index.ensures no_entry in
    let n : c.after.result.number ≡ (get_or s c.args.place no_entry).number =
    ap (λ (x : CustomsEntry). x.number) c.after.ensures.value ∙ (after_number c.args.act c.index.result.now ∙ ap (λ (x : CustomsEntry). x.number) e) in record {
      room = search rules;
      bounded = search rules;
      apart = replaced_apart s c.args.place c.after.result n c.args.self.now.apart;
      ranged = All-set (λ x. in_range x ≡ true) s c.args.place c.after.result c.after.ensures.ranged c.args.self.now.ranged;
    }
