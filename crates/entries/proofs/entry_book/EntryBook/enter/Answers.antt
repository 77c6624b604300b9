-- That an opening keeps what the book promises of itself.
use Rattle.std.proofs.Common.{◌≡◌, true, List, vec_items, sym, ap, ◌∙◌, subst, rules}
use Rattle.std.proofs.lemmas.List.Elements.{All-push}
use Rattle.books.specs.Places.{Apart}
use Rattle.books.proofs.Searches.{found_none}
use Rattle.entries.specs.EntryBook.{has_number, numbers, opened, lawful_act, in_range, InRange}
use Rattle.entries.specs.declared.customs_entry.CustomsEntry.{CustomsEntry}
use Rattle.entries.proofs.Entries.{opened_apart, opened_in_range}
use Rattle.entries.proofs.entry_book.EntryBook.enter.Goals as goal

pub invariant_of-self : goal.invariant_of-self
invariant_of-self c =
    let s = vec_items c.args.self.now.entries in
    let e = opened c.args.number c.in-Open.price c.in-Open.rate in
    let items = sym c.push_reserved.ensures.items in
    let none = found_none (has_number c.args.number) s (sym c.requires.unknown) in
    let ok : in_range e ≡ true = opened_in_range c.args.number c.in-Open.price c.in-Open.rate c.requires.numbered (ap lawful_act (sym c.in-Open.is) ∙ c.requires.lawful) in record {
      room = search rules;
      bounded = search rules;
      apart = subst (λ (t : List CustomsEntry). Apart (numbers t)) items (opened_apart s e none c.args.self.now.apart);
      ranged = subst InRange items (All-push (λ x. in_range x ≡ true) s e c.args.self.now.ranged ok);
    }
