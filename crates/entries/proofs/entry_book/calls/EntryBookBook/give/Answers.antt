-- That the answer and the next state are those of the rules.
use Rattle.std.proofs.Common.{vec_items, sym, ◌∙◌}
use Rattle.books.proofs.Answers.{answered}
use Rattle.entries.specs.EntryBook.{entry_verdict_number}
use Rattle.entries.specs.EntryState.{entries_of}
use Rattle.entries.proofs.Entries.{known_at, unknown_at}
use Rattle.entries.proofs.entry_book.calls.EntryBookBook.give.Goals as goal

pub returns-in-Some : goal.returns-in-Some
returns-in-Some c =
    let known = known_at (vec_items c.args.self.now.entries) c.args.note c.in-Ok.act (sym c.in-Ok.ensures.0) c.in-Some.place c.in-Some.ensures in
    record { after = answered entry_verdict_number entries_of _ _ _ _ _ c.change.ensures ∙ sym known.1; value = c.change.ensures.value ∙ sym known.0; same = c.change.ensures.same }

pub returns-in-None : goal.returns-in-None
returns-in-None c =
    let unknown = unknown_at (vec_items c.args.self.now.entries) c.args.note c.in-Ok.act (sym c.in-Ok.ensures.0) c.in-None.ensures in
    record { after = answered entry_verdict_number entries_of _ _ _ _ _ c.enter.ensures ∙ sym unknown.1; value = c.enter.ensures.value ∙ sym unknown.0; same = c.enter.ensures.same }
