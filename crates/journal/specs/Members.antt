-- What a member means, and how it can become another. Assumes nothing.
use Rattle.std.specs.Prelude.{◌≡◌}
use Rattle.protocol.specs.declared.note.Note.{Note}
use Rattle.journal.specs.declared.store.Journal.{Ghosts}
use Rattle.journal.specs.declared.member.Member.{Member}
use Rattle.journal.specs.Core.{Core, core_of}
use Rattle.journal.specs.Settle.{fed, newly_firm}

module _ {J : Type 0} {g : Ghosts J} where
  -- a member as the rules speak of it
  abbrev pub member_core : Member J g → Core
  member_core x = core_of x.status (g.entries x.journal)

  -- x became y, whose core is m, and the journal's memory stayed where it was
  pub record Became (m : Core) (x y : Member J g) : Type 0 where
    pub core : member_core y ≡ m
    pub home : g.home y.journal ≡ g.home x.journal

module _ {J B S : Type 0} {g : Ghosts J} (means : B → S) (next : S → Note → S) where
  -- as member x became y, book a became b: it was given the notes that became firm, in order
  abbrev pub Followed : Member J g → Member J g → B → B → Type 0
  Followed x y a b = means b ≡ fed next (means a) (newly_firm x.status.firm (member_core y))
