-- The firm count, and the notes that go to the book. Assumes nothing.
use Rattle.std.specs.Prelude.{ℕ, ◌-◌, max, cond, List, [], ◌∷◌, length, take, drop}
use Rattle.protocol.specs.declared.note.Note.{Note}
use Rattle.protocol.specs.declared.entry.Body.{Body}
use Rattle.protocol.specs.declared.entry.Body.TheVariants as body
use Rattle.protocol.specs.declared.entry.Entry.{Entry}
use Rattle.vote.specs.Mask.{everyone}
use Rattle.journal.specs.Journal.{newest_view}
use Rattle.journal.specs.Peers.{least_known}
use Rattle.journal.specs.Core.{Core, with_firm, is_out}

module _ {S : Type 0} (next : S → Note → S) where
  -- a book's state after what an entry holds
  abbrev pub feed : S → Body → S
  feed s (body.Note x) = next s x
  feed s (body.View mask) = s

  -- a book's state after the notes of entries, in order
  abbrev pub fed : S → List Entry → S
  fed s [] = s
  fed s (e ∷ es) = fed (feed s e.body) es

-- the members of the newest view, or the whole roll
abbrev pub view : Core → ℕ
view m = newest_view (everyone m.roll) m.journal

-- the smallest of the length and the known places of the other members of the newest view
abbrev pub known_to_all : Core → ℕ
known_to_all m = least_known m.me (view m) 0 m.peers (length m.journal)

-- the firm count becomes the greater of itself and that
abbrev pub settle : Core → Core
settle m = with_firm (max m.firm (known_to_all m)) m

-- the firm count is worked out again, unless the station is out
abbrev pub settle_on : Core → Core
settle_on m = cond (is_out m.state) m (settle m)

-- the entries of a station that are firm beyond the first k
abbrev pub newly_firm : ℕ → Core → List Entry
newly_firm k m = take (m.firm - k) (drop k m.journal)
