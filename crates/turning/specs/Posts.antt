-- What a station in its turn becomes, and the frames that it posts, in order. Assumes nothing.
use Rattle.std.specs.Prelude.{◌≡◌, ℕ, ◌+◌, List, [], ◌∷◌, ◌++◌, length}
use Rattle.protocol.specs.declared.entry.Body.{Body}
use Rattle.protocol.specs.declared.entry.Entry.{Entry}
use Rattle.protocol.specs.declared.frame.Frame.{Frame}
use Rattle.protocol.specs.declared.frame.Frame.TheVariants as frame
use Rattle.wires.specs.Lines.{Lines}
use Rattle.wires.specs.Calls.{posted_all}
use Rattle.journal.specs.Journal.{last_turn}
use Rattle.journal.specs.Core.{Core, with_journal}

abbrev pub Posting : Type 0
Posting = Core × List Frame

-- some frames, and then what a rule posts
abbrev pub after : List Frame → Posting → Posting
after fs q = (q.0, fs ++ q.1)

-- the frames that post some entries, the first of which follows an entry of turn `before`
unfoldable pub frames_of : ℕ → ℕ → List Entry → List Frame
frames_of s before [] = []
frames_of s before (e ∷ es) = frame.Entry s e before ∷ frames_of s e.turn es

-- the next entry of a journal, made in turn t
abbrev pub next_entry : ℕ → Body → List Entry → Entry
next_entry t b j = record { place = length j + 1; turn = t; body = b }

-- appends an entry of turn t and posts it
abbrev pub say_body : ℕ → Body → Core → Posting
say_body t b m = (
  with_journal (m.journal ++ next_entry t b m.journal ∷ []) m,
  frame.Entry m.me (next_entry t b m.journal) (last_turn m.journal) ∷ [],
)

-- a station that became m, and lines that became v, as a rule says: what it has become, and the frames that it posts
pub record Performed (s : ℕ) (q : Posting) (m : Core) (w v : Lines Frame) : Type 0 where
  pub station : m ≡ q.0
  pub lines : v ≡ posted_all w s q.1
