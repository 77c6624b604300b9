-- The journal of a station: its end, which ends match it, and its newest view. Assumes nothing.
use Rattle.std.specs.Prelude.{ℕ, Bool, ◌&&◌, ◌||◌, List, [], ◌∷◌, map, length, Option, ◌==◌, nat_le, nat_lt, slice_index}
use Rattle.protocol.specs.declared.entry.Body.{Body}
use Rattle.protocol.specs.declared.entry.Body.TheVariants as body
use Rattle.protocol.specs.declared.entry.Entry.{Entry}
use Rattle.books.specs.Places.{at_place}

-- the turn of the entry at a place, counted from 1; 0 at place 0 and past the end
abbrev pub turn_at : List Entry → ℕ → ℕ
turn_at j p = slice_index (0 ∷ map (λ e. e.turn) j) p

-- the turn of the last entry, 0 when there is none
abbrev pub last_turn : List Entry → ℕ
last_turn j = turn_at j (length j)

-- the last place and its turn, (0, 0) when the journal is empty
abbrev pub end_of : List Entry → ℕ × ℕ
end_of j = (length j, last_turn j)

-- the journal has that turn at that place
abbrev pub holds : List Entry → ℕ → ℕ → Bool
holds j p t = nat_lt 0 p && (nat_le p (length j) && turn_at j p == t)

-- the end of an empty journal
abbrev pub is_start : ℕ × ℕ → Bool
is_start e = e.0 == 0 && e.1 == 0

-- an end matches a journal if it is (0, 0) or the journal has that turn at that place
abbrev pub matches : List Entry → ℕ × ℕ → Bool
matches j e = is_start e || holds j e.0 e.1

-- the view that an entry leaves, of the one before it
abbrev pub view_after : ℕ → Body → ℕ
view_after v (body.Note x) = v
view_after v (body.View mask) = mask

-- the entry at a place, counted from 1; none outside the journal
abbrev pub entry_at : List Entry → ℕ → Option Entry
entry_at j p = at_place p j

-- the last view of a journal, or the whole roll
abbrev pub newest_view : ℕ → List Entry → ℕ
newest_view whole [] = whole
newest_view whole (e ∷ es) = newest_view (view_after whole e.body) es
