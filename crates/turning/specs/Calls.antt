-- The calls that make up a turn: opening gives a token, saying uses it for one note, passing ends it. Assumes nothing.
use Rattle.std.specs.Prelude.{ℕ, ◌-◌, ◌%◌, Bool, true, false, cond, ◌&&◌, List, [], length, Some, None, Ok, Err, Option, Result, ◌==◌, nat_le, nat_lt}
use Rattle.queue.specs.Contents.{contents, oldest, rest}
use Rattle.protocol.specs.Limits.{last_turn_number, note_room, notes_per_turn}
use Rattle.protocol.specs.declared.note.Note.{Note}
use Rattle.protocol.specs.declared.entry.Body.TheVariants as body
use Rattle.protocol.specs.declared.refusal.Refusal.{Refusal}
use Rattle.protocol.specs.declared.refusal.Refusal.TheVariants.{WrongTurn}
use Rattle.journal.specs.declared.state.State.{State}
use Rattle.journal.specs.declared.state.State.TheVariants.{Running, Joining, Out}
use Rattle.journal.specs.Journal.{last_turn}
use Rattle.journal.specs.Core.{Core, is_running}
use Rattle.turning.specs.declared.token.Token.{Token}
use Rattle.turning.specs.declared.outbox.Outbox.{Outbox}
use Rattle.turning.specs.Posts.{Posting, after, say_body}
use Rattle.turning.specs.Steps.{Spoken, put_off, chosen, serve, pass_running, pass_joining}

-- whose turn it is, its number, and how many notes may still be said
abbrev pub token : ℕ → ℕ → ℕ → Token
token s t k = record { station = s; turn = t; left = k }

-- ---- opening

-- turn t, from 1 to 1,000,000, is the station's own and comes after its journal's last turn
abbrev pub due : ℕ → Core → Bool
due t m = (nat_lt 0 t && nat_le t last_turn_number) && ((t - 1) % m.roll == m.me && nat_lt (last_turn m.journal) t)

-- step 2: how many notes may be said then, and what was done
abbrev pub open_wish : ℕ → Option (ℕ × ℕ) → Posting → ℕ × Posting
open_wish t None q = (notes_per_turn, q)
open_wish t (Some w) q = (0, after q.1 (serve t w.0 w.1 q.0))

abbrev pub open_on : ℕ → Posting → ℕ × Posting
open_on t q = cond (is_running q.0.state) (open_wish t (chosen q.0) q) (0, q)

-- steps 1 and 2 are for a running station
unfoldable pub open_turn : (ℕ → Bool) → ℕ → Core → ℕ × Posting
open_turn vote t m = cond (is_running m.state) (open_on t (put_off vote t m)) (0, (m, []))

unfoldable pub open_call : (ℕ → Bool) → ℕ → Core → Result Token Refusal × Posting
open_call vote t m =
    cond (due t m)
    (Ok (token m.me t (open_turn vote t m).0), (open_turn vote t m).1)
    (Err WrongTurn, (m, []))

-- ---- saying

-- the notes of an outbox, oldest first
abbrev pub waiting : Outbox → List Note
waiting o = contents o.queue o.notes

-- a token of this station, not older than the journal's last turn
abbrev pub is_own : Token → Core → Bool
is_own k m = k.station == m.me && nat_le (last_turn m.journal) k.turn

abbrev pub may_say : Token → Core → Bool
may_say k m = is_running m.state && (is_own k m && (nat_lt 0 k.left && nat_lt (length m.journal) note_room))

-- the token and whether a note was said, the notes that wait then, and what was done
abbrev pub Said : Type 0
Said = (Token × Bool) × Spoken

abbrev pub said_note : Token → List Note → Core → Option Note → Said
said_note k ns m None = ((k, false), (ns, (m, [])))
said_note k ns m (Some x) = ((token k.station k.turn (k.left - 1), true), (rest ns, say_body k.turn (body.Note x) m))

-- step 3 for one note, or none is due
unfoldable pub say_next : Token → List Note → Core → Said
say_next k ns m = cond (may_say k m) (said_note k ns m (oldest ns)) ((k, false), (ns, (m, [])))

-- ---- passing

-- step 4, or the join frame; a station that is out posts nothing
abbrev pub pass_as : State → Core → Posting
pass_as Running m = pass_running m
pass_as Joining m = pass_joining m
pass_as (Out c) m = (m, [])

-- a token of another station, or an old one, is only ended
unfoldable pub pass_turn : Token → Core → Posting
pass_turn k m = cond (is_own k m) (pass_as m.state m) (m, [])
