-- A whole turn: by its four steps, and by its calls. Assumes nothing.
use Rattle.std.specs.Prelude.{ℕ, zero, suc, Bool, cond, List, [], Some, None, Ok, Err, Option, Result}
use Rattle.protocol.specs.Limits.{notes_per_turn}
use Rattle.protocol.specs.declared.note.Note.{Note}
use Rattle.protocol.specs.declared.frame.Frame.{Frame}
use Rattle.protocol.specs.declared.refusal.Refusal.{Refusal}
use Rattle.protocol.specs.declared.refusal.Refusal.TheVariants.{WrongTurn}
use Rattle.journal.specs.declared.state.State.{State}
use Rattle.journal.specs.declared.state.State.TheVariants.{Running, Joining, Out}
use Rattle.journal.specs.Core.{Core, is_running}
use Rattle.turning.specs.declared.token.Token.{Token}
use Rattle.turning.specs.Posts.{Posting, after}
use Rattle.turning.specs.Steps.{Spoken, after_spoken, put_off, chosen, serve, say_notes, pass_running, pass_joining}
use Rattle.turning.specs.Calls.{token, due, open_turn, say_next, pass_turn}

-- ---- by its steps

-- a wish is served, or else notes are said
abbrev pub serve_or_say : ℕ → Option (ℕ × ℕ) → List Note → Core → Spoken
serve_or_say t (Some w) ns m = (ns, serve t w.0 w.1 m)
serve_or_say t None ns m = say_notes notes_per_turn t ns m

-- what was said, and then the heartbeat
abbrev pub then_pass : Spoken → Spoken
then_pass r = (r.0, after r.1.1 (pass_running r.1.0))

-- the steps after the first, unless the station went out in it
abbrev pub after_put_off : ℕ → List Note → Posting → Spoken
after_put_off t ns q =
    cond (is_running q.0.state)
    (after_spoken q.1 (then_pass (serve_or_say t (chosen q.0) ns q.0)))
    (ns, q)

abbrev pub turn_as : State → (ℕ → Bool) → ℕ → List Note → Core → Spoken
turn_as Running vote t ns m = after_put_off t ns (put_off vote t m)
turn_as Joining vote t ns m = (ns, pass_joining m)
turn_as (Out c) vote t ns m = (ns, (m, []))

-- turn t of a station whose outbox holds the notes ns: the notes that wait then, and what was done
unfoldable pub whole_turn : (ℕ → Bool) → ℕ → List Note → Core → Spoken
whole_turn vote t ns m = turn_as m.state vote t ns m

-- the turn, unless it is not due
unfoldable pub turn_call : (ℕ → Bool) → ℕ → List Note → Core → Result (Unit {0}) Refusal × Spoken
turn_call vote t ns m = cond (due t m) (Ok tt, whole_turn vote t ns m) (Err WrongTurn, (ns, (m, [])))

-- ---- by its calls: it is opened, notes are said until none is due, and it is passed

-- the token then, the notes that wait then, and what was done
abbrev pub Sayings : Type 0
Sayings = Token × Spoken

-- some frames, and then what was said
abbrev pub after_sayings : List Frame → Sayings → Sayings
after_sayings fs r = (r.0, after_spoken fs r.1)

-- says until none is due, at most so many times
unfoldable pub say_all : ℕ → Token → List Note → Core → Sayings
say_all zero k ns m = (k, (ns, (m, [])))
say_all (suc n) k ns m =
    cond (say_next k ns m).0.1
    (after_sayings (say_next k ns m).1.1.1 (say_all n (say_next k ns m).0.0 (say_next k ns m).1.0 (say_next k ns m).1.1.0))
    (k, (ns, (m, [])))

-- the token is passed
abbrev pub passed : Sayings → Spoken
passed r = (r.1.0, after r.1.1.1 (pass_turn r.0 r.1.1.0))

-- a token's notes are said, after what was done in opening, and it is passed
abbrev pub said_and_passed : Token → List Note → Posting → Spoken
said_and_passed k ns q = after_spoken q.1 (passed (say_all k.left k ns q.0))

unfoldable pub turn_by_calls : (ℕ → Bool) → ℕ → List Note → Core → Spoken
turn_by_calls vote t ns m = said_and_passed (token m.me t (open_turn vote t m).0) ns (open_turn vote t m).1
