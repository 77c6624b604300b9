-- Taking a frame. Assumes nothing.
use Rattle.std.specs.Prelude.{ℕ, ◌+◌, Bool, cond, ◌&&◌, List, [], ◌∷◌, ◌++◌, length, ◌==◌, nat_lt}
use Rattle.protocol.specs.declared.entry.Body.{Body}
use Rattle.protocol.specs.declared.entry.Body.TheVariants as body
use Rattle.protocol.specs.declared.entry.Entry.{Entry}
use Rattle.protocol.specs.declared.frame.Frame.{Frame}
use Rattle.protocol.specs.declared.frame.Frame.TheVariants as frame
use Rattle.vote.specs.Mask.{has}
use Rattle.journal.specs.declared.state.State.{State}
use Rattle.journal.specs.declared.state.State.TheVariants.{Running, Joining, Out}
use Rattle.journal.specs.declared.state.Cause.TheVariants.{Gap, PutOff}
use Rattle.journal.specs.Journal.{last_turn, holds, matches}
use Rattle.journal.specs.Peers.{raised, heard_one, heard_all, wished}
use Rattle.journal.specs.Core.{Core, with_state, with_journal, with_peers}
use Rattle.journal.specs.Settle.{settle_on}
use Rattle.taking.specs.declared.filing.Filing.{Filing}
use Rattle.taking.specs.declared.filing.Filing.TheVariants.{Held, Next, Ahead, Stray}
use Rattle.taking.specs.Lawful.{lawful}

-- ---- an entry

-- which of the four rules an entry falls under, where the entry before it has the turn `before`
abbrev pub filing : List Entry → Entry → ℕ → Filing
filing j e before =
    cond (holds j e.place e.turn) Held
    (cond (e.place == length j + 1 && before == last_turn j) Next
    (cond (nat_lt (length j + 1) e.place) Ahead Stray))

-- makes the known place of s at least k
abbrev pub raise : ℕ → ℕ → Core → Core
raise s k m = with_peers (raised s k m.peers) m

-- appends an entry of sender s, and raises to its place
abbrev pub append : ℕ → Entry → Core → Core
append s e m = with_journal (m.journal ++ (e ∷ [])) (raise s e.place m)

-- a running station that a view lacks goes out
abbrev pub after_running : Body → Core → Core
after_running (body.Note x) m = m
after_running (body.View mask) m = cond (has mask m.me) m (with_state (Out PutOff) m)

-- a joining station that a view contains runs, all heard marks set
abbrev pub after_joining : Body → Core → Core
after_joining (body.Note x) m = m
after_joining (body.View mask) m = cond (has mask m.me) (with_state Running (with_peers (heard_all m.peers) m)) m

abbrev pub entry_running : Filing → ℕ → Entry → Core → Core
entry_running Held s e m = raise s e.place m
entry_running Next s e m = after_running e.body (append s e m)
entry_running Ahead s e m = with_state (Out Gap) m
entry_running Stray s e m = m

abbrev pub entry_joining : Filing → ℕ → Entry → Core → Core
entry_joining Held s e m = raise s e.place m
entry_joining Next s e m = after_joining e.body (append s e m)
entry_joining Ahead s e m = m
entry_joining Stray s e m = m

-- ---- an end

-- a match raises
abbrev pub raise_match : ℕ → ℕ × ℕ → Core → Core
raise_match s e m = cond (matches m.journal e) (raise s e.0 m) m

-- a match at the own length sets the sender's heard mark too
abbrev pub hear_match : ℕ → ℕ × ℕ → Core → Core
hear_match s e m =
    cond (matches m.journal e && e.0 == length m.journal)
    (with_peers (heard_one s (raised s e.0 m.peers)) m)
    (raise_match s e m)

-- a heartbeat whose place exceeds the length is a gap
abbrev pub heartbeat_running : ℕ → ℕ × ℕ → Core → Core
heartbeat_running s e m = cond (nat_lt (length m.journal) e.0) (with_state (Out Gap) m) (hear_match s e m)

-- the end is kept as the sender's wish
abbrev pub join_running : ℕ → ℕ × ℕ → Core → Core
join_running s e m = raise_match s e (with_peers (wished s e m.peers) m)

-- ---- a frame

-- what a station does with a lawful frame, by its state and the kind of frame
abbrev pub acts : State → Frame → Core → Core
acts Running (frame.Entry s e before) m = entry_running (filing m.journal e before) s e m
acts Running (frame.Heartbeat s e) m = heartbeat_running s e m
acts Running (frame.Join s e) m = join_running s e m
acts Joining (frame.Entry s e before) m = entry_joining (filing m.journal e before) s e m
acts Joining (frame.Heartbeat s e) m = raise_match s e m
acts Joining (frame.Join s e) m = m
acts (Out c) f m = m

abbrev pub received : (ℕ → Bool) → Frame → Core → Core
received vote f m = cond (lawful m.me m.roll vote f) (acts m.state f m) m

-- a station after a frame: the firm count is worked out again, also where the frame was ignored
abbrev pub taken : (ℕ → Bool) → Frame → Core → Core
taken vote f m = settle_on (received vote f m)
