-- Which frames a station acts on; it ignores any other. Assumes nothing.
use Rattle.std.specs.Prelude.{ℕ, ◌^◌, Bool, true, ◌&&◌, ◌||◌, nat_le, nat_lt}
use Rattle.protocol.specs.Limits.{journal_places, last_turn_number}
use Rattle.protocol.specs.declared.entry.Body.{Body}
use Rattle.protocol.specs.declared.entry.Body.TheVariants as body
use Rattle.protocol.specs.declared.frame.Frame.{Frame}
use Rattle.protocol.specs.declared.frame.Frame.TheVariants as frame
use Rattle.journal.specs.Journal.{is_start}
use Rattle.journal.specs.Core.{other}

-- a place is 1 to 256, and a turn 1 to 1,000,000
abbrev pub in_range : ℕ → ℕ → Bool
in_range p t = (nat_lt 0 p && nat_le p journal_places) && (nat_lt 0 t && nat_le t last_turn_number)

-- an end is (0, 0), or a place and a turn
abbrev pub end_in_range : ℕ × ℕ → Bool
end_in_range e = is_start e || in_range e.0 e.1

-- a view is on the roll and has the vote
abbrev pub body_lawful : ℕ → (ℕ → Bool) → Body → Bool
body_lawful roll vote (body.Note x) = true
body_lawful roll vote (body.View mask) = nat_lt mask (2 ^ roll) && vote mask

-- the sender is another station of the roll, and what it sends is in range
abbrev pub lawful : ℕ → ℕ → (ℕ → Bool) → Frame → Bool
lawful me roll vote (frame.Entry s e before) = other me roll s && (in_range e.place e.turn && body_lawful roll vote e.body)
lawful me roll vote (frame.Heartbeat s e) = other me roll s && end_in_range e
lawful me roll vote (frame.Join s e) = other me roll s && end_in_range e

-- the place that a frame names
abbrev pub place_of : Frame → ℕ
place_of (frame.Entry s e before) = e.place
place_of (frame.Heartbeat s e) = e.0
place_of (frame.Join s e) = e.0
