-- What a frame says of itself. Assumes nothing.
use Rattle.std.specs.Prelude.{ℕ}
use Rattle.protocol.specs.declared.frame.Frame.{Frame}
use Rattle.protocol.specs.declared.frame.Frame.TheVariants.{Entry, Heartbeat, Join}

-- the station that posted it
abbrev pub sender_of : Frame → ℕ
sender_of (Entry s _ _) = s
sender_of (Heartbeat s _) = s
sender_of (Join s _) = s
