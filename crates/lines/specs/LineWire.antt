-- The lines of a wire that keeps a queue for each station. Assumes nothing.
use Rattle.std.specs.Prelude.{ℕ, ◌+◌, ◌*◌, cond, List, [], vec_items, nat_lt, slice_index_or}
use Rattle.std.specs.List.{between}
use Rattle.protocol.specs.Limits.{line_places}
use Rattle.queue.specs.Contents.{contents, vacant}
use Rattle.queue.specs.declared.Queue.{Queue}
use Rattle.lines.specs.declared.line_wire.LineWire.{LineWire}
use Rattle.wires.specs.Lines.{Lines}

-- the 32 places that are lent to the queue of station s
abbrev pub places_of : {T : Type 0} → List T → ℕ → List T
places_of places s = between (s * line_places) (s * line_places + line_places) places

-- the line of station s, of so many stations
abbrev pub line_at : {T : Type 0} → ℕ → List Queue → List T → ℕ → List T
line_at roll queues places s = cond (nat_lt s roll) (contents (slice_index_or queues s vacant) (places_of places s)) []

abbrev pub line_lines : {T : Type 0} → LineWire T → Lines T
line_lines w = record { roll = w.roll; at = line_at w.roll w.queues (vec_items w.places) }
