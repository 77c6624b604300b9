-- What is printed so far and what is left make the whole.
use Rattle.std.proofs.Common.{◌≡◌, ◌-◌, ◌++◌, vec_items}
use Rattle.entries.specs.EntryState.{entries_of}
use Rattle.lines.specs.LineWire.{line_lines}
use Rattle.ring.specs.Meaning.{meaning}
use Rattle.replay.specs.Print.{stations_text}
use Rattle.replay.proofs.stations.append_stations.Given as goal

abbrev pub invariant-loop-at : goal.invariant-loop-at
invariant-loop-at l =
    vec_items l.text ++ stations_text (meaning entries_of line_lines l.ring).stations l.at (l.roll - l.at)
    ≡ vec_items l.initial.text ++ stations_text (meaning entries_of line_lines l.ring).stations 0 l.roll
