-- Station by station.
use Rattle.std.proofs.Common.{rules, ◌≡◌, ◌++◌, vec_items, arith}
use Rattle.std.specs.List.{slice_get}
use Rattle.entries.specs.EntryState.{entries_of}
use Rattle.lines.specs.LineWire.{line_lines}
use Rattle.ring.specs.Meaning.{meaning}
use Rattle.replay.specs.Print.{station_text}
use Rattle.replay.proofs.Texts.{grow, station_more}
use Rattle.replay.proofs.stations.append_stations.Goals as goal
use Rattle.replay.proofs.stations.append_stations.Goals.{in-Ok+in_ok-append_station, in_default}

pub loop-at-preserved : goal.loop-at-preserved
loop-at-preserved c =
    let xs = (meaning entries_of line_lines c.args.ring.now).stations in
    let at = c.loop-at.at in
    let grown : vec_items c.match-station.text ≡ vec_items c.loop-at.text ++ station_text at (slice_get xs at) =
    elim c.match-station.branch [ in-Ok+in_ok-append_station w ↦ search rules | in_default w ↦ search rules ] in
    grow _ _ _ _ _ _ (station_more xs at c.args.roll (omega arith)) grown c.loop-at.invariant
