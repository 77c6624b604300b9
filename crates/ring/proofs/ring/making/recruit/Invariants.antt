use Rattle.std.proofs.Common.{◌≡◌, ◌-◌, ◌≤◌, ◌++◌, map, vec_items, vec_len, vec_capacity}
use Rattle.station.specs.Meaning.{model}
use Rattle.runs.specs.Rings.{new_stations}
use Rattle.ring.proofs.ring.making.recruit.Given as goal

-- those made so far and those that are left to make are all
abbrev pub invariant-loop-me : goal.invariant-loop-me
invariant-loop-me g l =
    (vec_len l.stations ≡ l.me) × (l.roll ≤ vec_capacity l.stations) ×
    (map (model g.B.Book.means) (vec_items l.stations) ++ new_stations l.roll (g.B.Book.means l.book) l.me (l.roll - l.me) ≡
    new_stations l.roll (g.B.Book.means l.book) 0 l.roll)
