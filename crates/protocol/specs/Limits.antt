-- Every limit of the rules, named once. Assumes nothing.
use Rattle.std.specs.Prelude.{Bool, ◌&&◌, ℕ, nat_le}

-- the most stations of a roll
abbrev pub max_stations : ℕ
max_stations = 8

-- a roll has 1 to 8 stations
abbrev pub roll_fits : ℕ → Bool
roll_fits n = nat_le 1 n && nat_le n max_stations

-- the frames that a line has room for
abbrev pub line_places : ℕ
line_places = 32

-- the places of a pool that serves all lines
abbrev pub pool_places : ℕ
pool_places = 256

-- the entries that a journal has room for
abbrev pub journal_places : ℕ
journal_places = 256

-- the notes that an outbox has room for
abbrev pub outbox_places : ℕ
outbox_places = 16

-- a note is appended only to a journal shorter than this
abbrev pub note_room : ℕ
note_room = 240

-- the most notes that a station says in one turn
abbrev pub notes_per_turn : ℕ
notes_per_turn = 8

-- the most entries that are posted again for one wish
abbrev pub resent_per_turn : ℕ
resent_per_turn = 8

-- the last turn's number
abbrev pub last_turn_number : ℕ
last_turn_number = 1000000

-- the largest weight of a station
abbrev pub max_weight : ℕ
max_weight = 100
