-- What the rules keep, whatever is called. Assumes nothing.
use Rattle.std.specs.Prelude.{◌≡◌, ℕ, ◌≤◌, Bool, true, false, List, ◌++◌, length}
use Rattle.protocol.specs.declared.note.Note.{Note}
use Rattle.protocol.specs.declared.entry.Entry.{Entry}
use Rattle.protocol.specs.declared.frame.Frame.{Frame}
use Rattle.protocol.specs.declared.frame.Frame.TheVariants as frame
use Rattle.journal.specs.declared.state.State.TheVariants.{Running, Joining, Out}
use Rattle.journal.specs.declared.state.Cause.TheVariants.{Stopped}
use Rattle.journal.specs.Journal.{last_turn}
use Rattle.journal.specs.Peers.{peer_at}
use Rattle.journal.specs.Core.{Core, with_state, new_core, is_out}
use Rattle.journal.specs.Settle.{fed, known_to_all}
use Rattle.taking.specs.declared.filing.Filing.TheVariants.{Stray}
use Rattle.taking.specs.Lawful.{lawful}
use Rattle.taking.specs.Take.{filing, acts, received, taken}
use Rattle.turning.specs.declared.token.Token.{Token}
use Rattle.turning.specs.Calls.{open_call, say_next, pass_turn}
use Rattle.turning.specs.Whole.{whole_turn, turn_call, turn_by_calls}
use Rattle.station.specs.Model.{Model, new_model, firm_part}
use Rattle.station.specs.Rules.{entered, noted, stopped, took, enters, open_station, say_station, pass_station, turn_station}
use Rattle.station.specs.Sound.{is_sound}

-- opening, saying until none is due, and passing come to the whole turn, in any turn that no entry of the journal is younger than
abbrev pub TurnByCalls : Type 0
TurnByCalls = (vote : ℕ → Bool) (t : ℕ) (ns : List Note) (m : Core) → last_turn m.journal ≤ t → turn_by_calls vote t ns m ≡ whole_turn vote t ns m

-- a turn posts at most 11 frames
abbrev pub FewFrames : Type 0
FewFrames = (vote : ℕ → Bool) (t : ℕ) (ns : List Note) (m : Core) → length (whole_turn vote t ns m).1.1 ≤ 11

-- how a station can become another
pub record Grown (m x : Core) : Type 0 where
  pub me : x.me ≡ m.me
  pub roll : x.roll ≡ m.roll
  -- the journal grows at its end alone
  pub more : List Entry
  pub journal : x.journal ≡ m.journal ++ more
  -- the firm count never falls, and never passes the length
  pub firm : m.firm ≤ x.firm
  pub within : m.firm ≤ length m.journal → x.firm ≤ length x.journal
  -- known places only rise
  pub known : (s : ℕ) → (peer_at m.peers s).known ≤ (peer_at x.peers s).known
  -- they never pass the length, and every entry has its place
  pub sound : is_sound m ≡ true → is_sound x ≡ true

-- each call does so
pub record CallsGrow : Type 0 where
  pub by_taking : (vote : ℕ → Bool) (f : Frame) (m : Core) → Grown m (taken vote f m)
  pub by_opening : (vote : ℕ → Bool) (t : ℕ) (m : Core) → Grown m (open_call vote t m).1.0
  pub by_saying : (k : Token) (ns : List Note) (m : Core) → Grown m (say_next k ns m).1.1.0
  pub by_passing : (k : Token) (m : Core) → Grown m (pass_turn k m).0
  pub by_turning : (vote : ℕ → Bool) (t : ℕ) (ns : List Note) (m : Core) → Grown m (turn_call vote t ns m).1.1.0
  pub by_entering : (m : Core) → Grown m (entered m)
  pub by_stopping : (m : Core) → Grown m (with_state (Out Stopped) m)

-- the book is the starting book b fed with the notes of the firm part, in order, and the firm count is within the journal
pub record Fed {S : Type 0} (next : S → Note → S) (b : S) (x : Model S) : Type 0 where
  pub within : x.core.firm ≤ length x.core.journal
  pub book : x.book ≡ fed next b (firm_part x.core)

-- so it is in a new station, and each call keeps it
pub record BooksFollow (S : Type 0) : Type 0 where
  pub at_first : (next : S → Note → S) (b : S) (me roll : ℕ) → Fed next b (new_model me roll b)
  pub by_noting : (next : S → Note → S) (b : S) (x : Model S) (n : Note) → Fed next b x → Fed next b (noted n x)
  pub by_taking : (next : S → Note → S) (b : S) (x : Model S) (vote : ℕ → Bool) (f : Frame) → Fed next b x → Fed next b (took next vote f x)
  pub by_opening : (next : S → Note → S) (b : S) (x : Model S) (vote : ℕ → Bool) (t : ℕ) → Fed next b x → Fed next b (open_station vote t x).1.0
  pub by_saying : (next : S → Note → S) (b : S) (x : Model S) (k : Token) → Fed next b x → Fed next b (say_station k x).1.0
  pub by_passing : (next : S → Note → S) (b : S) (x : Model S) (k : Token) → Fed next b x → Fed next b (pass_station next k x).0
  pub by_turning : (next : S → Note → S) (b : S) (x : Model S) (vote : ℕ → Bool) (t : ℕ) → Fed next b x → Fed next b (turn_station next vote t x).1.0
  pub by_stopping : (next : S → Note → S) (b : S) (x : Model S) → Fed next b x → Fed next b (stopped x)
  pub by_entering : (next : S → Note → S) (b : S) (x : Model S) → Fed next b x → Fed next b (enters next x)

-- a frame that is ignored leaves the station as it was: settling changes nothing where nothing more can be made firm
pub record IgnoredFrames : Type 0 where
  pub nothing : (vote : ℕ → Bool) (f : Frame) (m : Core) → received vote f m ≡ m → known_to_all m ≤ m.firm → taken vote f m ≡ m
  pub unlawful : (vote : ℕ → Bool) (f : Frame) (m : Core) → lawful m.me m.roll vote f ≡ false → received vote f m ≡ m
  pub stray_running : (s before : ℕ) (e : Entry) (m : Core) → filing m.journal e before ≡ Stray → acts Running (frame.Entry s e before) m ≡ m
  pub stray_joining : (s before : ℕ) (e : Entry) (m : Core) → filing m.journal e before ≡ Stray → acts Joining (frame.Entry s e before) m ≡ m
  pub join_joining : (s : ℕ) (e : ℕ × ℕ) (m : Core) → acts Joining (frame.Join s e) m ≡ m

-- nothing more can be made firm at a station that is not out
abbrev pub Settled : Core → Type 0
Settled m = is_out m.state ≡ false → known_to_all m ≤ m.firm

-- so it is in a new station, and each call of a ring keeps it (a note leaves the core as it is)
pub record CallsSettle : Type 0 where
  pub at_first : (me roll : ℕ) → Settled (new_core me roll)
  pub by_taking : (vote : ℕ → Bool) (f : Frame) (m : Core) → Settled (taken vote f m)
  pub by_turning : (vote : ℕ → Bool) (t : ℕ) (ns : List Note) (m : Core) → Settled m → Settled (turn_call vote t ns m).1.1.0
  pub by_stopping : (m : Core) → Settled (with_state (Out Stopped) m)
  pub by_entering : (m : Core) → Settled (entered m)
