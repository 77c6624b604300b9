-- Worked examples of runs, computed. Assumes nothing.
use Rattle.std.specs.Prelude.{◌≡◌, ℕ, List, [], ◌∷◌, ◌++◌, map}
use Rattle.protocol.specs.declared.note.Note.{Note}
use Rattle.protocol.specs.declared.entry.Body.TheVariants as body
use Rattle.protocol.specs.declared.entry.Entry.{Entry}
use Rattle.vote.specs.Majority.{majority, heads}
use Rattle.runs.specs.declared.call.Call.{Call}
use Rattle.runs.specs.declared.call.Call.TheVariants.{Note as PutNote, Turn, Take, Stop}
use Rattle.runs.specs.Rings.{Rules, Ring, run, new_ring}
use Rattle.runs.specs.Promises.{Calm, ThreeRounds}

-- n stations that vote by heads, with books that keep every note
abbrev pub by_heads : ℕ → Rules (List Note)
by_heads n = record { size = n; vote = majority (heads n); next = λ b note. b ++ note ∷ [] }

-- the ring after some calls on a new one with empty books
abbrev pub ran : ℕ → List Call → Ring (List Note)
ran n calls = run (by_heads n) (new_ring (by_heads n) []) calls

abbrev pub firm_counts : Ring (List Note) → List ℕ
firm_counts r = map (λ x. x.core.firm) r.stations

abbrev pub journals : Ring (List Note) → List (List Entry)
journals r = map (λ x. x.core.journal) r.stations

abbrev pub a_note : Note
a_note = record { a = 1; b = 70; c = 500000; d = 1200 }

-- station 0 is stopped first, and all frames are taken
abbrev pub stopped_first : List Call
stopped_first = Stop 0 ∷ Turn ∷ Turn ∷ Take 2 ∷ Turn ∷ Take 1 ∷ Turn ∷ Turn ∷ Take 2 ∷ Take 2 ∷ []

abbrev pub view_6 : List Entry
view_6 = record { place = 1; turn = 5; body = body.View 6 } ∷ []

pub record RunExamples : Type 0 where
  -- a ring of one: a note and a turn give firm count 1
  pub alone : firm_counts (ran 1 (PutNote 0 a_note ∷ Turn ∷ [])) ≡ 1 ∷ []
  -- of three, with station 0 stopped first: turn 5 makes view 6
  pub put_off : journals (ran 3 stopped_first) ≡ [] ∷ view_6 ∷ view_6 ∷ []

-- station 1 says a note, and station 0 stops before it has told that it holds it
abbrev pub up_to_stop : List Call
up_to_stop = PutNote 1 a_note ∷ Turn ∷ Take 1 ∷ Take 2 ∷ Turn ∷ Take 0 ∷ Take 0 ∷ Take 2 ∷ Take 2 ∷ Stop 0 ∷ []

-- three rounds on
abbrev pub after_stop : List Call
after_stop = Turn ∷ Take 1 ∷ Turn ∷ Turn ∷ Take 2 ∷ Take 2 ∷ Turn ∷ Take 1 ∷ Turn ∷ Turn ∷ Take 2 ∷ Turn ∷ Take 1 ∷ Turn ∷ Turn ∷ Take 2 ∷ []

-- what is asked of a calm run that settles can be met, with a stop, and firm counts rise in it
pub record CalmExample : Type 0 where
  pub calm : Calm (by_heads 3) (new_ring (by_heads 3) []) (up_to_stop ++ after_stop)
  pub rounds : ThreeRounds (by_heads 3) [] (up_to_stop ++ after_stop)
  pub firm_before : firm_counts (ran 3 up_to_stop) ≡ 0 ∷ 0 ∷ 0 ∷ []
  pub firm_after : firm_counts (ran 3 (up_to_stop ++ after_stop)) ≡ 0 ∷ 2 ∷ 2 ∷ []
