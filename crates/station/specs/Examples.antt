-- Worked examples of the rules. Assumes nothing.
use Rattle.std.specs.Prelude.{◌≡◌, ℕ, Bool, true, false, List, [], ◌∷◌, Some, None, nat_eq}
use Rattle.protocol.specs.declared.note.Note.{Note}
use Rattle.protocol.specs.declared.entry.Body.{Body}
use Rattle.protocol.specs.declared.entry.Body.TheVariants as body
use Rattle.protocol.specs.declared.entry.Entry.{Entry}
use Rattle.protocol.specs.declared.frame.Frame.TheVariants as frame
use Rattle.journal.specs.declared.state.State.TheVariants.{Running, Out}
use Rattle.journal.specs.declared.state.Cause.TheVariants.{Gap}
use Rattle.journal.specs.declared.peer.Peer.{Peer}
use Rattle.journal.specs.Peers.{new_peers}
use Rattle.journal.specs.Core.{Core, with_state, new_core}
use Rattle.taking.specs.Take.{taken}
use Rattle.turning.specs.Whole.{whole_turn}

abbrev note : Note
note = record { a = 1; b = 70; c = 500000; d = 1200 }

abbrev entry_of : ℕ → ℕ → Body → Entry
entry_of p t b = record { place = p; turn = t; body = b }

abbrev note_at : ℕ → ℕ → Entry
note_at p t = entry_of p t (body.Note note)

abbrev heard_peer : Bool → Peer
heard_peer h = record { heard = h; known = 0; wish = None }

abbrev wishing : Peer
wishing = record { heard = true; known = 0; wish = Some (0, 0) }

-- station `me` of three, running, with nothing in its journal
abbrev of_three : ℕ → List Peer → Core
of_three me ps = record { me = me; roll = 3; state = Running; journal = []; firm = 0; peers = ps }

-- station 0 of three, running, with four entries
abbrev four : Core
four = record { me = 0; roll = 3; state = Running; journal = note_at 1 1 ∷ note_at 2 1 ∷ note_at 3 2 ∷ note_at 4 3 ∷ []; firm = 0; peers = new_peers }

abbrev all_vote : ℕ → Bool
all_vote m = true

pub record StationExamples : Type 0 where
  -- a running station of length 4 takes place 6 as a gap, and goes out
  pub place_six : taken all_vote (frame.Entry 1 (note_at 6 4) 3) four ≡ with_state (Out Gap) four
  -- and it ignores place 5 after another turn
  pub place_five : taken all_vote (frame.Entry 1 (note_at 5 4) 2) four ≡ four
  -- a ring of one: a note and a turn make it firm
  pub alone : (whole_turn (λ m. nat_eq m 1) 1 (note ∷ []) (new_core 0 1)).1.0.firm ≡ 1
  -- of three, station 0 not heard: turn 5 makes the view 6, then the heartbeat
  pub put_off_first : (whole_turn (λ m. nat_eq m 6) 5 [] (of_three 1 (heard_peer false ∷ heard_peer false ∷ heard_peer true ∷ []))).1.1
      ≡ frame.Entry 1 (entry_of 1 5 (body.View 6)) 0 ∷ frame.Heartbeat 1 (1, 5) ∷ []
  -- nobody is put off beyond the first one heard: station 2 was heard, station 1 was not
  pub heard_stops : (whole_turn all_vote 1 [] (of_three 0 (heard_peer false ∷ heard_peer false ∷ heard_peer true ∷ []))).1.1 ≡ frame.Heartbeat 0 (0, 0) ∷ []
  -- a wish is served in the place of notes
  pub wish_first : (whole_turn all_vote 5 (note ∷ []) (of_three 1 (wishing ∷ heard_peer true ∷ heard_peer true ∷ []))).1.1
      ≡ frame.Entry 1 (entry_of 1 5 (body.View 7)) 0 ∷ frame.Heartbeat 1 (1, 5) ∷ []
