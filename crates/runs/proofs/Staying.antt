-- No rule changes a station's number or its roll; the firm count changes only where it is worked out again, and never falls. Assumes nothing.
use Rattle.std.proofs.Common.{◌≡◌, ℕ, zero, suc, ◌≤◌, Bool, true, false, cond, ◌&&◌, eqb, ltb, List, [], ◌∷◌, length, Some, None, Option, refl, ◌∙◌, arith}
use Rattle.std.proofs.lemmas.Bool.{cond_both}
use Rattle.protocol.specs.declared.note.Note.{Note}
use Rattle.protocol.specs.declared.entry.Body.{Body}
use Rattle.protocol.specs.declared.entry.Body.TheVariants as body
use Rattle.protocol.specs.declared.entry.Entry.{Entry}
use Rattle.protocol.specs.declared.frame.Frame.{Frame}
use Rattle.protocol.specs.declared.frame.Frame.TheVariants as frame
use Rattle.vote.specs.Mask.{has, adding, removing}
use Rattle.journal.specs.declared.state.State.{State}
use Rattle.journal.specs.declared.state.State.TheVariants.{Running, Joining, Out}
use Rattle.journal.specs.declared.state.Cause.TheVariants.{Gap, PutOff}
use Rattle.journal.specs.Journal.{matches}
use Rattle.journal.specs.Peers.{heard_all, wished}
use Rattle.journal.specs.Core.{Core, with_state, with_peers, is_out, is_running}
use Rattle.journal.specs.Settle.{view, settle}
use Rattle.taking.specs.declared.filing.Filing.{Filing}
use Rattle.taking.specs.declared.filing.Filing.TheVariants.{Held, Next, Ahead, Stray}
use Rattle.taking.specs.Lawful.{lawful}
use Rattle.taking.specs.Take.{filing, raise, append, after_running, after_joining, entry_running, entry_joining, raise_match, hear_match, heartbeat_running, acts, received, taken}
use Rattle.turning.specs.Posts.{Posting, say_body}
use Rattle.turning.specs.Steps.{Spoken, after_spoken, gone_of, put_off, chosen, lets_in, serve, say_notes}
use Rattle.turning.specs.Whole.{serve_or_say, then_pass, after_put_off, turn_as, whole_turn}

-- the station's number, its roll and its firm count stay
pub record Stays (m m' : Core) : Type 0 where
  pub me : m'.me ≡ m.me
  pub roll : m'.roll ≡ m.roll
  pub firm : m'.firm ≡ m.firm

pub stays_self : (m : Core) → Stays m m
stays_self m = record { me = refl; roll = refl; firm = refl }

-- ---- taking changes neither the station's number nor its roll, and the firm count only where it is worked out again

stays_cond : (m a b : Core) (c : Bool) → Stays m a → Stays m b → Stays m (cond c a b)
stays_cond m a b true p q = p
stays_cond m a b false p q = q

stays_after_running : (m : Core) (w : Body) → Stays m (after_running w m)
stays_after_running m (body.Note x) = stays_self m
stays_after_running m (body.View v) = stays_cond m m (with_state (Out PutOff) m) (has v m.me) (stays_self m) (record { me = refl; roll = refl; firm = refl })

stays_after_joining : (m : Core) (w : Body) → Stays m (after_joining w m)
stays_after_joining m (body.Note x) = stays_self m
stays_after_joining m (body.View v) =
    stays_cond m (with_state Running (with_peers (heard_all m.peers) m)) m (has v m.me) (record { me = refl; roll = refl; firm = refl }) (stays_self m)

stays_running : (k : Filing) (s : ℕ) (e : Entry) (m : Core) → Stays m (entry_running k s e m)
stays_running Held s e m = record { me = refl; roll = refl; firm = refl }
stays_running Next s e m = let h = stays_after_running (append s e m) e.body in record { me = h.me; roll = h.roll; firm = h.firm }
stays_running Ahead s e m = record { me = refl; roll = refl; firm = refl }
stays_running Stray s e m = stays_self m

stays_joining : (k : Filing) (s : ℕ) (e : Entry) (m : Core) → Stays m (entry_joining k s e m)
stays_joining Held s e m = record { me = refl; roll = refl; firm = refl }
stays_joining Next s e m = let h = stays_after_joining (append s e m) e.body in record { me = h.me; roll = h.roll; firm = h.firm }
stays_joining Ahead s e m = stays_self m
stays_joining Stray s e m = stays_self m

stays_raise_match : (s : ℕ) (e : ℕ × ℕ) (m : Core) → Stays m (raise_match s e m)
stays_raise_match s e m = stays_cond m (raise s e.0 m) m (matches m.journal e) (record { me = refl; roll = refl; firm = refl }) (stays_self m)

stays_heartbeat : (s : ℕ) (e : ℕ × ℕ) (m : Core) → Stays m (heartbeat_running s e m)
stays_heartbeat s e m =
    stays_cond m (with_state (Out Gap) m) (hear_match s e m) (ltb (length m.journal) e.0) (record { me = refl; roll = refl; firm = refl })
    (stays_cond m _ (raise_match s e m) (matches m.journal e && eqb e.0 (length m.journal)) (record { me = refl; roll = refl; firm = refl }) (stays_raise_match s e m))

stays_acts : (q : State) (f : Frame) (m : Core) → Stays m (acts q f m)
stays_acts Running (frame.Entry s e before) m = stays_running (filing m.journal e before) s e m
stays_acts Running (frame.Heartbeat s e) m = stays_heartbeat s e m
stays_acts Running (frame.Join s e) m = let h = stays_raise_match s e (with_peers (wished s e m.peers) m) in record { me = h.me; roll = h.roll; firm = h.firm }
stays_acts Joining (frame.Entry s e before) m = stays_joining (filing m.journal e before) s e m
stays_acts Joining (frame.Heartbeat s e) m = stays_raise_match s e m
stays_acts Joining (frame.Join s e) m = stays_self m
stays_acts (Out c) f m = stays_self m

pub stays_received : (vote : ℕ → Bool) (f : Frame) (m : Core) → Stays m (received vote f m)
stays_received vote f m = stays_cond m (acts m.state f m) m (lawful m.me m.roll vote f) (stays_acts m.state f m) (stays_self m)

-- the number and the roll stay, and the firm count does not fall
pub record Moves (m m' : Core) : Type 0 where
  pub me : m'.me ≡ m.me
  pub roll : m'.roll ≡ m.roll
  pub firm : m.firm ≤ m'.firm

pub moves_still : (m m' : Core) → Stays m m' → Moves m m'
moves_still m m' h = record { me = h.me; roll = h.roll; firm = omega (arith, h.firm) }

pub moves_taken : (vote : ℕ → Bool) (f : Frame) (m : Core) → Moves m (taken vote f m)
moves_taken vote f m =
    let h = stays_received vote f m in
    cond_both (is_out (received vote f m).state) (received vote f m) (settle (received vote f m)) (Moves m)
    (λ _. moves_still m (received vote f m) h) (λ _. record { me = h.me; roll = h.roll; firm = omega (arith, h.firm) })

-- ---- a turn
module _ (t : ℕ) where
  pub stays_serve : (k p : ℕ) (m : Core) → Stays m (serve t k p m).0
  unfolding serve
  stays_serve k p m =
      cond_both (lets_in (length m.journal) p) (say_body t (body.View (adding (view m) k)) m) (m, []) (λ (q : Posting). Stays m q.0)
      (λ _. record { me = refl; roll = refl; firm = refl }) (λ _. stays_self m)

  pub stays_notes : (k : ℕ) (notes : List Note) (m : Core) → Stays m (say_notes k t notes m).1.0
  unfolding say_notes
  stays_notes zero notes m = stays_self m
  stays_notes (suc k) [] m = stays_self m
  stays_notes (suc k) (note ∷ notes) m =
      cond_both (ltb (length m.journal) 240)
      (after_spoken (say_body t (body.Note note) m).1 (say_notes k t notes (say_body t (body.Note note) m).0)) (note ∷ notes, (m, [])) (λ (r : Spoken). Stays m r.1.0)
      (λ _. let h = stays_notes k notes (say_body t (body.Note note) m).0 in record { me = h.me; roll = h.roll; firm = h.firm })
      (λ _. stays_self m)

  pub stays_third : (o : Option (ℕ × ℕ)) (ns : List Note) (m : Core) → Stays m (serve_or_say t o ns m).1.0
  stays_third (Some w) ns m = stays_serve w.0 w.1 m
  stays_third None ns m = stays_notes 8 ns m

  pub stays_put_off : (vote : ℕ → Bool) (m : Core) → Stays m (put_off vote t m).0
  unfolding put_off
  stays_put_off vote m =
      cond_both (eqb (gone_of m) 0) _ _ (λ (q : Posting). Stays m q.0) (λ _. stays_self m)
      (λ _. cond_both (vote (removing (view m) (gone_of m))) _ _ (λ (q : Posting). Stays m q.0)
      (λ _. cond_both (ltb (length m.journal) 256) _ _ (λ (q : Posting). Stays m q.0)
      (λ _. record { me = refl; roll = refl; firm = refl }) (λ _. record { me = refl; roll = refl; firm = refl }))
      (λ _. record { me = refl; roll = refl; firm = refl }))

  moved_rest : (m : Core) (ns : List Note) (q : Posting) → Stays m q.0 → Moves m (after_put_off t ns q).1.0
  moved_rest m ns q h =
      let g = stays_third (chosen q.0) ns q.0 in
      cond_both (is_running q.0.state) (after_spoken q.1 (then_pass (serve_or_say t (chosen q.0) ns q.0))) (ns, q) (λ (r : Spoken). Moves m r.1.0)
      (λ _. record { me = g.me ∙ h.me; roll = g.roll ∙ h.roll; firm = omega (arith, g.firm, h.firm) })
      (λ _. moves_still m q.0 h)

  pub moves_turn : (vote : ℕ → Bool) (ns : List Note) (m : Core) → Moves m (whole_turn vote t ns m).1.0
  unfolding whole_turn
  moves_turn vote ns m = go m.state
    where
      go : (q : State) → Moves m (turn_as q vote t ns m).1.0
      go Running = moved_rest m ns (put_off vote t m) (stays_put_off vote m)
      go Joining = record { me = refl; roll = refl; firm = omega arith }
      go (Out c) = moves_still m m (stays_self m)
