-- Where nobody joins, the running stations only get fewer; so in a calm run they have the vote at all times.
use Rattle.std.proofs.Common.{◌≡◌, ℕ, zero, suc, Bool, true, ◌&&◌, eqb, ltb, ◌⊎◌, List, [], ◌∷◌, length, set, Some, None, Option, sym, refl, ap, ◌∙◌, subst, inl, inr, arith}
use Rattle.std.specs.List.{slice_get}
use Rattle.std.proofs.lemmas.Bool.{cond_both, false≢true}
use Rattle.protocol.specs.declared.note.Note.{Note}
use Rattle.protocol.specs.declared.entry.Body.{Body}
use Rattle.protocol.specs.declared.entry.Body.TheVariants.{Note as NoteBody, View}
use Rattle.protocol.specs.declared.entry.Entry.{Entry}
use Rattle.protocol.specs.declared.frame.Frame.{Frame}
use Rattle.protocol.specs.declared.frame.Frame.TheVariants.{Entry as EntryFrame, Heartbeat, Join}
use Rattle.vote.specs.Mask.{has, adding, removing}
use Rattle.journal.specs.declared.state.Cause.{Cause}
use Rattle.journal.specs.declared.state.Cause.TheVariants.{Stopped, Gap, PutOff, Outvoted, Full}
use Rattle.journal.specs.declared.state.State.{State}
use Rattle.journal.specs.declared.state.State.TheVariants.{Running, Joining, Out}
use Rattle.journal.specs.Journal.{matches}
use Rattle.journal.specs.Peers.{wished}
use Rattle.journal.specs.Core.{Core, with_state, with_peers, is_running, is_out}
use Rattle.journal.specs.Settle.{view, settle}
use Rattle.taking.specs.declared.filing.Filing.{Filing}
use Rattle.taking.specs.declared.filing.Filing.TheVariants.{Held, Next, Ahead, Stray}
use Rattle.taking.specs.Lawful.{lawful}
use Rattle.taking.specs.Take.{filing, raise, append, after_running, entry_running, raise_match, hear_match, acts, received, taken}
use Rattle.turning.specs.Posts.{Posting, say_body}
use Rattle.turning.specs.Steps.{Spoken, after_spoken, gone_of, put_off, chosen, lets_in, serve, say_notes}
use Rattle.turning.specs.Whole.{serve_or_say, then_pass, after_put_off, turn_as, whole_turn}
use Rattle.station.specs.Model.{Model}
use Rattle.station.specs.Rules as station
use Rattle.runs.specs.declared.call.Call.{Call}
use Rattle.runs.specs.Masks.{mask_of}
use Rattle.runs.specs.Rings.{Rules, Ring, Answer, step}
use Rattle.runs.specs.Promises.{Laws, Is, running, RunningVote, CalmCall, Calm}
use Rattle.runs.proofs.MaskFacts.{has_mask, mask_below, within_roll}
use Rattle.runs.proofs.Lookup.{nth_set}
use Rattle.runs.proofs.Steps.{take_frame, Steps, refused, noted, turns, takes, loses, stops, enters, steps}

-- a state stays, or becomes out
abbrev pub Falls : State → State → Type 0
Falls q q' = (q' ≡ q) ⊎ ((c : Cause) × (q' ≡ Out c))

abbrev pub NotJoining : State → Type 0
NotJoining Running = Unit {0}
NotJoining Joining = ⊥
NotJoining (Out _) = Unit {0}

-- ---- taking

abbrev Down : Core → Core → Type 0
Down m c = Falls m.state c.state

falls_entry : (k : Filing) (s : ℕ) (e : Entry) (m : Core) → Down m (entry_running k s e m)
falls_entry Held s e m = inl refl
falls_entry Next s e m = go e.body
  where
    go : (b : Body) → Down m (after_running b (append s e m))
    go (NoteBody _) = inl refl
    go (View v) = cond_both (has v m.me) (append s e m) (with_state (Out PutOff) (append s e m)) (Down m) (λ _. inl refl) (λ _. inr (PutOff, refl))
falls_entry Ahead s e m = inr (Gap, refl)
falls_entry Stray s e m = inl refl

falls_raise_match : (s : ℕ) (e : ℕ × ℕ) (m : Core) → Down m (raise_match s e m)
falls_raise_match s e m = cond_both (matches m.journal e) (raise s e.0 m) m (Down m) (λ _. inl refl) (λ _. inl refl)

falls_running : (f : Frame) (m : Core) → Down m (acts Running f m)
falls_running (EntryFrame s e before) m = falls_entry (filing m.journal e before) s e m
falls_running (Heartbeat s e) m =
    cond_both (ltb (length m.journal) e.0) (with_state (Out Gap) m) (hear_match s e m) (Down m) (λ _. inr (Gap, refl))
    (λ _. cond_both (matches m.journal e && eqb e.0 (length m.journal)) _ (raise_match s e m) (Down m) (λ _. inl refl) (λ _. falls_raise_match s e m))
falls_running (Join s e) m = falls_raise_match s e (with_peers (wished s e m.peers) m)

falls_acts : (q : State) (f : Frame) (m : Core) → NotJoining q → Down m (acts q f m)
falls_acts Running f m nj = falls_running f m
falls_acts Joining f m nj = absurd nj
falls_acts (Out c) f m nj = inl refl

pub falls_taken : (vote : ℕ → Bool) (f : Frame) (m : Core) → NotJoining m.state → Down m (taken vote f m)
falls_taken vote f m nj = cond_both (is_out (received vote f m).state) (received vote f m) (settle (received vote f m)) (Down m) (λ _. got) (λ _. got)
  where
    got : Down m (received vote f m)
    got = cond_both (lawful m.me m.roll vote f) (acts m.state f m) m (Down m) (λ _. falls_acts m.state f m nj) (λ _. inl refl)

-- ---- the turn

module _ (t : ℕ) where
  falls_put_off : (vote : ℕ → Bool) (m : Core) → Down m (put_off vote t m).0
  unfolding put_off
  falls_put_off vote m =
      cond_both (eqb (gone_of m) 0) _ _ (λ (q : Posting). Down m q.0) (λ _. inl refl)
      (λ _. cond_both (vote (removing (view m) (gone_of m))) _ _ (λ (q : Posting). Down m q.0)
      (λ _. cond_both (ltb (length m.journal) 256) _ _ (λ (q : Posting). Down m q.0) (λ _. inl refl) (λ _. inr (Full, refl)))
      (λ _. inr (Outvoted, refl)))

  notes_state : (k : ℕ) (notes : List Note) (m : Core) → (say_notes k t notes m).1.0.state ≡ m.state
  unfolding say_notes
  notes_state zero notes m = refl
  notes_state (suc k) [] m = refl
  notes_state (suc k) (note ∷ notes) m =
      cond_both (ltb (length m.journal) 240) (after_spoken (say_body t (NoteBody note) m).1 (say_notes k t notes (say_body t (NoteBody note) m).0)) (note ∷ notes, (m, []))
      (λ (r : Spoken). r.1.0.state ≡ m.state) (λ _. notes_state k notes (say_body t (NoteBody note) m).0) (λ _. refl)

  third_state : (o : Option (ℕ × ℕ)) (ns : List Note) (m : Core) → (serve_or_say t o ns m).1.0.state ≡ m.state
  unfolding serve
  third_state None ns m = notes_state 8 ns m
  third_state (Some w) ns m =
      cond_both (lets_in (length m.journal) w.1) (say_body t (View (adding (view m) w.0)) m) (m, []) (λ (q : Posting). q.0.state ≡ m.state) (λ _. refl) (λ _. refl)

  falls_rest : (m : Core) (ns : List Note) (q : Posting) → Down m q.0 → Down m (after_put_off t ns q).1.0
  falls_rest m ns q h =
      cond_both (is_running q.0.state) (after_spoken q.1 (then_pass (serve_or_say t (chosen q.0) ns q.0))) (ns, q) (λ (r : Spoken). Down m r.1.0)
      (λ _. subst (Falls m.state) (sym (third_state (chosen q.0) ns q.0)) h) (λ _. h)

  pub falls_turn : (vote : ℕ → Bool) (ns : List Note) (m : Core) → Down m (whole_turn vote t ns m).1.0
  unfolding whole_turn
  falls_turn vote ns m = go m.state
    where
      go : (q : State) → Down m (turn_as q vote t ns m).1.0
      go Running = falls_rest m ns (put_off vote t m) (falls_put_off vote m)
      go Joining = inl refl
      go (Out c) = inl refl

-- ---- the ring

module _ {S : Type 0} (R : Rules S) where
  -- every station of r' is one of r whose state stayed or fell
  pub record Fewer (r r' : Ring S) : Type 0 where
    pub joins : (s : ℕ) (y : Model S) → Is r' s y → NotJoining y.core.state
    pub was : (s : ℕ) (y : Model S) → Is r' s y → y.core.state ≡ Running → (x : Model S) × Is r s x × (x.core.state ≡ Running)

  abbrev pub NoJoining : Ring S → Type 0
  NoJoining r = (s : ℕ) (x : Model S) → Is r s x → NotJoining x.core.state

  still : (q q' : State) → Falls q q' → NotJoining q → NotJoining q'
  still q q' (inl e) nj = subst NotJoining (sym e) nj
  still q q' (inr c) nj = subst NotJoining (sym c.1) tt

  ran : (q q' : State) → Falls q q' → q' ≡ Running → q ≡ Running
  ran q q' (inl e) h = sym e ∙ h
  ran q q' (inr c) h = let z : ◌≡◌ {A = ℕ} 0 1 = cc (c.1, h) in absurd (omega (arith, z))

  fewer_same : (r r' : Ring S) → r'.stations ≡ r.stations → NoJoining r → Fewer r r'
  fewer_same r r' e nj = record {
    joins = λ s y i. nj s y (subst (λ xs. slice_get xs s ≡ Some y) e i);
    was = λ s y i h. (y, subst (λ xs. slice_get xs s ≡ Some y) e i, h);
  }

  fewer_set : (r r' : Ring S) (s : ℕ) (x y : Model S) → Is r s x → r'.stations ≡ set r.stations s y → Falls x.core.state y.core.state → NoJoining r → Fewer r r'
  fewer_set r r' s x y i e d nj = record { joins = λ m z j. joins m z (cases m z j); was = λ m z j h. was m z h (cases m z j) }
    where
      cases : (m : ℕ) (z : Model S) → Is r' m z → ((m ≡ s) × (z ≡ y)) ⊎ ((m ≡ s → ⊥) × Is r m z)
      cases m z j = nth_set r.stations s m y z (subst (λ xs. slice_get xs m ≡ Some z) e j)

      joins : (m : ℕ) (z : Model S) → ((m ≡ s) × (z ≡ y)) ⊎ ((m ≡ s → ⊥) × Is r m z) → NotJoining z.core.state
      joins m z (inl h) = subst (λ (w : Model S). NotJoining w.core.state) (sym h.1) (still x.core.state y.core.state d (nj s x i))
      joins m z (inr h) = nj m z h.1

      was : (m : ℕ) (z : Model S) → z.core.state ≡ Running → ((m ≡ s) × (z ≡ y)) ⊎ ((m ≡ s → ⊥) × Is r m z) → (w : Model S) × Is r m w × (w.core.state ≡ Running)
      was m z g (inl h) = (x, subst (λ k. Is r k x) (sym h.0) i, ran x.core.state y.core.state d (ap (λ (w : Model S). w.core.state) (sym h.1) ∙ g))
      was m z g (inr h) = (z, h.1, g)

  fewer_steps : (r : Ring S) (c : Call) (a : Answer S) → Steps R r c a → (a.0 ≡ 0 → CalmCall R r c) → NoJoining r → Fewer r a.1
  fewer_steps r c a (refused k) calm nj = fewer_same r r refl nj
  fewer_steps r c a (noted s note x i o) calm nj = fewer_set r _ s x (station.noted note x) i refl (inl refl) nj
  fewer_steps r c a (turns x i l) calm nj = fewer_set r _ _ x _ i refl (falls_turn r.turn R.vote x.outbox x.core) nj
  fewer_steps r c a (takes s x f l i o q) calm nj = fewer_set r _ s x (take_frame R f x) i refl (falls_taken R.vote f x.core (nj s x i)) nj
  fewer_steps r c a (loses s f l q) calm nj = absurd (calm refl)
  fewer_steps r c a (stops s x i o) calm nj = fewer_set r _ s x (station.stopped x) i refl (inr (Stopped, refl)) nj
  fewer_steps r c a (enters s x i o) calm nj = absurd (calm refl)

  runs_running : (q : State) → is_running q ≡ true → q ≡ Running
  runs_running Running e = refl
  runs_running Joining e = absurd (false≢true e)
  runs_running (Out _) e = absurd (false≢true e)

  pub running_is : (r : Ring S) (s : ℕ) → running (slice_get r.stations s) ≡ true → (x : Model S) × Is r s x × (x.core.state ≡ Running)
  running_is r s e = go (slice_get r.stations s) refl e
    where
      go : (o : Option (Model S)) → slice_get r.stations s ≡ o → running o ≡ true → (x : Model S) × Is r s x × (x.core.state ≡ Running)
      go None i e = absurd (false≢true e)
      go (Some x) i e = (x, i, runs_running x.core.state e)

  pub runs_at : (r : Ring S) (s : ℕ) (x : Model S) → Is r s x → x.core.state ≡ Running → running (slice_get r.stations s) ≡ true
  runs_at r s x i e = ap running i ∙ ap is_running e

  abbrev pub run_mask : Ring S → ℕ
  run_mask r = mask_of R.size (λ s. running (slice_get r.stations s))

  fewer_vote : Laws R.size R.vote → (r r' : Ring S) → Fewer r r' → RunningVote R r' → RunningVote R r
  fewer_vote laws r r' h v =
      laws.grows (run_mask r') (run_mask r) (mask_below R.size _) (mask_below R.size _)
      (within_roll R.size (run_mask r') (run_mask r) (mask_below R.size _) λ q l e.
      let z = h.was q (running_is r' q (sym (has_mask R.size (λ s. running (slice_get r'.stations s)) q l) ∙ e)).0
      (running_is r' q (sym (has_mask R.size (λ s. running (slice_get r'.stations s)) q l) ∙ e)).1
      (running_is r' q (sym (has_mask R.size (λ s. running (slice_get r'.stations s)) q l) ∙ e)).2 in
      has_mask R.size (λ s. running (slice_get r.stations s)) q l ∙ runs_at r q z.0 z.1 z.2)
      v

  pub calm_vote : Laws R.size R.vote → (r : Ring S) (cs : List Call) → NoJoining r → Calm R r cs → RunningVote R r
  calm_vote laws r [] nj calm = calm.1
  calm_vote laws r (c ∷ cs) nj calm =
      let h = fewer_steps r c (step R r c) (steps R r c) calm.0 nj in
      fewer_vote laws r (step R r c).1 h (calm_vote laws (step R r c).1 cs h.joins calm.1)
