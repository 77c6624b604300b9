-- A calm run keeps the running stations on one journal.
use Rattle.std.proofs.Common.{◌≡◌, ℕ, zero, suc, ◌+◌, ◌-◌, ◌%◌, ◌^◌, ◌<◌, ◌≤◌, Bool, true, false, cond, eqb, ◌⊎◌, List, [], ◌∷◌, ◌++◌, length, take, drop, set, replicate, Some, None, sym, refl, ap, ◌∙◌, subst, inl, inr, mod-lt, mod-eq_of_lt, arith}
use mathlib.Core.Path.{fun_ext}
use native.Mathlib.Nat.{add-mod_right}
use Rattle.std.specs.List.{slice_get}
use Rattle.std.proofs.lemmas.Bool.{cond-true, cond-false, cases_eq, eq-eqb, ne_eqb, lt-ltb, both_ways}
use Rattle.std.proofs.lemmas.List.{append_cancel_left, length-append, get_or-replicate}
use Rattle.std.proofs.ByRecursion.{All-weaker}
use Rattle.protocol.specs.declared.note.Note.{Note}
use Rattle.protocol.specs.declared.entry.Body.{Body}
use Rattle.protocol.specs.declared.entry.Body.TheVariants.{Note as NoteBody, View}
use Rattle.protocol.specs.declared.entry.Entry.{Entry}
use Rattle.protocol.specs.declared.frame.Frame.{Frame}
use Rattle.protocol.specs.declared.frame.Frame.TheVariants.{Heartbeat}
use Rattle.vote.specs.Mask.{has, everyone}
use Rattle.vote.specs.Masks.{has_everyone, everyone_below}
use Rattle.wires.specs.Lines.{Lines}
use Rattle.wires.specs.Calls.{taken, posted_all}
use Rattle.journal.specs.declared.peer.Peer.{Peer}
use Rattle.journal.specs.declared.state.Cause.TheVariants.{Stopped}
use Rattle.journal.specs.declared.state.State.TheVariants.{Running, Out}
use Rattle.journal.specs.Journal.{last_turn, end_of, newest_view}
use Rattle.journal.specs.Peers.{no_peer, peer_at}
use Rattle.journal.specs.Core.{Core, is_running, is_out}
use Rattle.journal.specs.Settle.{fed, newly_firm, view}
use Rattle.turning.specs.Posts.{frames_of}
use Rattle.turning.specs.Steps.{Spoken}
use Rattle.turning.specs.Whole.{turn_as, whole_turn}
use Rattle.station.specs.Model.{Model, new_model, moved}
use Rattle.station.specs.Rules as station
use Rattle.runs.specs.declared.call.Call.{Call}
use Rattle.runs.specs.Rings.{Rules, Ring, Answer, line, new_stations, new_ring, owner, step, run}
use Rattle.runs.specs.Promises.{Begins, Laws, Is, running, Quiet, RunningVote, CalmCall, Calm, Together}
use Rattle.runs.proofs.Ends.{same_last}
use Rattle.runs.proofs.Formed.{Formed, OfTurn, formed_append, formed_later, newest_strong}
use Rattle.runs.proofs.Turning.{Turned, turned_own}
use Rattle.runs.proofs.Staying.{moves_turn}
use Rattle.runs.proofs.Lookup.{some_same, nth_below, nth_set, all_nth, set_there}
use Rattle.runs.proofs.Steps.{own_turn, after_turn, take_frame, Steps, refused, noted, turns, takes, loses, stops, enters, steps}
use Rattle.runs.proofs.Soundness.{Sound, here_holds, here_formed, good_step, all_new, sound_new}
use Rattle.runs.proofs.Fewer.{NotJoining, NoJoining, calm_vote, runs_at}
use Rattle.runs.proofs.Feeding.{Keeps, Tells, Feeds, Fed, take_fed, feeds_begins}
use Rattle.runs.proofs.Fronts.{begins_self, begins_push, begins_trans}
use Rattle.runs.proofs.Circle.{same_residue}
use Rattle.runs.proofs.Counting.{members, tally_most}
use Rattle.runs.proofs.Speaking.{KeepsAll, Talked, talked}
use Rattle.runs.proofs.Lines.{taken_here, taken_other, taken_roll, posts_roll, posts_own, posts_other, frames_length, feeds_beat, feeds_frames}

-- some frame is a heartbeat of m
abbrev pub Told : ℕ → List Frame → Type 0
Told m [] = ⊥
Told m (f ∷ l) = Tells m f ⊎ Told m l

pub told_last : (m : ℕ) (fs : List Frame) (p : ℕ × ℕ) → Told m (fs ++ Heartbeat m p ∷ [])
told_last m [] p = inl refl
told_last m (f ∷ fs) p = inr (told_last m fs p)

pub told_past : (A : Type 0) (m : ℕ) (f : Frame) (l : List Frame) → (Tells m f → A) → A ⊎ Told m (f ∷ l) → A ⊎ Told m l
told_past A m f l h (inl a) = inl a
told_past A m f l h (inr (inl e)) = inl (h e)
told_past A m f l h (inr (inr e)) = inr e

pub told_none : (A : Type 0) (m : ℕ) (l : List Frame) → l ≡ [] → A ⊎ Told m l → A
told_none A m l e (inl a) = a
told_none A m l e (inr t) = absurd (subst (Told m) e t)

-- which stations run
abbrev pub living : {S : Type 0} → List (Model S) → ℕ → Bool
living xs q = running (slice_get xs q)

module _ {S : Type 0} where
  pub living_set : (xs : List (Model S)) (s : ℕ) (x y : Model S) → slice_get xs s ≡ Some x → y.core.state ≡ x.core.state → (q : ℕ) → living (set xs s y) q ≡ living xs q
  living_set [] s x y i e q = refl
  living_set (z ∷ xs) zero x y i e zero = ap is_running (e ∙ ap (λ (w : Model S). w.core.state) (sym (some_same z x i)))
  living_set (z ∷ xs) zero x y i e (suc q) = refl
  living_set (z ∷ xs) (suc s) x y i e zero = refl
  living_set (z ∷ xs) (suc s) x y i e (suc q) = living_set xs s x y i e q

  pub living_out : (xs : List (Model S)) (s : ℕ) (y : Model S) → is_running y.core.state ≡ false → (q : ℕ) → living (set xs s y) q ≡ true → living xs q ≡ true
  living_out [] s y o q h = h
  living_out (z ∷ xs) zero y o zero h = absurd (both_ways (is_running y.core.state) o h)
  living_out (z ∷ xs) zero y o (suc q) h = h
  living_out (z ∷ xs) (suc s) y o zero h = h
  living_out (z ∷ xs) (suc s) y o (suc q) h = living_out xs s y o q h

-- the next turn of each station, once o has had turn t
pub after : (n t o : ℕ) → (ℕ → ℕ) → ℕ → ℕ
after n t o due q = cond (eqb q o) (t + n) (due q)

pub after_own : (n t o : ℕ) (due : ℕ → ℕ) → after n t o due o ≡ t + n
unfolding after
after_own n t o due = cond-true (eqb o o) (t + n) (due o) (eq-eqb o o refl)

pub after_other : (n t o : ℕ) (due : ℕ → ℕ) (q : ℕ) → (q ≡ o → ⊥) → after n t o due q ≡ due q
unfolding after
after_other n t o due q ne = cond-false (eqb q o) (t + n) (due q) (ne_eqb q o ne)

module _ {S : Type 0} where
  -- the ring with station s changed, and the lines w
  abbrev pub put : Ring S → ℕ → Model S → Lines Frame → Ring S
  put r s x w = record { stations = set r.stations s x; lines = w; turn = r.turn }

  -- a station whose firm count stays gives its book nothing
  nothing_new : (next : S → Note → S) (b : S) (m : Core) → fed next b (newly_firm m.firm m) ≡ b
  nothing_new next b m = let e : m.firm - m.firm ≡ 0 = omega arith in ap (λ k. fed next b (take k (drop m.firm m.journal))) e

module _ {S : Type 0} (R : Rules S) (b₀ : S) where
  -- what holds of a running station s with line l, where c is the common journal
  pub record Resting (alive : ℕ → Bool) (c : List Entry) (due : ℕ → ℕ) (s : ℕ) (x : Model S) (l : List Frame) : Type 0 where
    pub feeds : Feeds R.size R.vote s x.core.journal l c
    pub wish : (m : ℕ) → (peer_at x.core.peers m).wish ≡ None
    pub heard : (m : ℕ) → m < R.size → alive m ≡ true → (m ≡ s → ⊥) → due s < due m → ((peer_at x.core.peers m).heard ≡ true) ⊎ Told m l

  -- the next turns: each station's is its own and within one round
  pub record Due (t : ℕ) (due : ℕ → ℕ) : Type 0 where
    pub low : (s : ℕ) → s < R.size → t ≤ due s
    pub high : (s : ℕ) → s < R.size → due s < t + R.size
    pub own : (s : ℕ) → s < R.size → (due s - 1) % R.size ≡ s

  abbrev pub view_of : List Entry → ℕ
  view_of c = newest_view (everyone R.size) c

  pub record Calmed (r : Ring S) (c : List Entry) (due : ℕ → ℕ) : Type 0 where
    pub sound : Sound R b₀ r
    pub lines : r.lines.roll ≡ R.size
    pub state : (s : ℕ) (x : Model S) → Is r s x → (x.core.state ≡ Running) ⊎ (x.core.state ≡ Out Stopped)
    pub begins : (s : ℕ) (x : Model S) → Is r s x → Begins x.core.journal c
    pub each : (s : ℕ) (x : Model S) → Is r s x → x.core.state ≡ Running → Resting (living r.stations) c due s x (line r s)
    pub view : (q : ℕ) → q < R.size → living r.stations q ≡ true → has (view_of c) q ≡ true
    pub room : length c + members R.size (view_of c) ≤ 248
    pub turns : Due r.turn due

  -- the owner's turn is now, and every other station's is later
  pub due_owner : (t : ℕ) (due : ℕ → ℕ) → 1 ≤ R.size → 1 ≤ t → Due t due → due ((t - 1) % R.size) ≡ t
  due_owner t due pos early h =
      let o = (t - 1) % R.size in
      let l : o < R.size = mod-lt (t - 1) pos in
      let e = same_residue R.size (t - 1) (due o - 1) pos (sym (h.own o l)) (omega (arith, h.low o l)) (omega (arith, h.high o l, h.low o l)) in
      omega (arith, e, h.low o l)

  pub due_later : (t : ℕ) (due : ℕ → ℕ) (q : ℕ) → q < R.size → (q ≡ (t - 1) % R.size → ⊥) → Due t due → t < due q
  due_later t due q l ne h = go (cases_eq (due q) t)
    where
      go : (due q ≡ t) ⊎ (due q ≡ t → ⊥) → t < due q
      go (inl e) = absurd (ne (sym (h.own q l) ∙ ap (λ z. (z - 1) % R.size) e))
      go (inr e) = omega (arith, e, h.low q l)

  due_after : (t : ℕ) (due : ℕ → ℕ) → 1 ≤ R.size → 1 ≤ t → Due t due → Due (suc t) (after R.size t ((t - 1) % R.size) due)
  due_after t due pos early h = record {
    low = λ s l. to s l (λ z. suc t ≤ z) (omega arith) (λ ne. due_later t due s l ne h);
    high = λ s l. to s l (λ z. z < suc t + R.size) (omega arith) (λ ne. omega (arith, h.high s l));
    own = λ s l. own s l (cases_eq s o);
  }
    where
      o : ℕ
      o = (t - 1) % R.size

      to : (s : ℕ) → s < R.size → (P : ℕ → Type 0) → P (t + R.size) → ((s ≡ o → ⊥) → P (due s)) → P (after R.size t o due s)
      to s l P p g = go (cases_eq s o)
        where
          go : (s ≡ o) ⊎ (s ≡ o → ⊥) → P (after R.size t o due s)
          go (inl e) = subst (λ z. P (after R.size t o due z)) (sym e) (subst P (sym (after_own R.size t o due)) p)
          go (inr ne) = subst P (sym (after_other R.size t o due s ne)) (g ne)

      own : (s : ℕ) → s < R.size → (s ≡ o) ⊎ (s ≡ o → ⊥) → (after R.size t o due s - 1) % R.size ≡ s
      own s l (inl e) =
          ap (λ z. (after R.size t o due z - 1) % R.size) e ∙
          (ap (λ z. (z - 1) % R.size) (after_own R.size t o due) ∙
          (ap (λ z. z % R.size) (let q : (t + R.size) - 1 ≡ (t - 1) + R.size = omega arith in q) ∙
          (add-mod_right (t - 1) R.size ∙ sym e)))
      own s l (inr ne) = ap (λ z. (z - 1) % R.size) (after_other R.size t o due s ne) ∙ h.own s l

  -- one station and its line change
  pub each_put : (Q : ℕ → Model S → List Frame → Type 0) (r : Ring S) (s : ℕ) (y : Model S) (f : Frame) (l : List Frame) → s < r.lines.roll → line r s ≡ f ∷ l →
      ((m : ℕ) (z : Model S) → Is r m z → z.core.state ≡ Running → Q m z (line r m)) → (y.core.state ≡ Running → Q s y l) →
      (m : ℕ) (z : Model S) → slice_get (set r.stations s y) m ≡ Some z → z.core.state ≡ Running → Q m z ((taken r.lines s).at m)
  each_put Q r s y f l on q h g m z i run = go (nth_set r.stations s m y z i)
    where
      go : ((m ≡ s) × (z ≡ y)) ⊎ ((m ≡ s → ⊥) × Is r m z) → Q m z ((taken r.lines s).at m)
      go (inl e) =
          subst (λ k. Q k z ((taken r.lines s).at k)) (sym e.0)
          (subst (λ w. Q s z w) (sym (taken_here r.lines s f l on q))
          (subst (λ w. Q s w l) (sym e.1) (g (ap (λ (w : Model S). w.core.state) (sym e.1) ∙ run))))
      go (inr e) = subst (Q m z) (sym (taken_other r.lines s m e.0)) (h m z e.1 run)

  -- one station changes
  pub each_set : (Q : ℕ → Model S → List Frame → Type 0) (r : Ring S) (s : ℕ) (y : Model S) →
      ((m : ℕ) (z : Model S) → Is r m z → z.core.state ≡ Running → Q m z (line r m)) → (y.core.state ≡ Running → Q s y (line r s)) →
      (m : ℕ) (z : Model S) → slice_get (set r.stations s y) m ≡ Some z → z.core.state ≡ Running → Q m z (line r m)
  each_set Q r s y h g m z i run = go (nth_set r.stations s m y z i)
    where
      go : ((m ≡ s) × (z ≡ y)) ⊎ ((m ≡ s → ⊥) × Is r m z) → Q m z (line r m)
      go (inl e) =
          subst (λ k. Q k z (line r k)) (sym e.0)
          (subst (λ w. Q s w (line r s)) (sym e.1) (g (ap (λ (w : Model S). w.core.state) (sym e.1) ∙ run)))
      go (inr e) = h m z e.1 run

  pub state_set : (r : Ring S) (s : ℕ) (y : Model S) → ((m : ℕ) (z : Model S) → Is r m z → (z.core.state ≡ Running) ⊎ (z.core.state ≡ Out Stopped)) →
      (y.core.state ≡ Running) ⊎ (y.core.state ≡ Out Stopped) →
      (m : ℕ) (z : Model S) → slice_get (set r.stations s y) m ≡ Some z → (z.core.state ≡ Running) ⊎ (z.core.state ≡ Out Stopped)
  state_set r s y h g m z i = go (nth_set r.stations s m y z i)
    where
      go : ((m ≡ s) × (z ≡ y)) ⊎ ((m ≡ s → ⊥) × Is r m z) → (z.core.state ≡ Running) ⊎ (z.core.state ≡ Out Stopped)
      go (inl e) = subst (λ (w : Model S). (w.core.state ≡ Running) ⊎ (w.core.state ≡ Out Stopped)) (sym e.1) g
      go (inr e) = h m z e.1

  begins_set : (r : Ring S) (s : ℕ) (y : Model S) (c : List Entry) → ((m : ℕ) (z : Model S) → Is r m z → Begins z.core.journal c) → Begins y.core.journal c →
      (m : ℕ) (z : Model S) → slice_get (set r.stations s y) m ≡ Some z → Begins z.core.journal c
  begins_set r s y c h g m z i = go (nth_set r.stations s m y z i)
    where
      go : ((m ≡ s) × (z ≡ y)) ⊎ ((m ≡ s → ⊥) × Is r m z) → Begins z.core.journal c
      go (inl e) = subst (λ (w : Model S). Begins w.core.journal c) (sym e.1) g
      go (inr e) = h m z e.1

  resting_take : (alive : ℕ → Bool) (c : List Entry) (due : ℕ → ℕ) (s : ℕ) (x y : Model S) (f : Frame) (l : List Frame) →
      Resting alive c due s x (f ∷ l) → Fed R.size R.vote s f l c x.core y.core → Resting alive c due s y l
  resting_take alive c due s x y f l h got = record {
    feeds = got.feeds;
    wish = λ m. got.wish m ∙ h.wish m;
    heard = λ m on a ne d. told_past ((peer_at y.core.peers m).heard ≡ true) m f l (got.told m) (raised m (h.heard m on a ne d));
  }
    where
      raised : (m : ℕ) → ((peer_at x.core.peers m).heard ≡ true) ⊎ Told m (f ∷ l) → ((peer_at y.core.peers m).heard ≡ true) ⊎ Told m (f ∷ l)
      raised m (inl e) = inl (got.heard m e)
      raised m (inr e) = inr e

  resting_fewer : (alive alive' : ℕ → Bool) (c : List Entry) (due : ℕ → ℕ) (s : ℕ) (x : Model S) (l : List Frame) → ((q : ℕ) → alive' q ≡ true → alive q ≡ true) →
      Resting alive c due s x l → Resting alive' c due s x l
  resting_fewer alive alive' c due s x l sub h = record { feeds = h.feeds; wish = h.wish; heard = λ m on a ne d. h.heard m on (sub m a) ne d }

  -- a station that is not out runs, in a calm ring
  pub runs_here : (x : Model S) → (x.core.state ≡ Running) ⊎ (x.core.state ≡ Out Stopped) → is_out x.core.state ≡ false → x.core.state ≡ Running
  runs_here x (inl e) o = e
  runs_here x (inr e) o = absurd (both_ways (is_out x.core.state) o (ap is_out e))

  pub peers_size : (r : Ring S) (s : ℕ) (x : Model S) → Sound R b₀ r → Is r s x → R.size ≤ length x.core.peers
  peers_size r s x h i = (here_holds R b₀ r s x h i).peers

  pub on_line : (r : Ring S) (s : ℕ) (x : Model S) (c : List Entry) (due : ℕ → ℕ) → Calmed r c due → Is r s x → s < r.lines.roll
  on_line r s x c due h i = omega (arith, nth_below r.stations s x i, h.sound.size, h.lines)

  pub calm_note : (r : Ring S) (c : List Entry) (due : ℕ → ℕ) (s : ℕ) (x : Model S) (o : Note) → Is r s x → Calmed r c due →
      Sound R b₀ (put r s (station.noted o x) r.lines) → Calmed (put r s (station.noted o x) r.lines) c due
  calm_note r c due s x o i h sound = record {
    sound = sound;
    lines = h.lines;
    state = state_set r s (station.noted o x) h.state (h.state s x i);
    begins = begins_set r s (station.noted o x) c h.begins (h.begins s x i);
    each = subst (λ a. (m : ℕ) (z : Model S) → slice_get (set r.stations s (station.noted o x)) m ≡ Some z → z.core.state ≡ Running → Resting a c due m z (line r m)) (sym same)
        (each_set (Resting (living r.stations) c due) r s (station.noted o x) h.each
        (λ run. let g = h.each s x i run in record { feeds = g.feeds; wish = g.wish; heard = g.heard }));
    view = λ q l a. h.view q l (sym (living_set r.stations s x (station.noted o x) i refl q) ∙ a);
    room = h.room;
    turns = h.turns;
  }
    where
      same : living (set r.stations s (station.noted o x)) ≡ living r.stations
      same = fun_ext (living_set r.stations s x (station.noted o x) i refl)

  pub calm_take : (r : Ring S) (c : List Entry) (due : ℕ → ℕ) (s : ℕ) (x : Model S) (f : Frame) (l : List Frame) → Is r s x → is_out x.core.state ≡ false → line r s ≡ f ∷ l →
      Calmed r c due → Sound R b₀ (put r s (take_frame R f x) (taken r.lines s)) → Calmed (put r s (take_frame R f x) (taken r.lines s)) c due
  calm_take r c due s x f l i o q h sound = record {
    sound = sound;
    lines = taken_roll r.lines s ∙ h.lines;
    state = state_set r s y h.state (inl got.running);
    begins = begins_set r s y c h.begins (feeds_begins R.size R.vote s y.core.journal l c got.feeds);
    each = subst (λ a. (m : ℕ) (z : Model S) → slice_get (set r.stations s y) m ≡ Some z → z.core.state ≡ Running → Resting a c due m z ((taken r.lines s).at m)) (sym same)
        (each_put (Resting (living r.stations) c due) r s y f l (on_line r s x c due h i) q h.each
        (λ _. resting_take (living r.stations) c due s x y f l rest got));
    view = λ k on a. h.view k on (sym (living_set r.stations s x y i (got.running ∙ sym run) k) ∙ a);
    room = h.room;
    turns = h.turns;
  }
    where
      y : Model S
      y = take_frame R f x

      run : x.core.state ≡ Running
      run = runs_here x (h.state s x i) o

      rest : Resting (living r.stations) c due s x (f ∷ l)
      rest = subst (Resting (living r.stations) c due s x) q (h.each s x i run)

      got : Fed R.size R.vote s f l c x.core y.core
      got = take_fed R.size R.vote s x.core run (h.sound.numbered s x i).0 (h.sound.numbered s x i).1 f l c (peers_size r s x h.sound i) rest.feeds

      same : living (set r.stations s y) ≡ living r.stations
      same = fun_ext (living_set r.stations s x y i (got.running ∙ sym run))

  calm_stop : (r : Ring S) (c : List Entry) (due : ℕ → ℕ) (s : ℕ) (x : Model S) → Is r s x → Calmed r c due →
      Sound R b₀ (put r s (station.stopped x) r.lines) → Calmed (put r s (station.stopped x) r.lines) c due
  calm_stop r c due s x i h sound = record {
    sound = sound;
    lines = h.lines;
    state = state_set r s y h.state (inr refl);
    begins = begins_set r s y c h.begins (h.begins s x i);
    each = λ m z j run. resting_fewer (living r.stations) (living (set r.stations s y)) c due m z (line r m) (living_out r.stations s y refl)
        (each_set (Resting (living r.stations) c due) r s y h.each (λ e. absurd (both_ways (is_running y.core.state) refl (ap is_running e))) m z j run);
    view = λ q l a. h.view q l (living_out r.stations s y refl q a);
    room = h.room;
    turns = h.turns;
  }
    where
      y : Model S
      y = station.stopped x

  module _ (laws : Laws R.size R.vote) (pos : 1 ≤ R.size) (small : R.size ≤ 8) where
    -- the turn of a running owner in a calm ring
    module _ (r : Ring S) (c : List Entry) (due : ℕ → ℕ) (x : Model S) (i : Is r (owner R r) x) (run : x.core.state ≡ Running) (soon : r.turn ≤ 1000000)
        (quiet : Quiet r) (votes : RunningVote R r) (h : Calmed r c due) where
      owner_on : owner R r < R.size
      owner_on = mod-lt (r.turn - 1) pos

      -- a running station has the whole common journal as the turn begins
      pub has_all : (s : ℕ) (z : Model S) → Is r s z → z.core.state ≡ Running → z.core.journal ≡ c
      has_all s z j e = subst (λ l. Feeds R.size R.vote s z.core.journal l c) (quiet s z j e) (h.each s z j e).feeds

      pub mine : x.core.me ≡ owner R r
      mine = (h.sound.numbered (owner R r) x i).0

      pub sized : x.core.roll ≡ R.size
      sized = (h.sound.numbered (owner R r) x i).1

      on_roll : x.core.me < R.size
      on_roll = omega (arith, mine, owner_on)

      pub newest_is : view x.core ≡ view_of c
      newest_is = ap (λ n. newest_view (everyone n) x.core.journal) sized ∙ ap view_of (has_all (owner R r) x i run)

      formed : Formed R.size R.vote r.turn 0 x.core.journal
      formed = here_formed R b₀ r (owner R r) x h.sound i

      low : view x.core < 2 ^ R.size
      low =
          subst (λ n. newest_view (everyone n) x.core.journal < 2 ^ R.size) (sym sized)
          (newest_strong R.size R.vote r.turn 0 (everyone R.size) x.core.journal (everyone_below R.size, laws.all) formed).0

      pub talk : Talked R.size R.vote laws small (living r.stations) x.core (own_turn R r.turn x).0.core (own_turn R r.turn x).1
      talk =
          talked R.size R.vote laws small (living r.stations) r.turn x.core on_roll sized low run votes
          (λ m l a. ap (λ v. has v m) newest_is ∙ h.view m l a)
          (λ m l a ne.
          told_none ((peer_at x.core.peers m).heard ≡ true) m (line r (owner R r)) (quiet (owner R r) x i run)
          ((h.each (owner R r) x i run).heard m l a (λ e. ne (e ∙ sym mine))
          (omega (arith, due_owner r.turn due pos h.sound.early h.turns, due_later r.turn due m l (λ e. ne (e ∙ sym mine)) h.turns))))
          (h.each (owner R r) x i run).wish
          (subst (λ v. length x.core.journal + members R.size v ≤ 248) (sym newest_is)
          (subst (λ j. length j + members R.size (view_of c) ≤ 248) (sym (has_all (owner R r) x i run)) h.room))
          x.outbox

      made : Turned R.size R.vote laws small r.turn h.sound.early x.core on_roll sized formed (own_turn R r.turn x).0.core (own_turn R r.turn x).1
      made = turned_own R.size R.vote laws small r.turn h.sound.early x.core on_roll sized formed x.outbox

      unfoldable pub common : List Entry
      common = c ++ talk.more

      same_more : made.more ≡ talk.more
      same_more = append_cancel_left x.core.journal made.more talk.more (made.joins ∙ talk.joins)

      formed_more : Formed R.size R.vote (suc r.turn) (length c) talk.more
      formed_more =
          subst (λ j. Formed R.size R.vote (suc r.turn) (length j) talk.more) (has_all (owner R r) x i run)
          (subst (Formed R.size R.vote (suc r.turn) (length x.core.journal)) same_more made.formed)

      pub of_turn_more : OfTurn r.turn talk.more
      of_turn_more = subst (OfTurn r.turn) same_more made.of_turn

      pub formed_common : Formed R.size R.vote (suc r.turn) 0 common
      unfolding common
      formed_common =
          formed_append R.size R.vote (suc r.turn) 0 c talk.more
          (formed_later R.size R.vote r.turn (suc r.turn) 0 (omega arith) c
          (subst (Formed R.size R.vote r.turn 0) (has_all (owner R r) x i run) formed))
          (subst (λ z. Formed R.size R.vote (suc r.turn) z talk.more) (omega arith) formed_more)

      -- the owner's journal is the new common one
      pub owner_has : (own_turn R r.turn x).0.core.journal ≡ common
      unfolding common
      owner_has = talk.joins ∙ ap (λ j. j ++ talk.more) (has_all (owner R r) x i run)

      posted : (own_turn R r.turn x).1 ≡ frames_of (owner R r) (last_turn c) talk.more ++ Heartbeat (owner R r) (end_of common) ∷ []
      unfolding common
      posted = talk.frames ∙
          (ap (λ s. frames_of s (last_turn x.core.journal) talk.more ++ Heartbeat s (end_of (x.core.journal ++ talk.more)) ∷ []) mine ∙ ap (λ j. frames_of (owner R r) (last_turn j) talk.more ++ Heartbeat (owner R r) (end_of (j ++ talk.more)) ∷ []) (has_all (owner R r) x i run))

      few_frames : length (own_turn R r.turn x).1 ≤ 10
      few_frames =
          omega (
            arith,
            ap length posted,
            length-append (frames_of (owner R r) (last_turn c) talk.more) (Heartbeat (owner R r) (end_of common) ∷ []),
            frames_length (owner R r) (last_turn c) talk.more,
            talk.few,
          )

      pub line_own : (posted_all r.lines x.core.me (own_turn R r.turn x).1).at (owner R r) ≡ []
      line_own =
          ap (λ k. (posted_all r.lines k (own_turn R r.turn x).1).at (owner R r)) mine ∙
          (posts_own (owner R r) (own_turn R r.turn x).1 r.lines ∙ quiet (owner R r) x i run)

      pub line_other : (s : ℕ) (z : Model S) → Is r s z → z.core.state ≡ Running → (s ≡ owner R r → ⊥) →
          (posted_all r.lines x.core.me (own_turn R r.turn x).1).at s ≡ frames_of (owner R r) (last_turn c) talk.more ++ Heartbeat (owner R r) (end_of common) ∷ []
      line_other s z j e ne =
          ap (λ k. (posted_all r.lines k (own_turn R r.turn x).1).at s) mine ∙
          (posts_other (owner R r) s (own_turn R r.turn x).1 r.lines (omega (arith, owner_on, h.lines)) (omega (arith, nth_below r.stations s z j, h.sound.size, h.lines)) ne
          (omega (arith, ap length (quiet s z j e), few_frames)) ∙
          (ap (λ l. l ++ (own_turn R r.turn x).1) (quiet s z j e) ∙ posted))

      -- the owner's newest view is that of the new common journal
      pub new_view : view (own_turn R r.turn x).0.core ≡ view_of common
      new_view =
          ap (λ n. newest_view (everyone n) (own_turn R r.turn x).0.core.journal) ((moves_turn r.turn R.vote x.outbox x.core).roll ∙ sized) ∙ ap view_of owner_has

      longer : Begins c common
      unfolding common
      longer = begins_push c talk.more

      short : length common ≤ 256
      short = omega (arith, talk.room, ap length owner_has)

      keeps_one : (s : ℕ) → s < R.size → living r.stations s ≡ true → (e : Entry) → KeepsAll R.size R.vote laws small (living r.stations) e.body → Keeps s e.body
      keeps_one s l a e k = go e.body k
        where
          go : (b : Body) → KeepsAll R.size R.vote laws small (living r.stations) b → Keeps s b
          go (NoteBody _) g = tt
          go (View w) g = g s l a

      feeds_other : (s : ℕ) (z : Model S) → Is r s z → z.core.state ≡ Running → (s ≡ owner R r → ⊥) →
          Feeds R.size R.vote s z.core.journal (frames_of (owner R r) (last_turn c) talk.more ++ Heartbeat (owner R r) (end_of common) ∷ []) common
      unfolding common
      feeds_other s z j e ne =
          subst (λ k. Feeds R.size R.vote s k (frames_of (owner R r) (last_turn c) talk.more ++ Heartbeat (owner R r) (end_of common) ∷ []) common) (sym (has_all s z j e))
          (feeds_frames R.size R.vote s (owner R r) owner_on (λ k. ne (sym k)) (suc r.turn) (last_turn c) c talk.more (Heartbeat (owner R r) (end_of common) ∷ []) common
          formed_more (omega arith) (omega (arith, short, length-append c talk.more))
          (All-weaker (λ d. KeepsAll R.size R.vote laws small (living r.stations) d.body) (λ d. Keeps s d.body)
          (keeps_one s (omega (arith, nth_below r.stations s z j, h.sound.size)) (runs_at R r s z j e)) talk.more talk.keeps)
          (same_last c)
          (feeds_beat R.size R.vote s (owner R r) owner_on (λ k. ne (sym k)) (suc r.turn) common formed_common (omega arith) short))

      abbrev next_due : ℕ → ℕ
      next_due = after R.size r.turn (owner R r) due

      same_living : living (set r.stations (owner R r) (own_turn R r.turn x).0) ≡ living r.stations
      same_living = fun_ext (living_set r.stations (owner R r) x _ i (talk.state ∙ sym run))

      resting_other : (s : ℕ) (z : Model S) → Is r s z → z.core.state ≡ Running → (s ≡ owner R r → ⊥) →
          Resting (living r.stations) common next_due s z (frames_of (owner R r) (last_turn c) talk.more ++ Heartbeat (owner R r) (end_of common) ∷ [])
      resting_other s z j e ne = record {
        feeds = feeds_other s z j e ne;
        wish = (h.each s z j e).wish;
        heard = λ m on a apart d. heard m on a apart d (cases_eq m (owner R r));
      }
        where
          heard : (m : ℕ) → m < R.size → living r.stations m ≡ true → (m ≡ s → ⊥) → next_due s < next_due m → (m ≡ owner R r) ⊎ (m ≡ owner R r → ⊥) →
              ((peer_at z.core.peers m).heard ≡ true) ⊎ Told m (frames_of (owner R r) (last_turn c) talk.more ++ Heartbeat (owner R r) (end_of common) ∷ [])
          heard m on a apart d (inl k) =
              inr (subst (λ w. Told w (frames_of (owner R r) (last_turn c) talk.more ++ Heartbeat (owner R r) (end_of common) ∷ [])) (sym k)
              (told_last (owner R r) (frames_of (owner R r) (last_turn c) talk.more) (end_of common)))
          heard m on a apart d (inr k) =
              inl (told_none ((peer_at z.core.peers m).heard ≡ true) m (line r s) (quiet s z j e)
              ((h.each s z j e).heard m on a apart
              (omega (arith, d, after_other R.size r.turn (owner R r) due s ne, after_other R.size r.turn (owner R r) due m k))))

      resting_owner : Resting (living r.stations) common next_due (owner R r) (own_turn R r.turn x).0 []
      resting_owner = record {
        feeds = owner_has;
        wish = talk.wish;
        heard = λ m on a ne d. absurd (omega (arith, d, after_own R.size r.turn (owner R r) due, after_other R.size r.turn (owner R r) due m ne, h.turns.high m on));
      }

      pub calm_turn : Sound R b₀ (after_turn R r (owner R r) x) →
          Calmed (after_turn R r (owner R r) x) common next_due
      calm_turn sound = record {
        sound = sound;
        lines = posts_roll x.core.me (own_turn R r.turn x).1 r.lines ∙ h.lines;
        state = state_set r (owner R r) _ h.state (inl talk.state);
        begins = begins_set r (owner R r) _ common (λ m z j. begins_trans (h.begins m z j) longer) (subst (Begins _) owner_has (begins_self _));
        each = λ s z j e. subst (λ a. Resting a common next_due s z ((posted_all r.lines x.core.me (own_turn R r.turn x).1).at s)) (sym same_living)
            (each s z e (nth_set r.stations (owner R r) s _ z j));
        view = λ m l a. ap (λ v. has v m) (sym new_view) ∙ talk.seen m l (ap (λ f. f m) (sym same_living) ∙ a);
        room = subst (λ k. length k + members R.size (view_of common) ≤ 248) owner_has (subst (λ v. length (own_turn R r.turn x).0.core.journal + members R.size v ≤ 248) new_view talk.room);
        turns = due_after r.turn due pos h.sound.early h.turns;
      }
        where
          each : (s : ℕ) (z : Model S) → z.core.state ≡ Running → ((s ≡ owner R r) × (z ≡ (own_turn R r.turn x).0)) ⊎ ((s ≡ owner R r → ⊥) × Is r s z) →
              Resting (living r.stations) common next_due s z ((posted_all r.lines x.core.me (own_turn R r.turn x).1).at s)
          each s z e (inl k) =
              subst (λ w. Resting (living r.stations) common next_due w z ((posted_all r.lines x.core.me (own_turn R r.turn x).1).at w)) (sym k.0)
              (subst (Resting (living r.stations) common next_due (owner R r) z) (sym line_own)
              (subst (λ w. Resting (living r.stations) common next_due (owner R r) w []) (sym k.1) resting_owner))
          each s z e (inr k) =
              subst (Resting (living r.stations) common next_due s z) (sym (line_other s z k.1 e k.0)) (resting_other s z k.1 e k.0)

    -- the turn of a stopped owner
    pub idle : (t : ℕ) (x : Model S) → x.core.state ≡ Out Stopped → own_turn R t x ≡ (x, [])
    unfolding whole_turn
    idle t x e =
        ap (λ q. done (turn_as q R.vote t x.outbox x.core)) e ∙
        ap (λ (b : S). (record { core = x.core; outbox = x.outbox; book = b }, [])) (nothing_new R.next x.book x.core)
      where
        done : Spoken → Model S × List Frame
        done r = (moved R.next r.0 r.1.0 x, r.1.1)

    pub idle_ring : (r : Ring S) (x : Model S) → Is r (owner R r) x → x.core.state ≡ Out Stopped →
        after_turn R r (owner R r) x ≡ record { stations = r.stations; lines = r.lines; turn = suc r.turn }
    unfolding posted_all
    idle_ring r x i e =
        ap (λ (q : Model S × List Frame). record { stations = set r.stations (owner R r) q.0; lines = posted_all r.lines x.core.me q.1; turn = suc r.turn }) (idle r.turn x e) ∙
        ap (λ (xs : List (Model S)). record { stations = xs; lines = r.lines; turn = suc r.turn }) (set_there r.stations (owner R r) x i)

    -- a running station is not the stopped one
    pub apart_from : (r : Ring S) (o : ℕ) (x : Model S) → Is r o x → x.core.state ≡ Out Stopped → (s : ℕ) → living r.stations s ≡ true → s ≡ o → ⊥
    apart_from r o x i e s a k = both_ways (living r.stations s) (ap (living r.stations) k ∙ (ap running i ∙ ap is_running e)) a

    pub calm_idle : (r : Ring S) (c : List Entry) (due : ℕ → ℕ) (x : Model S) → Is r (owner R r) x → x.core.state ≡ Out Stopped → Calmed r c due →
        Sound R b₀ (record { stations = r.stations; lines = r.lines; turn = suc r.turn }) →
        Calmed (record { stations = r.stations; lines = r.lines; turn = suc r.turn }) c (after R.size r.turn (owner R r) due)
    calm_idle r c due x i out h sound = record {
      sound = sound;
      lines = h.lines;
      state = h.state;
      begins = h.begins;
      each = λ s z j e. record {
        feeds = (h.each s z j e).feeds;
        wish = (h.each s z j e).wish;
        heard = λ m on a ne d. (h.each s z j e).heard m on a ne
            (omega (
              arith,
              d,
              after_other R.size r.turn (owner R r) due s (apart_from r (owner R r) x i out s (runs_at R r s z j e)),
              after_other R.size r.turn (owner R r) due m (apart_from r (owner R r) x i out m a),
            ));
      };
      view = h.view;
      room = h.room;
      turns = due_after r.turn due pos h.sound.early h.turns;
    }

    -- calm on some journal
    pub record Goes_on (r : Ring S) : Type 0 where
      pub journal : List Entry
      pub due : ℕ → ℕ
      pub calmed : Calmed r journal due

    calm_turns : (r : Ring S) (c : List Entry) (due : ℕ → ℕ) (x : Model S) → Is r (owner R r) x → r.turn ≤ 1000000 → Quiet r → RunningVote R r → Calmed r c due →
        Sound R b₀ (after_turn R r (owner R r) x) → (x.core.state ≡ Running) ⊎ (x.core.state ≡ Out Stopped) →
        Goes_on (after_turn R r (owner R r) x)
    calm_turns r c due x i soon quiet votes h sound (inl run) = record {
      journal = common r c due x i run soon quiet votes h;
      due = after R.size r.turn (owner R r) due;
      calmed = calm_turn r c due x i run soon quiet votes h sound;
    }
    calm_turns r c due x i soon quiet votes h sound (inr out) =
        subst Goes_on (sym (idle_ring r x i out)) (record {
          journal = c;
          due = after R.size r.turn (owner R r) due;
          calmed = calm_idle r c due x i out h (subst (Sound R b₀) (idle_ring r x i out) sound);
        })

    calm_steps : (r : Ring S) (k : Call) (a : Answer S) → Steps R r k a → (a.0 ≡ 0 → CalmCall R r k) → RunningVote R r → Sound R b₀ a.1 →
        (c : List Entry) (due : ℕ → ℕ) → Calmed r c due → Goes_on a.1
    calm_steps r k a (refused j) calm votes sound c due h = record { journal = c; due = due; calmed = h }
    calm_steps r k a (noted s note x i o) calm votes sound c due h = record { journal = c; due = due; calmed = calm_note r c due s x _ i h sound }
    calm_steps r k a (turns x i l) calm votes sound c due h = calm_turns r c due x i l (calm refl) votes h sound (h.state _ x i)
    calm_steps r k a (takes s x f l i o q) calm votes sound c due h = record { journal = c; due = due; calmed = calm_take r c due s x f l i o q h sound }
    calm_steps r k a (loses s f l q) calm votes sound c due h = absurd (calm refl)
    calm_steps r k a (stops s x i o) calm votes sound c due h = record { journal = c; due = due; calmed = calm_stop r c due s x i h sound }
    calm_steps r k a (enters s x i o) calm votes sound c due h = absurd (calm refl)

    pub none_joins : (r : Ring S) (c : List Entry) (due : ℕ → ℕ) → Calmed r c due → NoJoining R r
    none_joins r c due h s x i = go (h.state s x i)
      where
        go : (x.core.state ≡ Running) ⊎ (x.core.state ≡ Out Stopped) → NotJoining x.core.state
        go (inl e) = subst NotJoining (sym e) tt
        go (inr e) = subst NotJoining (sym e) tt

    pub calm_step : (r : Ring S) (k : Call) (ks : List Call) → Calm R r (k ∷ ks) → Goes_on r → Goes_on (step R r k).1
    calm_step r k ks calm g =
        calm_steps r k (step R r k) (steps R r k) calm.0
        (calm_vote R laws r (k ∷ ks) (none_joins r g.journal g.due g.calmed) calm)
        (good_step R b₀ laws small r k g.calmed.sound) g.journal g.due g.calmed

    pub calm_run : (r : Ring S) (ks : List Call) → Calm R r ks → Goes_on r → Goes_on (run R r ks) × (Quiet (run R r ks))
    unfolding run
    calm_run r [] calm g = (g, calm.0)
    calm_run r (k ∷ ks) calm g = calm_run (step R r k).1 ks calm.1 (calm_step r k ks calm g)

    pub calm_new : Goes_on (new_ring R b₀)
    unfolding new_ring
    calm_new = record {
      journal = [];
      due = suc;
      calmed = record {
        sound = sound_new R b₀ laws small;
        lines = refl;
        state = λ s x i. inl (ap (λ (z : Model S). z.core.state) (is_new s x i).1);
        begins = λ s x i. subst (λ (z : Model S). Begins z.core.journal []) (sym (is_new s x i).1) (begins_self []);
        each = λ s x i e. subst (λ (z : Model S). Resting (living (new_ring R b₀).stations) [] suc s z (line (new_ring R b₀) s)) (sym (is_new s x i).1) (record {
          feeds = refl;
          wish = λ m. wishes 8 m;
          heard = λ m on a ne d. inl (ap (λ (p : Peer). p.heard) (get_or-replicate 8 m fresh no_peer (omega (arith, on, small))));
        });
        view = λ q l a. has_everyone R.size q ∙ lt-ltb q R.size l;
        room = omega (arith, tally_most R.size (has (everyone R.size)), small);
        turns = record {
          low = λ s l. omega arith;
          high = λ s l. omega arith;
          own = λ s l. ap (λ z. z % R.size) (let e : suc s - 1 ≡ s = omega arith in e) ∙ mod-eq_of_lt l;
        };
      };
    }
      where
        fresh : Peer
        fresh = record { heard = true; known = 0; wish = None }

        is_new : (s : ℕ) (x : Model S) → slice_get (new_stations R.size b₀ 0 R.size) s ≡ Some x → (k : ℕ) × (x ≡ new_model k R.size b₀)
        is_new s x i =
            all_nth (λ (x : Model S). (k : ℕ) × (x ≡ new_model k R.size b₀)) (new_stations R.size b₀ 0 R.size) s x
            (all_new R b₀ laws small (λ (x : Model S). (k : ℕ) × (x ≡ new_model k R.size b₀)) (λ k. (k, refl)) 0 R.size) i

        wishes : (n m : ℕ) → (peer_at (replicate n fresh) m).wish ≡ None
        wishes zero m = refl
        wishes (suc n) zero = refl
        wishes (suc n) (suc m) = wishes n m

    pub together : (r : Ring S) → Quiet r → Goes_on r → Together r
    together r quiet g = record {
      states = g.calmed.state;
      journals = λ s m x y i j a b. has_it s x i a ∙ sym (has_it m y j b);
    }
      where
        has_it : (s : ℕ) (x : Model S) → Is r s x → x.core.state ≡ Running → x.core.journal ≡ g.journal
        has_it s x i e = subst (λ l. Feeds R.size R.vote s x.core.journal l g.journal) (quiet s x i e) (g.calmed.each s x i e).feeds

    pub calm_runs : (calls : List Call) → Calm R (new_ring R b₀) calls → Together (run R (new_ring R b₀) calls)
    calm_runs calls calm =
        let z = calm_run (new_ring R b₀) calls calm calm_new in
        together (run R (new_ring R b₀) calls) z.1 z.0
