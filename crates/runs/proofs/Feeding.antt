-- A line that holds just what a running station lacks of a journal, in order, and heartbeats at the right places.
use Rattle.std.proofs.Common.{◌≡◌, ℕ, suc, ◌+◌, ◌<◌, ◌≤◌, max, Bool, true, ◌&&◌, eqb, ltb, leb, ◌⊎◌, List, [], ◌∷◌, ◌++◌, length, set, sym, refl, ap, ◌∙◌, subst, inl, inr, arith}
use Rattle.std.proofs.lemmas.Bool.{cond-true, cond-false, and_from, and_left, and_right, lt-leb, le-ltb, eq-eqb, cases_eq, cases_lt}
use Rattle.std.proofs.lemmas.List.{get_or-set_same, get_or-set_other, length-set, length-append, set_past}
use Rattle.protocol.specs.declared.entry.Body.{Body}
use Rattle.protocol.specs.declared.entry.Body.TheVariants.{Note as NoteBody, View}
use Rattle.protocol.specs.declared.entry.Entry.{Entry}
use Rattle.protocol.specs.declared.frame.Frame.{Frame}
use Rattle.protocol.specs.declared.frame.Frame.TheVariants.{Entry as EntryFrame, Heartbeat, Join}
use Rattle.vote.specs.Mask.{has}
use Rattle.journal.specs.declared.peer.Peer.{Peer}
use Rattle.journal.specs.declared.state.Cause.TheVariants.{Gap, PutOff}
use Rattle.journal.specs.declared.state.State.TheVariants.{Running, Out}
use Rattle.journal.specs.Journal.{last_turn, end_of, holds, matches, turn_at}
use Rattle.journal.specs.Peers.{no_peer, peer_at, marked, raised, heard_one}
use Rattle.journal.specs.Core.{Core, with_state, with_peers, is_out}
use Rattle.journal.specs.Settle.{settle, settle_on}
use Rattle.taking.specs.declared.filing.Filing.TheVariants.{Held, Next as NextOne}
use Rattle.taking.specs.Lawful.{lawful}
use Rattle.taking.specs.Take.{filing, append, after_running, entry_running, raise_match, hear_match, acts, taken}
use Rattle.runs.specs.Promises.{Begins}
use Rattle.runs.proofs.Fronts.{begins_push, begins_self, begins_trans}
use Rattle.runs.proofs.Ends.{last_of, same_last, end_matches}

-- a view has station s
abbrev pub Keeps : ℕ → Body → Type 0
Keeps s (NoteBody _) = Unit {0}
Keeps s (View w) = has w s ≡ true

-- a frame is a heartbeat of q
abbrev pub Tells : ℕ → Frame → Type 0
Tells q (EntryFrame _ _ _) = ⊥
Tells q (Heartbeat k _) = k ≡ q
Tells q (Join _ _) = ⊥

-- a peer after a write of peer k
peer_set : (P : ℕ → Peer → Type 0) (ps : List Peer) (k : ℕ) (p : Peer) → P k p → ((q : ℕ) → P q (peer_at ps q)) → (q : ℕ) → P q (peer_at (set ps k p) q)
peer_set P ps k p h g q = go (cases_eq q k) (cases_lt k (length ps))
  where
    go : (q ≡ k) ⊎ (q ≡ k → ⊥) → (k < length ps) ⊎ (length ps ≤ k) → P q (peer_at (set ps k p) q)
    go (inl e) (inl l) = subst (λ z. P z (peer_at (set ps k p) z)) (sym e) (subst (P k) (sym (get_or-set_same ps k p no_peer l)) h)
    go (inl e) (inr l) = subst (λ z. P q (peer_at z q)) (sym (set_past ps k p l)) (g q)
    go (inr e) l = subst (P q) (sym (get_or-set_other ps k q p no_peer e)) (g q)

-- a peer that differs from the old one only by a greater known place
abbrev Raised : Peer → Peer → Type 0
Raised p q = (q.wish ≡ p.wish) × (q.heard ≡ p.heard) × (p.known ≤ q.known)

raise_peers : (ps : List Peer) (s k q : ℕ) → Raised (peer_at ps q) (peer_at (raised s k ps) q)
raise_peers ps s k =
    peer_set (λ q p. Raised (peer_at ps q) p) ps s (record { heard = (peer_at ps s).heard; known = max (peer_at ps s).known k; wish = (peer_at ps s).wish })
    (refl, refl, omega arith) (λ q. (refl, refl, omega arith))

module _ (n : ℕ) (vote : ℕ → Bool) where
  pub record Next (s q : ℕ) (j : List Entry) (e : Entry) (before : ℕ) : Type 0 where
    pub lawful : lawful s n vote (EntryFrame q e before) ≡ true
    pub place : e.place ≡ suc (length j)
    pub last : before ≡ last_of j
    pub keeps : Keeps s e.body

  pub record Beat (s q : ℕ) (j : List Entry) (p : ℕ × ℕ) : Type 0 where
    pub lawful : lawful s n vote (Heartbeat q p) ≡ true
    pub is : p ≡ end_of j
    pub roll : q < n

  abbrev pub Feeds : ℕ → List Entry → List Frame → List Entry → Type 0
  Feeds s j [] c = j ≡ c
  Feeds s j (EntryFrame q e before ∷ l) c = Next s q j e before × Feeds s (j ++ e ∷ []) l c
  Feeds s j (Heartbeat q p ∷ l) c = Beat s q j p × Feeds s j l c
  Feeds s j (Join q p ∷ l) c = ⊥

  -- what taking the next frame does to a running station
  pub record Fed (s : ℕ) (f : Frame) (l : List Frame) (c : List Entry) (m m' : Core) : Type 0 where
    pub running : m'.state ≡ Running
    pub feeds : Feeds s m'.journal l c
    pub longer : length m.journal ≤ length m'.journal
    pub firm : m.firm ≤ m'.firm
    pub wish : (q : ℕ) → (peer_at m'.peers q).wish ≡ (peer_at m.peers q).wish
    pub heard : (q : ℕ) → (peer_at m.peers q).heard ≡ true → (peer_at m'.peers q).heard ≡ true
    pub told : (q : ℕ) → Tells q f → (peer_at m'.peers q).heard ≡ true
    pub silent : (q : ℕ) → (Tells q f → ⊥) → (peer_at m'.peers q).heard ≡ (peer_at m.peers q).heard
    pub known : (q : ℕ) → (peer_at m.peers q).known ≤ (peer_at m'.peers q).known
    pub known_told : (q : ℕ) → Tells q f → length m'.journal ≤ (peer_at m'.peers q).known

  settled_is : (m : Core) → m.state ≡ Running → settle_on m ≡ settle m
  settled_is m run = cond-false (is_out m.state) m (settle m) (ap is_out run)

  -- station s, which runs
  module _ (s : ℕ) (m : Core) (run : m.state ≡ Running) (mine : m.me ≡ s) (sized : m.roll ≡ n) where
    -- a lawful frame is acted on
    acted : (f : Frame) → lawful s n vote f ≡ true → taken vote f m ≡ settle_on (acts Running f m)
    acted f h =
        ap settle_on
        (cond-true (lawful m.me m.roll vote f) (acts m.state f m) m
        (ap (λ k. lawful k m.roll vote f) mine ∙ (ap (λ k. lawful s k vote f) sized ∙ h)) ∙
        ap (λ q. acts q f m) run)

    kept : (b : Body) (c : Core) → c.me ≡ s → Keeps s b → after_running b c ≡ c
    kept (NoteBody _) c e k = refl
    kept (View w) c e k = cond-true (has w c.me) c (with_state (Out PutOff) c) (ap (has w) e ∙ k)

    next_is : (q : ℕ) (e : Entry) (before : ℕ) → Next s q m.journal e before → filing m.journal e before ≡ NextOne
    next_is q e before h =
        cond-false (holds m.journal e.place e.turn) Held _
        (and_right (ltb 0 e.place) (leb e.place (length m.journal) && eqb (turn_at m.journal e.place) e.turn)
        (and_left (leb e.place (length m.journal)) (eqb (turn_at m.journal e.place) e.turn)
        (lt-leb e.place (length m.journal) (omega (arith, h.place))))) ∙
        cond-true (eqb e.place (length m.journal + 1) && eqb before (last_turn m.journal)) NextOne _
        (and_from (eqb e.place (length m.journal + 1)) (eqb before (last_turn m.journal))
        (eq-eqb e.place (length m.journal + 1) (omega (arith, h.place)))
        (eq-eqb before (last_turn m.journal) (h.last ∙ sym (same_last m.journal))))

    entry_is : (q : ℕ) (e : Entry) (before : ℕ) → Next s q m.journal e before → taken vote (EntryFrame q e before) m ≡ settle (append q e m)
    entry_is q e before h =
        acted (EntryFrame q e before) h.lawful ∙
        (ap settle_on (ap (λ k. entry_running k q e m) (next_is q e before h) ∙ kept e.body (append q e m) mine h.keeps) ∙
        settled_is (append q e m) run)

    beat_is : (q : ℕ) (p : ℕ × ℕ) → Beat s q m.journal p → taken vote (Heartbeat q p) m ≡ settle (with_peers (heard_one q (raised q p.0 m.peers)) m)
    beat_is q p h =
        acted (Heartbeat q p) h.lawful ∙
        (ap settle_on
        (cond-false (ltb (length m.journal) p.0) (with_state (Out Gap) m) (hear_match q p m) (le-ltb (length m.journal) p.0 (omega (arith, long))) ∙
        cond-true (matches m.journal p && eqb p.0 (length m.journal)) _ (raise_match q p m)
        (and_from (matches m.journal p) (eqb p.0 (length m.journal))
        (ap (matches m.journal) h.is ∙ end_matches m.journal) (eq-eqb p.0 (length m.journal) long))) ∙
        settled_is (with_peers (heard_one q (raised q p.0 m.peers)) m) run)
      where
        long : p.0 ≡ length m.journal
        long = ap (λ (z : ℕ × ℕ). z.0) h.is

    entry_fed : (q : ℕ) (e : Entry) (before : ℕ) (l : List Frame) (c : List Entry) → Feeds s m.journal (EntryFrame q e before ∷ l) c →
        Fed s (EntryFrame q e before) l c m (taken vote (EntryFrame q e before) m)
    entry_fed q e before l c h =
        subst (Fed s (EntryFrame q e before) l c m) (sym (entry_is q e before h.0))
        (record {
          running = run;
          feeds = h.1;
          longer = omega (arith, length-append m.journal (e ∷ []));
          firm = omega arith;
          wish = λ k. (raise_peers m.peers q e.place k).0;
          heard = λ k i. (raise_peers m.peers q e.place k).1 ∙ i;
          told = λ k i. absurd i;
          silent = λ k i. (raise_peers m.peers q e.place k).1;
          known = λ k. (raise_peers m.peers q e.place k).2;
          known_told = λ k i. absurd i;
        })

    beat_fed : (q : ℕ) (p : ℕ × ℕ) (l : List Frame) (c : List Entry) → n ≤ length m.peers → Feeds s m.journal (Heartbeat q p ∷ l) c →
        Fed s (Heartbeat q p) l c m (taken vote (Heartbeat q p) m)
    beat_fed q p l c size h =
        subst (Fed s (Heartbeat q p) l c m) (sym (beat_is q p h.0))
        (record {
          running = run;
          feeds = h.1;
          longer = omega arith;
          firm = omega arith;
          wish = λ k. (each k).0;
          heard = λ k i. (each k).1 i;
          told = λ k i. subst (λ z. (peer_at (heard_one q ps) z).heard ≡ true) i (ap (λ (w : Peer). w.heard) here);
          silent = λ k i. other k i;
          known = λ k. (each k).2;
          known_told = λ k i. subst (λ z. length m.journal ≤ (peer_at (heard_one q ps) z).known) i
              (subst (λ (w : Peer). length m.journal ≤ w.known) (sym here) high);
        })
      where
        ps : List Peer
        ps = raised q p.0 m.peers

        up : Peer
        up = marked (peer_at ps q)

        here : peer_at (heard_one q ps) q ≡ up
        here = get_or-set_same ps q up no_peer (omega (arith, length-set m.peers q (record { heard = (peer_at m.peers q).heard; known = max (peer_at m.peers q).known p.0; wish = (peer_at m.peers q).wish }), size, h.0.roll))

        was : peer_at ps q ≡ record { heard = (peer_at m.peers q).heard; known = max (peer_at m.peers q).known p.0; wish = (peer_at m.peers q).wish }
        was = get_or-set_same m.peers q _ no_peer (omega (arith, size, h.0.roll))

        high : length m.journal ≤ (peer_at ps q).known
        high = subst (λ (w : Peer). length m.journal ≤ w.known) (sym was) (omega (arith, ap (λ (z : ℕ × ℕ). z.0) h.0.is))

        each : (k : ℕ) → ((peer_at (heard_one q ps) k).wish ≡ (peer_at m.peers k).wish) × ((peer_at m.peers k).heard ≡ true → (peer_at (heard_one q ps) k).heard ≡ true) × ((peer_at m.peers k).known ≤ (peer_at (heard_one q ps) k).known)
        each =
            peer_set (λ k w. (w.wish ≡ (peer_at m.peers k).wish) × ((peer_at m.peers k).heard ≡ true → w.heard ≡ true) × ((peer_at m.peers k).known ≤ w.known)) ps q up
            ((raise_peers m.peers q p.0 q).0, (λ _. refl), (raise_peers m.peers q p.0 q).2)
            (λ k. ((raise_peers m.peers q p.0 k).0, (λ i. (raise_peers m.peers q p.0 k).1 ∙ i), (raise_peers m.peers q p.0 k).2))

        other : (k : ℕ) → (q ≡ k → ⊥) → (peer_at (heard_one q ps) k).heard ≡ (peer_at m.peers k).heard
        other k ne = ap (λ (w : Peer). w.heard) (get_or-set_other ps q k up no_peer (λ i. ne (sym i))) ∙ (raise_peers m.peers q p.0 k).1

    pub take_fed : (f : Frame) (l : List Frame) (c : List Entry) → n ≤ length m.peers → Feeds s m.journal (f ∷ l) c → Fed s f l c m (taken vote f m)
    take_fed (EntryFrame q e before) l c size h = entry_fed q e before l c h
    take_fed (Heartbeat q p) l c size h = beat_fed q p l c size h
    take_fed (Join q p) l c size h = absurd h

  -- a fed journal begins the common one
  pub feeds_begins : (s : ℕ) (j : List Entry) (l : List Frame) (c : List Entry) → Feeds s j l c → Begins j c
  feeds_begins s j [] c h = subst (Begins j) h (begins_self j)
  feeds_begins s j (EntryFrame q e before ∷ l) c h = begins_trans (begins_push j (e ∷ [])) (feeds_begins s (j ++ e ∷ []) l c h.1)
  feeds_begins s j (Heartbeat q p ∷ l) c h = feeds_begins s j l c h.1
  feeds_begins s j (Join q p ∷ l) c h = absurd h
