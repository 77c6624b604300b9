-- A frame tells the truth about its sender's journal, and a station that takes it stays sound.
use Rattle.std.proofs.Common.{◌≡◌, ℕ, suc, ◌+◌, ◌≤◌, max, Bool, ◌&&◌, eqb, ltb, List, [], ◌∷◌, ◌++◌, map, length, take, set, Some, sym, refl, ◌∙◌, subst, arith}
use Rattle.std.specs.List.{AllByRecursion as All}
use Rattle.std.proofs.lemmas.Bool.{cond_both, eqb-true, and_parts}
use Rattle.std.proofs.lemmas.List.{length-set, length-map, length-append, length-take-le, take_all}
use Rattle.std.proofs.ByRecursion.{All-weaker}
use Rattle.protocol.specs.Frames.{sender_of}
use Rattle.protocol.specs.declared.entry.Body.{Body}
use Rattle.protocol.specs.declared.entry.Body.TheVariants.{Note as NoteBody, View}
use Rattle.protocol.specs.declared.entry.Entry.{Entry}
use Rattle.protocol.specs.declared.frame.Frame.{Frame}
use Rattle.protocol.specs.declared.frame.Frame.TheVariants.{Entry as EntryFrame, Heartbeat, Join}
use Rattle.vote.specs.Mask.{has}
use Rattle.journal.specs.declared.peer.Peer.{Peer}
use Rattle.journal.specs.declared.state.Cause.TheVariants.{Gap, PutOff}
use Rattle.journal.specs.declared.state.State.{State}
use Rattle.journal.specs.declared.state.State.TheVariants.{Running, Joining, Out}
use Rattle.journal.specs.Journal.{last_turn, holds, matches}
use Rattle.journal.specs.Peers.{peer_at, marked, heard_all, wished}
use Rattle.journal.specs.Core.{Core, with_state, with_peers}
use Rattle.taking.specs.declared.filing.Filing.{Filing}
use Rattle.taking.specs.declared.filing.Filing.TheVariants.{Held as Already, Next, Ahead, Stray}
use Rattle.taking.specs.Lawful.{lawful}
use Rattle.taking.specs.Take.{filing, raise, append, after_running, after_joining, entry_running, entry_joining, raise_match, hear_match, heartbeat_running, join_running, acts, received}
use Rattle.runs.specs.Promises.{Begins}
use Rattle.runs.proofs.Fronts.{begins_push, begins_self, begins_trans, begins_take}
use Rattle.runs.proofs.Ends.{last_of, EndsAt, same_last, holds_so, matches_so}
use Rattle.runs.proofs.Formed.{formed_front, formed_at, last_append}
use Rattle.runs.proofs.Worlds.{Journals, Grow, Part, World}
use Rattle.runs.proofs.Held.{Shared, shared_max, known_of, known_map, known_set, Holds, held_grow}

-- an entry after its front, which ends in the turn before it
pub record TrueEntry (j : List Entry) (e : Entry) (before : ℕ) : Type 0 where
  pub front : List Entry
  pub begins : Begins (front ++ e ∷ []) j
  pub last : before ≡ last_of front

pub record TrueEnd (j : List Entry) (p t : ℕ) : Type 0 where
  pub front : List Entry
  pub begins : Begins front j
  pub place : length front ≡ p
  pub turn : last_of front ≡ t

-- what a frame says holds of its sender's journal j
abbrev pub TrueOf : List Entry → Frame → Type 0
TrueOf j (EntryFrame _ e before) = TrueEntry j e before
TrueOf j (Heartbeat _ e) = TrueEnd j e.0 e.1
TrueOf j (Join _ e) = TrueEnd j e.0 e.1

pub true_grow : {j j' : List Entry} (f : Frame) → Begins j j' → TrueOf j f → TrueOf j' f
true_grow (EntryFrame _ e before) p h = record { front = h.front; begins = begins_trans h.begins p; last = h.last }
true_grow (Heartbeat _ e) p h = record { front = h.front; begins = begins_trans h.begins p; place = h.place; turn = h.turn }
true_grow (Join _ e) p h = record { front = h.front; begins = begins_trans h.begins p; place = h.place; turn = h.turn }

-- a frame of the ring
abbrev pub Truthful : Journals → Frame → Type 0
Truthful J f = TrueOf (J (sender_of f)) f

pub truthful_grow : {J J' : Journals} → Grow J J' → (fs : List Frame) → All (Truthful J) fs → All (Truthful J') fs
truthful_grow {J} {J'} g fs h = All-weaker (Truthful J) (Truthful J') (λ f. true_grow f (g (sender_of f))) fs h

-- which rule an entry falls under
pub filed : (P : Filing → Type 0) (j : List Entry) (e : Entry) (before : ℕ) →
    (EndsAt j e.place e.turn → P Already) → (e.place ≡ suc (length j) → before ≡ last_of j → P Next) → P Ahead → P Stray → P (filing j e before)
filed P j e before already next ahead stray =
    cond_both (holds j e.place e.turn) _ _ P (λ h. already (holds_so j e.place e.turn h))
    (λ _. cond_both (eqb e.place (length j + 1) && eqb before (last_turn j)) _ _ P
    (λ h. let c = and_parts (eqb e.place (length j + 1)) (eqb before (last_turn j)) h in
    let place : e.place ≡ suc (length j) = omega (arith, eqb-true e.place (length j + 1) c.0) in
    next place (eqb-true before (last_turn j) c.1 ∙ same_last j))
    (λ _. cond_both (ltb (length j + 1) e.place) Ahead Stray P (λ _. ahead) (λ _. stray)))

module _ (n : ℕ) (vote : ℕ → Bool) where
  -- what taking does to a station: its journal grows to one that is already there
  pub record Took (J : Journals) (m m' : Core) : Type 0 where
    pub more : Begins m.journal m'.journal
    pub part : Part J m'.journal
    pub holds : Holds n vote J m'

  set_held : (J : Journals) (m : Core) (s : ℕ) (p : Peer) → Holds n vote J m → Shared m.journal (J s) p.known → Holds n vote J (with_peers (set m.peers s p) m)
  set_held J m s p h k = record {
    peers = omega (arith, length-set m.peers s p, h.peers);
    known = known_set (λ q i. Shared m.journal (J q) i) m.peers s p k h.known;
    firm = h.firm;
  }

  raise_held : (J : Journals) (m : Core) (s k : ℕ) → Holds n vote J m → Shared m.journal (J s) k → Holds n vote J (raise s k m)
  raise_held J m s k h sh =
      set_held J m s (record { heard = (peer_at m.peers s).heard; known = max (peer_at m.peers s).known k; wish = (peer_at m.peers s).wish }) h
      (shared_max (known_of m.peers s) k (h.known s) sh)

  pub map_held : (J : Journals) (m : Core) (f : Peer → Peer) → ((p : Peer) → (f p).known ≡ p.known) → Holds n vote J m → Holds n vote J (with_peers (map f m.peers) m)
  map_held J m f e h = record {
    peers = omega (arith, length-map m.peers f, h.peers);
    known = λ q. subst (Shared m.journal (J q)) (sym (known_map f e m.peers q)) (h.known q);
    firm = h.firm;
  }

  module _ (J : Journals) (t : ℕ) (w : World n vote J t) where
    -- an end of the journal j that is true of station s's is shared with s
    end_shared : (j : List Entry) (s p u : ℕ) → Part J j → TrueEnd (J s) p u → EndsAt j p u → Shared j (J s) p
    end_shared j s p u own h e = record { fits = e.0; begins = subst (λ z. Begins z (J s)) same h.begins }
      where
        same : h.front ≡ take p j
        same =
            w.alike h.front (take p j) (record { at = s; begins = h.begins })
            (record { at = own.at; begins = begins_trans (begins_take p j) own.begins })
            (h.place ∙ sym (length-take-le p j e.0))
            (h.turn ∙ sym e.1)

    entry_place : (s : ℕ) (e : Entry) (before : ℕ) (h : TrueEntry (J s) e before) → e.place ≡ suc (length h.front)
    entry_place s e before h =
        let f = formed_at n vote t 0 h.front e [] (formed_front n vote t 0 (h.front ++ e ∷ []) (J s) h.begins (w.formed s)) in
        omega (arith, f.0)

    entry_end : (s : ℕ) (e : Entry) (before : ℕ) → TrueEntry (J s) e before → TrueEnd (J s) e.place e.turn
    entry_end s e before h = record {
      front = h.front ++ e ∷ [];
      begins = h.begins;
      place = omega (arith, entry_place s e before h, length-append h.front (e ∷ []));
      turn = last_append 0 h.front (e ∷ []);
    }

    module _ (m : Core) (own : Part J m.journal) (h : Holds n vote J m) where
      took_none : Took J m m
      took_none = record { more = begins_self m.journal; part = own; holds = h }

      -- a state does not matter
      took_state : (q : State) (m' : Core) → Took J m m' → Took J m (with_state q m')
      took_state q m' g = record { more = g.more; part = g.part; holds = g.holds }

      after_running_took : (m' : Core) (b : Body) → Took J m m' → Took J m (after_running b m')
      after_running_took m' (NoteBody _) g = g
      after_running_took m' (View v) g =
          cond_both (has v m'.me) m' (with_state (Out PutOff) m') (Took J m) (λ _. g) (λ _. took_state (Out PutOff) m' g)

      after_joining_took : (m' : Core) (b : Body) → Took J m m' → Took J m (after_joining b m')
      after_joining_took m' (NoteBody _) g = g
      after_joining_took m' (View v) g =
          cond_both (has v m'.me) (with_state Running (with_peers (heard_all m'.peers) m')) m' (Took J m)
          (λ _. record { more = g.more; part = g.part; holds = map_held J m' marked (λ _. refl) g.holds })
          (λ _. g)

      raise_took : (s k : ℕ) → Shared m.journal (J s) k → Took J m (raise s k m)
      raise_took s k sh = record { more = begins_self m.journal; part = own; holds = raise_held J m s k h sh }

      -- the entry is the next one of the sender's journal: the station now has what the sender has up to it
      append_took : (s : ℕ) (e : Entry) (before : ℕ) → TrueEntry (J s) e before → e.place ≡ suc (length m.journal) → before ≡ last_of m.journal →
          Took J m (append s e m)
      append_took s e before f p b = record {
        more = more;
        part = record { at = s; begins = here };
        holds = raise_held J grown s e.place (held_grow n vote (λ q. begins_self (J q)) more h)
            (record { fits = fits; begins = subst (λ z. Begins z (J s)) (sym all) here });
      }
        where
          grown : Core
          grown = record { me = m.me; roll = m.roll; state = m.state; journal = m.journal ++ e ∷ []; firm = m.firm; peers = m.peers }

          more : Begins m.journal (m.journal ++ e ∷ [])
          more = begins_push m.journal (e ∷ [])

          long : length (m.journal ++ e ∷ []) ≡ length m.journal + 1
          long = length-append m.journal (e ∷ [])

          front : f.front ≡ m.journal
          front =
              w.alike f.front m.journal
              (record { at = s; begins = begins_trans (begins_push f.front (e ∷ [])) f.begins })
              own
              (omega (arith, entry_place s e before f, p))
              (sym f.last ∙ b)

          here : Begins (m.journal ++ e ∷ []) (J s)
          here = subst (λ z. Begins (z ++ e ∷ []) (J s)) front f.begins

          fits : e.place ≤ length (m.journal ++ e ∷ [])
          fits = omega (arith, long, p)

          all : take e.place (m.journal ++ e ∷ []) ≡ m.journal ++ e ∷ []
          all = take_all e.place (m.journal ++ e ∷ []) (omega (arith, long, p))

      already_took : (s : ℕ) (e : Entry) (before : ℕ) → TrueEntry (J s) e before → EndsAt m.journal e.place e.turn → Took J m (raise s e.place m)
      already_took s e before f at = raise_took s e.place (end_shared m.journal s e.place e.turn own (entry_end s e before f) at)

      raise_match_took : (s : ℕ) (e : ℕ × ℕ) → TrueEnd (J s) e.0 e.1 → Took J m (raise_match s e m)
      raise_match_took s e f =
          cond_both (matches m.journal e) (raise s e.0 m) m (Took J m)
          (λ q. raise_took s e.0 (end_shared m.journal s e.0 e.1 own f (matches_so m.journal e q)))
          (λ _. took_none)

      hear_took : (s : ℕ) (m' : Core) → Took J m m' → Took J m (with_peers (set m'.peers s (marked (peer_at m'.peers s))) m')
      hear_took s m' g = record { more = g.more; part = g.part; holds = set_held J m' s (marked (peer_at m'.peers s)) g.holds (g.holds.known s) }

      heartbeat_took : (s : ℕ) (e : ℕ × ℕ) → TrueEnd (J s) e.0 e.1 → Took J m (heartbeat_running s e m)
      heartbeat_took s e f =
          cond_both (ltb (length m.journal) e.0) (with_state (Out Gap) m) (hear_match s e m) (Took J m)
          (λ _. took_state (Out Gap) m took_none)
          (λ _. cond_both (matches m.journal e && eqb e.0 (length m.journal)) _ (raise_match s e m) (Took J m)
          (λ q. let c = and_parts (matches m.journal e) (eqb e.0 (length m.journal)) q in
          hear_took s (raise s e.0 m) (raise_took s e.0 (end_shared m.journal s e.0 e.1 own f (matches_so m.journal e c.0))))
          (λ _. raise_match_took s e f))

    wish_held : (m : Core) (s : ℕ) (e : ℕ × ℕ) → Holds n vote J m → Holds n vote J (with_peers (wished s e m.peers) m)
    wish_held m s e h =
        set_held J m s (record { heard = (peer_at m.peers s).heard; known = (peer_at m.peers s).known; wish = Some e }) h (h.known s)

    join_took : (m : Core) (s : ℕ) (e : ℕ × ℕ) → Part J m.journal → Holds n vote J m → TrueEnd (J s) e.0 e.1 → Took J m (join_running s e m)
    join_took m s e own h f =
        let g = raise_match_took (with_peers (wished s e m.peers) m) own (wish_held m s e h) s e f in
        record { more = g.more; part = g.part; holds = g.holds }

    acts_took : (q : State) (f : Frame) (m : Core) → Part J m.journal → Holds n vote J m → Truthful J f → Took J m (acts q f m)
    acts_took Running (EntryFrame s e before) m own h f =
        filed (λ k. Took J m (entry_running k s e m)) m.journal e before
        (already_took m own h s e before f)
        (λ p b. let g = append_took m own h s e before f p b in after_running_took m own h (append s e m) e.body g)
        (took_state m own h (Out Gap) m (took_none m own h))
        (took_none m own h)
    acts_took Running (Heartbeat s e) m own h f = heartbeat_took m own h s e f
    acts_took Running (Join s e) m own h f = join_took m s e own h f
    acts_took Joining (EntryFrame s e before) m own h f =
        filed (λ k. Took J m (entry_joining k s e m)) m.journal e before
        (already_took m own h s e before f)
        (λ p b. let g = append_took m own h s e before f p b in after_joining_took m own h (append s e m) e.body g)
        (took_none m own h)
        (took_none m own h)
    acts_took Joining (Heartbeat s e) m own h f = raise_match_took m own h s e f
    acts_took Joining (Join s e) m own h f = took_none m own h
    acts_took (Out c) f m own h g = took_none m own h

    pub received_took : (m : Core) (f : Frame) → Part J m.journal → Holds n vote J m → Truthful J f → Took J m (received vote f m)
    received_took m f own h g =
        cond_both (lawful m.me m.roll vote f) (acts m.state f m) m (Took J m) (λ _. acts_took m.state f m own h g) (λ _. took_none m own h)
