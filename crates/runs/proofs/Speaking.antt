-- The turn of a running station in a calm ring: whom it puts off, what it posts, and what it has become.
use Rattle.std.proofs.Common.{◌≡◌, ℕ, zero, suc, ◌+◌, ◌^◌, ◌<◌, ◌≤◌, Bool, true, false, cond, not, ◌&&◌, eqb, ltb, ◌⊎◌, List, [], ◌∷◌, ◌++◌, map, length, None, sym, refl, ap, ◌∙◌, subst, inl, inr, arith}
use Rattle.std.specs.List.{AllByRecursion as All}
use Rattle.std.proofs.lemmas.Bool.{cond_both, cond-true, cases_Bool, and_from, both_ways, lt-ltb, ltb-true, eqb-true, eqb-false, not_from_false}
use Rattle.std.proofs.lemmas.List.{append-nil, append_assoc, length-append}
use Rattle.std.proofs.ByRecursion.{All-append}
use Rattle.protocol.specs.declared.note.Note.{Note}
use Rattle.protocol.specs.declared.entry.Body.{Body}
use Rattle.protocol.specs.declared.entry.Body.TheVariants.{Note as NoteBody, View}
use Rattle.protocol.specs.declared.entry.Entry.{Entry}
use Rattle.protocol.specs.declared.frame.Frame.{Frame}
use Rattle.protocol.specs.declared.frame.Frame.TheVariants.{Entry as EntryFrame, Heartbeat}
use Rattle.vote.specs.Mask.{has, everyone, removing}
use Rattle.vote.specs.Masks.{has_none, removing_le}
use Rattle.journal.specs.declared.peer.Peer.{Peer}
use Rattle.journal.specs.declared.state.State.TheVariants.{Running, Out}
use Rattle.journal.specs.declared.state.Cause.TheVariants.{Full}
use Rattle.journal.specs.Journal.{last_turn, end_of, view_after, newest_view}
use Rattle.journal.specs.Peers.{no_peer, peer_at, cleared}
use Rattle.journal.specs.Core.{Core, with_state, is_running}
use Rattle.journal.specs.Settle.{view, known_to_all}
use Rattle.turning.specs.Posts.{Posting, frames_of, next_entry, say_body}
use Rattle.turning.specs.Round.{going_back}
use Rattle.turning.specs.Steps.{Spoken, after_spoken, unheard, gone_of, put_off, asked, tried, served, any_wish, chosen, say_notes, pass_running}
use Rattle.turning.specs.Whole.{serve_or_say, then_pass, turn_as, whole_turn}
use Rattle.runs.specs.Masks.{mask_of}
use Rattle.runs.specs.Promises.{Laws}
use Rattle.runs.proofs.MaskFacts.{has_mask, mask_below, within_roll}
use Rattle.runs.proofs.Ends.{last_from, same_last}
use Rattle.runs.proofs.Formed.{last_append}
use Rattle.runs.proofs.Held.{known_of, known_map}
use Rattle.runs.proofs.Counting.{members, tally_most, Missed, gone_so, rest_has, rest_fewer}

frames_append : (s b : ℕ) (es : List Entry) (e : Entry) → frames_of s b (es ++ e ∷ []) ≡ frames_of s b es ++ frames_of s (last_from b es) (e ∷ [])
unfolding frames_of
frames_append s b [] e = refl
frames_append s b (d ∷ es) e = ap (λ z. EntryFrame s d b ∷ z) (frames_append s d.turn es e)

newest_append : (v : ℕ) (j : List Entry) (e : Entry) → newest_view v (j ++ e ∷ []) ≡ view_after (newest_view v j) e.body
newest_append v [] e = refl
newest_append v (d ∷ j) e = newest_append (view_after v d.body) j e

-- a peer by place, after a change of all
peers_map : (P : Peer → Type 0) (f : Peer → Peer) → ((p : Peer) → P (f p)) → P no_peer → (ps : List Peer) (k : ℕ) → P (peer_at (map f ps) k)
peers_map P f h z [] k = z
peers_map P f h z (p ∷ ps) zero = h p
peers_map P f h z (p ∷ ps) (suc k) = peers_map P f h z ps k

-- where no wish stands, none is chosen
none_served : (v : ℕ) (m : Core) → ((q : ℕ) → (peer_at m.peers q).wish ≡ None) → (ks : List ℕ) → served v m ks ≡ None
unfolding served
none_served v m w [] = refl
none_served v m w (k ∷ ks) = ap (λ o. tried v m k (asked m.journal o) (served v m ks)) (w k) ∙ none_served v m w ks

none_chosen : (m : Core) → ((q : ℕ) → (peer_at m.peers q).wish ≡ None) → chosen m ≡ None
unfolding chosen
none_chosen m w =
    cond_both (any_wish m.peers) _ _ (λ o. o ≡ None) (λ _. none_served (view m) m w (going_back m.roll m.me)) (λ _. refl)

module _ (n : ℕ) (vote : ℕ → Bool) (laws : Laws n vote) (small : n ≤ 8) (alive : ℕ → Bool) where
  abbrev pub Room : Core → Type 0
  Room m = length m.journal + members n (view m) ≤ 248

  -- a view keeps every running station
  abbrev pub KeepsAll : Body → Type 0
  KeepsAll (NoteBody _) = Unit {0}
  KeepsAll (View w) = (q : ℕ) → q < n → alive q ≡ true → has w q ≡ true

  -- the turn of m as the others see it: it becomes c and posts fs
  pub record Talked (m c : Core) (fs : List Frame) : Type 0 where
    pub more : List Entry
    pub joins : c.journal ≡ m.journal ++ more
    pub frames : fs ≡ frames_of m.me (last_turn m.journal) more ++ Heartbeat m.me (end_of (m.journal ++ more)) ∷ []
    pub state : c.state ≡ Running
    pub few : length more ≤ 9
    pub keeps : All (λ e. KeepsAll e.body) more
    pub newest : (k : ℕ) → has (view c) k ≡ (has (view m) k && not (has (gone_of m) k))
    pub seen : (k : ℕ) → k < n → alive k ≡ true → has (view c) k ≡ true
    pub room : Room c
    pub wish : (k : ℕ) → (peer_at c.peers k).wish ≡ None
    pub heard : (k : ℕ) → (peer_at c.peers k).heard ≡ false
    pub known : (k : ℕ) → (peer_at c.peers k).known ≡ (peer_at m.peers k).known
    pub firm : m.firm ≤ c.firm
    pub settled : known_to_all c ≤ c.firm

  module _ (t : ℕ) (m : Core) (on : m.me < n) (sized : m.roll ≡ n) (low : view m < 2 ^ n) (run : m.state ≡ Running)
      (votes : vote (mask_of n alive) ≡ true)
      (sees : (q : ℕ) → q < n → alive q ≡ true → has (view m) q ≡ true)
      (hears : (q : ℕ) → q < n → alive q ≡ true → (q ≡ m.me → ⊥) → (peer_at m.peers q).heard ≡ true)
      (wishes : (q : ℕ) → (peer_at m.peers q).wish ≡ None)
      (roomy : Room m) where
    -- so far in the turn
    record Spoke (k : ℕ) (c : Core) (fs : List Frame) : Type 0 where
      me : c.me ≡ m.me
      roll : c.roll ≡ m.roll
      more : List Entry
      joins : c.journal ≡ m.journal ++ more
      frames : fs ≡ frames_of m.me (last_turn m.journal) more
      state : c.state ≡ Running
      peers : c.peers ≡ m.peers
      firm : c.firm ≡ m.firm
      few : length more ≤ k
      keeps : All (λ e. KeepsAll e.body) more
      newest : (k : ℕ) → has (view c) k ≡ (has (view m) k && not (has (gone_of m) k))
      room : Room c

    -- what is known of the unheard, on the ring's roll
    at_gone : (P : ℕ → Type 0) → P (unheard (view m) m.peers (going_back n m.me) 0) → P (gone_of m)
    at_gone P h = subst (λ r. P (unheard (view m) m.peers (going_back r m.me) 0)) (sym sized) h

    gone_all : (k : ℕ) → has (gone_of m) k ≡ true → ((k < n) × (k ≡ m.me → ⊥)) × Missed (view m) m.peers k
    gone_all = at_gone (λ g. (k : ℕ) → has g k ≡ true → ((k < n) × (k ≡ m.me → ⊥)) × Missed (view m) m.peers k) (gone_so n m.me (view m) m.peers small on)

    without : (k : ℕ) → has (removing (view m) (gone_of m)) k ≡ (has (view m) k && not (has (gone_of m) k))
    without = at_gone (λ g. (k : ℕ) → has (removing (view m) g) k ≡ (has (view m) k && not (has g k))) (rest_has n m.me (view m) m.peers small on low)

    fewer : (gone_of m ≡ 0 → ⊥) → members n (removing (view m) (gone_of m)) < members n (view m)
    fewer = at_gone (λ g. (g ≡ 0 → ⊥) → members n (removing (view m) g) < members n (view m)) (rest_fewer n m.me (view m) m.peers small on low)

    alive_stays : (q : ℕ) → q < n → alive q ≡ true → has (gone_of m) q ≡ false
    alive_stays q l a = go (cases_Bool (has (gone_of m) q))
      where
        go : (has (gone_of m) q ≡ true) ⊎ (has (gone_of m) q ≡ false) → has (gone_of m) q ≡ false
        go (inr e) = e
        go (inl e) = let z = gone_all q e in absurd (both_ways (peer_at m.peers q).heard z.1.1 (hears q l a z.0.1))

    rest : ℕ
    rest = removing (view m) (gone_of m)

    kept : (q : ℕ) → q < n → alive q ≡ true → (has (view m) q && not (has (gone_of m) q)) ≡ true
    kept q l a = and_from (has (view m) q) (not (has (gone_of m) q)) (sees q l a) (not_from_false (has (gone_of m) q) (alive_stays q l a))

    rest_keeps : (q : ℕ) → q < n → alive q ≡ true → has rest q ≡ true
    unfolding rest
    rest_keeps q l a = without q ∙ kept q l a

    rest_votes : vote rest ≡ true
    unfolding rest
    rest_votes =
        laws.grows (mask_of n alive) rest (mask_below n alive) (omega (arith, removing_le (view m) (gone_of m), low))
        (within_roll n (mask_of n alive) rest (mask_below n alive) (λ q l e. rest_keeps q l (sym (has_mask n alive q l) ∙ e)))
        votes

    and_true : (b : Bool) → b ≡ (b && not false)
    and_true true = refl
    and_true false = refl

    spoke_none : gone_of m ≡ 0 → Spoke 1 m []
    unfolding frames_of
    spoke_none e = record {
      me = refl;
      roll = refl;
      more = [];
      joins = sym (append-nil m.journal);
      frames = refl;
      state = run;
      peers = refl;
      firm = refl;
      few = omega arith;
      keeps = tt;
      newest = λ k. and_true (has (view m) k) ∙ ap (λ z. has (view m) k && not z) (sym (ap (λ g. has g k) e ∙ has_none k));
      room = roomy;
    }

    spoke_rest : (gone_of m ≡ 0 → ⊥) → Spoke 1 (say_body t (View rest) m).0 (say_body t (View rest) m).1
    unfolding rest frames_of
    spoke_rest some = record {
      me = refl;
      roll = refl;
      more = d ∷ [];
      joins = refl;
      frames = refl;
      state = run;
      peers = refl;
      firm = refl;
      few = omega arith;
      keeps = (rest_keeps, tt);
      newest = λ k. ap (λ z. has z k) newest ∙ without k;
      room = subst (λ z. length (m.journal ++ d ∷ []) + members n z ≤ 248) (sym newest) (omega (arith, length-append m.journal (d ∷ []), roomy, fewer some));
    }
      where
        d : Entry
        d = next_entry t (View rest) m.journal

        newest : newest_view (everyone m.roll) (m.journal ++ d ∷ []) ≡ rest
        newest = newest_append (everyone m.roll) m.journal d

    spoke_put_off : Spoke 1 (put_off vote t m).0 (put_off vote t m).1
    unfolding put_off rest
    spoke_put_off =
        cond_both (eqb (gone_of m) 0) (m, []) _ (λ (q : Posting). Spoke 1 q.0 q.1) (λ e. spoke_none (eqb-true (gone_of m) 0 e))
        (λ e. subst (λ (q : Posting). Spoke 1 q.0 q.1)
        (sym (cond-true (vote rest) (cond (ltb (length m.journal) 256) (say_body t (View rest) m) (with_state (Out Full) m, [])) _ rest_votes ∙
        cond-true (ltb (length m.journal) 256) (say_body t (View rest) m) _ (lt-ltb (length m.journal) 256 (omega (arith, roomy)))))
        (spoke_rest (eqb-false (gone_of m) 0 e)))

    spoke_note : (k : ℕ) (note : Note) (c : Core) (fs : List Frame) → length c.journal < 240 → Spoke k c fs →
        Spoke (suc k) (say_body t (NoteBody note) c).0 (fs ++ (say_body t (NoteBody note) c).1)
    unfolding frames_of
    spoke_note k note c fs l h = record {
      me = h.me;
      roll = h.roll;
      more = h.more ++ d ∷ [];
      joins = ap (λ z. z ++ d ∷ []) h.joins ∙ append_assoc m.journal h.more (d ∷ []);
      frames =
          ap (λ z. z ++ EntryFrame c.me d (last_turn c.journal) ∷ []) h.frames ∙
          (ap (λ s. frames_of m.me (last_turn m.journal) h.more ++ EntryFrame s d (last_turn c.journal) ∷ []) h.me ∙
          (ap (λ z. frames_of m.me (last_turn m.journal) h.more ++ EntryFrame m.me d z ∷ []) last ∙
          sym (frames_append m.me (last_turn m.journal) h.more d)));
      state = h.state;
      peers = h.peers;
      firm = h.firm;
      few = omega (arith, length-append h.more (d ∷ []), h.few);
      keeps = All-append (λ e. KeepsAll e.body) h.more (d ∷ []) h.keeps (tt, tt);
      newest = λ q. ap (λ z. has z q) newest ∙ h.newest q;
      room = subst (λ z. length (c.journal ++ d ∷ []) + members n z ≤ 248) (sym newest)
          (omega (arith, length-append c.journal (d ∷ []), l, tally_most n (has (view c)), small));
    }
      where
        d : Entry
        d = next_entry t (NoteBody note) c.journal

        newest : newest_view (everyone c.roll) (c.journal ++ d ∷ []) ≡ view c
        newest = newest_append (everyone c.roll) c.journal d

        last : last_turn c.journal ≡ last_from (last_turn m.journal) h.more
        last =
            same_last c.journal ∙
            (ap (last_from 0) h.joins ∙ (last_append 0 m.journal h.more ∙ ap (λ b. last_from b h.more) (sym (same_last m.journal))))

    spoke_more : (k i : ℕ) (c : Core) (fs gs : List Frame) → k ≤ i → fs ≡ gs → Spoke k c fs → Spoke i c gs
    spoke_more k i c fs gs l e h = record {
      me = h.me;
      roll = h.roll;
      more = h.more;
      joins = h.joins;
      frames = sym e ∙ h.frames;
      state = h.state;
      peers = h.peers;
      firm = h.firm;
      few = omega (arith, h.few);
      keeps = h.keeps;
      newest = h.newest;
      room = h.room;
    }

    spoke_notes : (i k : ℕ) (notes : List Note) (c : Core) (fs : List Frame) → Spoke k c fs → Spoke (i + k) (say_notes i t notes c).1.0 (fs ++ (say_notes i t notes c).1.1)
    unfolding say_notes
    spoke_notes zero k notes c fs h = spoke_more k (0 + k) c fs (fs ++ []) (omega arith) (sym (append-nil fs)) h
    spoke_notes (suc i) k [] c fs h = spoke_more k (suc i + k) c fs (fs ++ []) (omega arith) (sym (append-nil fs)) h
    spoke_notes (suc i) k (note ∷ notes) c fs h =
        cond_both (ltb (length c.journal) 240) (after_spoken (say_body t (NoteBody note) c).1 (say_notes i t notes (say_body t (NoteBody note) c).0)) (note ∷ notes, (c, []))
        (λ (r : Spoken). Spoke (suc i + k) r.1.0 (fs ++ r.1.1))
        (λ e.
        spoke_more (i + suc k) (suc i + k) (say_notes i t notes (say_body t (NoteBody note) c).0).1.0 _ _ (omega arith)
        (append_assoc fs (say_body t (NoteBody note) c).1 (say_notes i t notes (say_body t (NoteBody note) c).0).1.1)
        (spoke_notes i (suc k) notes (say_body t (NoteBody note) c).0 (fs ++ (say_body t (NoteBody note) c).1) (spoke_note k note c fs (ltb-true (length c.journal) 240 e) h)))
        (λ _. spoke_more k (suc i + k) c fs (fs ++ []) (omega arith) (sym (append-nil fs)) h)

    talked_pass : (c : Core) (fs : List Frame) → Spoke 9 c fs → Talked m (pass_running c).0 (fs ++ (pass_running c).1)
    talked_pass c fs h = record {
      more = h.more;
      joins = h.joins;
      frames =
          ap (λ z. z ++ Heartbeat c.me (end_of c.journal) ∷ []) h.frames ∙
          (ap (λ s. frames_of m.me (last_turn m.journal) h.more ++ Heartbeat s (end_of c.journal) ∷ []) h.me ∙
          ap (λ z. frames_of m.me (last_turn m.journal) h.more ++ Heartbeat m.me (end_of z) ∷ []) h.joins);
      state = h.state;
      few = h.few;
      keeps = h.keeps;
      newest = h.newest;
      room = h.room;
      seen = λ k l a. h.newest k ∙ kept k l a;
      wish = peers_map (λ p. p.wish ≡ None) cleared (λ _. refl) refl c.peers;
      heard = peers_map (λ p. p.heard ≡ false) cleared (λ _. refl) refl c.peers;
      known = λ k. known_map cleared (λ _. refl) c.peers k ∙ ap (λ ps. known_of ps k) h.peers;
      firm = omega (arith, h.firm);
      settled = omega arith;
    }

    turn_is : (ns : List Note) → whole_turn vote t ns m ≡ after_spoken (put_off vote t m).1 (then_pass (say_notes 8 t ns (put_off vote t m).0))
    unfolding whole_turn
    turn_is ns =
        ap (λ q. turn_as q vote t ns m) run ∙
        (cond-true (is_running (put_off vote t m).0.state) (after_spoken (put_off vote t m).1 (then_pass (serve_or_say t (chosen (put_off vote t m).0) ns (put_off vote t m).0))) _
        (ap is_running spoke_put_off.state) ∙
        ap (λ o. after_spoken (put_off vote t m).1 (then_pass (serve_or_say t o ns (put_off vote t m).0)))
        (none_chosen (put_off vote t m).0 (λ q. ap (λ ps. (peer_at ps q).wish) spoke_put_off.peers ∙ wishes q)))

    pub talked : (ns : List Note) → Talked m (whole_turn vote t ns m).1.0 (whole_turn vote t ns m).1.1
    talked ns =
        let q = put_off vote t m in
        let r = say_notes 8 t ns q.0 in
        subst (λ (z : Spoken). Talked m z.1.0 z.1.1) (sym (turn_is ns))
        (subst (Talked m (pass_running r.1.0).0) (append_assoc q.1 r.1.1 (pass_running r.1.0).1)
        (talked_pass r.1.0 (q.1 ++ r.1.1) (spoke_notes 8 1 ns q.0 q.1 spoke_put_off)))
