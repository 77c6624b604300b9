-- What a turn does to a station: entries of its turn, frames that tell the truth, and a sound firm part.
use Rattle.std.proofs.Common.{◌≡◌, ℕ, zero, suc, ◌^◌, ◌<◌, ◌≤◌, Bool, true, false, cond, eqb, ltb, ◌⊎◌, List, [], ◌∷◌, ◌++◌, length, take, drop, Some, None, Option, sym, refl, ap, ◌∙◌, subst, inl, inr, arith}
use Rattle.std.specs.List.{AllByRecursion as All}
use Rattle.std.proofs.lemmas.Bool.{cond_both, cases_lt}
use Rattle.std.proofs.lemmas.List.{append_assoc, append-nil, length-append, take-append-drop, drop_all}
use Rattle.std.proofs.ByRecursion.{All-append, All-weaker}
use Rattle.protocol.specs.Frames.{sender_of}
use Rattle.protocol.specs.declared.note.Note.{Note}
use Rattle.protocol.specs.declared.entry.Body.{Body}
use Rattle.protocol.specs.declared.entry.Body.TheVariants.{Note as NoteBody, View}
use Rattle.protocol.specs.declared.entry.Entry.{Entry}
use Rattle.protocol.specs.declared.frame.Frame.{Frame}
use Rattle.protocol.specs.declared.frame.Frame.TheVariants.{Entry as EntryFrame, Heartbeat, Join}
use Rattle.vote.specs.Mask.{everyone, adding, removing}
use Rattle.vote.specs.Masks.{everyone_below, removing_le, adding_below, within_adding}
use Rattle.journal.specs.declared.state.State.{State}
use Rattle.journal.specs.declared.state.State.TheVariants.{Running, Joining, Out}
use Rattle.journal.specs.declared.state.Cause.TheVariants.{Outvoted, Full}
use Rattle.journal.specs.declared.peer.Peer.{Peer}
use Rattle.journal.specs.Journal.{last_turn, turn_at, end_of, newest_view}
use Rattle.journal.specs.Peers.{cleared, unmarked}
use Rattle.journal.specs.Core.{Core, with_state, with_peers, is_running}
use Rattle.journal.specs.Settle.{view, settle}
use Rattle.turning.specs.Posts.{Posting, frames_of, next_entry, say_body}
use Rattle.turning.specs.Round.{going_back, going_on}
use Rattle.turning.specs.Steps.{Spoken, after_spoken, gone_of, put_off, first_is, tried, served, any_wish, chosen, lets_in, serve, say_notes, pass_running}
use Rattle.turning.specs.Whole.{serve_or_say, then_pass, after_put_off, turn_as, whole_turn}
use Rattle.runs.specs.Promises.{Begins, Laws}
use Rattle.runs.proofs.Fronts.{begins_push, begins_self}
use Rattle.runs.proofs.Ends.{last_of, same_last, same_turn}
use Rattle.runs.proofs.Formed.{Strong, SoundBody, Formed, formed_append, formed_later, newest_strong, last_append, OfTurn}
use Rattle.runs.proofs.Worlds.{Journals}
use Rattle.runs.proofs.Held.{Held, Holds, settle_held}
use Rattle.runs.proofs.Taking.{TrueOf, true_grow, map_held}
use Rattle.runs.proofs.Circle.{back_others}

-- a frame of station s, whose journal is j
abbrev pub Posted : ℕ → List Entry → Frame → Type 0
Posted s j f = (sender_of f ≡ s) × TrueOf j f

frames_posted : (s : ℕ) (j a es more : List Entry) → a ++ (es ++ more) ≡ j → (before : ℕ) → before ≡ last_of a → All (Posted s j) (frames_of s before es)
unfolding frames_of
frames_posted s j a [] more e before b = tt
frames_posted s j a (d ∷ es) more e before b = (
  (refl, record { front = a; begins = record { rest = es ++ more; joins = one }; last = b }),
  frames_posted s j (a ++ d ∷ []) es more one d.turn (sym (last_append 0 a (d ∷ []))),
)
  where
    one : (a ++ d ∷ []) ++ (es ++ more) ≡ j
    one = append_assoc a (d ∷ []) (es ++ more) ∙ e

posted_grow : (s : ℕ) {j j' : List Entry} → Begins j j' → (fs : List Frame) → All (Posted s j) fs → All (Posted s j') fs
posted_grow s {j} {j'} p fs h = All-weaker (Posted s j) (Posted s j') (λ f g. (g.0, true_grow f p g.1)) fs h

-- the entries of a journal after place p, posted again
again_posted : (s p : ℕ) (j : List Entry) → All (Posted s j) (frames_of s (turn_at j p) (take 8 (drop p j)))
unfolding frames_of
again_posted s p j = go (cases_lt (length j) p)
  where
    go : (length j < p) ⊎ (p ≤ length j) → All (Posted s j) (frames_of s (turn_at j p) (take 8 (drop p j)))
    go (inl l) = let e : drop p j ≡ [] = drop_all p j (omega arith) in subst (λ z. All (Posted s j) (frames_of s (turn_at j p) (take 8 z))) (sym e) tt
    go (inr l) =
        frames_posted s j (take p j) (take 8 (drop p j)) (drop 8 (drop p j))
        (ap (λ z. take p j ++ z) (take-append-drop 8 (drop p j)) ∙ take-append-drop p j) (turn_at j p) (same_turn j p l)

-- a wish that is served is one of a station that is asked
tried_so : (P : ℕ → Type 0) (v : ℕ) (m : Core) (k : ℕ) (o : Option ℕ) (others : Option (ℕ × ℕ)) (w : ℕ × ℕ) → P k → (others ≡ Some w → P w.0) →
    tried v m k o others ≡ Some w → P w.0
tried_so P v m k None others w h rest e = rest e
tried_so P v m k (Some p) others w h rest e = go (first_is v m.me (going_on m.roll k)) e
  where
    go : (c : Bool) → cond c (Some (k, p)) others ≡ Some w → P w.0
    go true f = let same : (k, p) ≡ w = cc in subst (λ z. P z.0) same h
    go false f = rest f

served_so : (P : ℕ → Type 0) (v : ℕ) (m : Core) (ks : List ℕ) (w : ℕ × ℕ) → All P ks → served v m ks ≡ Some w → P w.0
unfolding served
served_so P v m [] w h e = absurd (let z : ◌≡◌ {A = ℕ} 0 1 = cc in omega arith)
served_so P v m (k ∷ ks) w h e = tried_so P v m k _ (served v m ks) w h.0 (served_so P v m ks w h.1) e

pub chosen_on : (n : ℕ) (m : Core) (w : ℕ × ℕ) → m.me < n → m.roll ≡ n → chosen m ≡ Some w → w.0 < n
unfolding chosen
chosen_on n m w on sized e = go (any_wish m.peers) e
  where
    go : (c : Bool) → cond c (served (view m) m (going_back m.roll m.me)) None ≡ Some w → w.0 < n
    go true f =
        served_so (λ k. k < n) (view m) m (going_back m.roll m.me) w
        (subst (λ r. All (λ k. k < n) (going_back r m.me)) (sym sized)
        (All-weaker (λ k. (k < n) × (k ≡ m.me → ⊥)) (λ k. k < n) (λ k h. h.0) (going_back n m.me) (back_others n m.me on))) f
    go false f = absurd (let z : ◌≡◌ {A = ℕ} 0 1 = cc in omega arith)

module _ (n : ℕ) (vote : ℕ → Bool) (laws : Laws n vote) (few : n ≤ 8) where
  abbrev Forms : ℕ → ℕ → List Entry → Type 0
  Forms t k j = Formed n vote t k j

  module _ (t : ℕ) (early : 1 ≤ t) (m : Core) (on : m.me < n) (sized : m.roll ≡ n) (f : Forms t 0 m.journal) where
    -- so far in the turn: the station has become c and has posted fs
    record Said (c : Core) (fs : List Frame) : Type 0 where
      me : c.me ≡ m.me
      roll : c.roll ≡ m.roll
      more : List Entry
      joins : m.journal ++ more ≡ c.journal
      of_turn : OfTurn t more
      formed : Forms (suc t) (length m.journal) more
      posts : All (Posted m.me c.journal) fs
      keeps : (J : Journals) (j : List Entry) → Held n vote J j m.firm m.peers → Held n vote J j c.firm c.peers

    -- the turn's end
    pub record Turned (c : Core) (fs : List Frame) : Type 0 where
      pub more : List Entry
      pub joins : m.journal ++ more ≡ c.journal
      pub of_turn : OfTurn t more
      pub formed : Forms (suc t) (length m.journal) more
      pub posts : All (Posted m.me c.journal) fs
      pub keeps : (J : Journals) → J m.me ≡ c.journal → Held n vote J c.journal m.firm m.peers → Holds n vote J c

    said_none : (q : State) → Said (with_state q m) []
    said_none q = record {
      me = refl;
      roll = refl;
      more = [];
      joins = append-nil m.journal;
      of_turn = tt;
      formed = tt;
      posts = tt;
      keeps = λ J j h. h;
    }

    said_formed : (c : Core) (fs : List Frame) → Said c fs → Forms (suc t) 0 c.journal
    said_formed c fs h =
        subst (Forms (suc t) 0) h.joins
        (formed_append n vote (suc t) 0 m.journal h.more
        (formed_later n vote t (suc t) 0 (omega arith) m.journal f)
        (subst (λ z. Forms (suc t) z h.more) (omega arith) h.formed))

    said_view : (c : Core) (fs : List Frame) → Said c fs → Strong n vote (view c)
    said_view c fs h =
        subst (λ r. Strong n vote (newest_view (everyone r) c.journal)) (sym (h.roll ∙ sized))
        (newest_strong n vote (suc t) 0 (everyone n) c.journal (everyone_below n, laws.all) (said_formed c fs h))

    said_body : (b : Body) (c : Core) (fs : List Frame) → SoundBody n vote b → Said c fs → Said (say_body t b c).0 (fs ++ (say_body t b c).1)
    said_body b c fs g h = record {
      me = h.me;
      roll = h.roll;
      more = h.more ++ e ∷ [];
      joins = sym (append_assoc m.journal h.more (e ∷ [])) ∙ ap (λ z. z ++ e ∷ []) h.joins;
      of_turn = All-append (λ d. d.turn ≡ t) h.more (e ∷ []) h.of_turn (refl, tt);
      formed =
          formed_append n vote (suc t) (length m.journal) h.more (e ∷ []) h.formed
          ((omega (arith, sym (ap length h.joins), length-append m.journal h.more), omega arith, early, g), tt);
      posts =
          All-append (Posted m.me (c.journal ++ e ∷ [])) fs (EntryFrame c.me e (last_turn c.journal) ∷ [])
          (posted_grow m.me (begins_push c.journal (e ∷ [])) fs h.posts)
          ((h.me, record { front = c.journal; begins = begins_self (c.journal ++ e ∷ []); last = same_last c.journal }), tt);
      keeps = h.keeps;
    }
      where
        e : Entry
        e = next_entry t b c.journal

    said_put_off : Said (put_off vote t m).0 (put_off vote t m).1
    unfolding put_off
    said_put_off =
        cond_both (eqb (gone_of m) 0) _ _ (λ (q : Posting). Said q.0 q.1) (λ _. said_none m.state)
        (λ _. cond_both (vote (removing (view m) (gone_of m))) _ _ (λ (q : Posting). Said q.0 q.1)
        (λ v. cond_both (ltb (length m.journal) 256) _ _ (λ (q : Posting). Said q.0 q.1)
        (λ _. said_body (View (removing (view m) (gone_of m))) m []
        (omega (arith, removing_le (view m) (gone_of m), (said_view m [] (said_none m.state)).0), v) (said_none m.state))
        (λ _. said_none (Out Full)))
        (λ _. said_none (Out Outvoted)))

    -- more frames of the own journal
    said_frames : (c : Core) (fs gs : List Frame) → All (Posted m.me c.journal) gs → Said c fs → Said c (fs ++ gs)
    said_frames c fs gs p h = record {
      me = h.me;
      roll = h.roll;
      more = h.more;
      joins = h.joins;
      of_turn = h.of_turn;
      formed = h.formed;
      posts = All-append (Posted m.me c.journal) fs gs h.posts p;
      keeps = h.keeps;
    }

    said_serve : (k p : ℕ) (c : Core) (fs : List Frame) → k < n → Said c fs → Said (serve t k p c).0 (fs ++ (serve t k p c).1)
    unfolding serve
    said_serve k p c fs lk h =
        cond_both (lets_in (length c.journal) p) _ _ (λ (q : Posting). Said q.0 (fs ++ (gs ++ q.1)))
        (λ _. subst (Said (say_body t (View (adding (view c) k)) c).0) (append_assoc fs gs (say_body t (View (adding (view c) k)) c).1)
        (said_body (View (adding (view c) k)) c (fs ++ gs) strong again))
        (λ _. subst (Said c) (ap (λ z. fs ++ z) (sym (append-nil gs))) again)
      where
        gs : List Frame
        gs = frames_of c.me (turn_at c.journal p) (take 8 (drop p c.journal))

        again : Said c (fs ++ gs)
        again = said_frames c fs gs (subst (λ s. All (Posted s c.journal) gs) h.me (again_posted c.me p c.journal)) h

        low : adding (view c) k < 2 ^ n
        low = adding_below n (view c) k few lk (said_view c fs h).0

        strong : Strong n vote (adding (view c) k)
        strong = (low, laws.grows (view c) (adding (view c) k) (said_view c fs h).0 low (within_adding (view c) k (omega (arith, lk, few))) (said_view c fs h).1)

    said_notes : (k : ℕ) (notes : List Note) (c : Core) (fs : List Frame) → Said c fs → Said (say_notes k t notes c).1.0 (fs ++ (say_notes k t notes c).1.1)
    unfolding say_notes
    said_notes zero notes c fs h = subst (Said c) (sym (append-nil fs)) h
    said_notes (suc k) [] c fs h = subst (Said c) (sym (append-nil fs)) h
    said_notes (suc k) (note ∷ notes) c fs h =
        cond_both (ltb (length c.journal) 240) (after_spoken (say_body t (NoteBody note) c).1 (say_notes k t notes (say_body t (NoteBody note) c).0)) (note ∷ notes, (c, []))
        (λ (r : Spoken). Said r.1.0 (fs ++ r.1.1))
        (λ _. subst (Said (say_notes k t notes (say_body t (NoteBody note) c).0).1.0)
        (append_assoc fs (say_body t (NoteBody note) c).1 (say_notes k t notes (say_body t (NoteBody note) c).0).1.1)
        (said_notes k notes (say_body t (NoteBody note) c).0 (fs ++ (say_body t (NoteBody note) c).1) (said_body (NoteBody note) c fs tt h)))
        (λ _. subst (Said c) (sym (append-nil fs)) h)

    said_third : (o : Option (ℕ × ℕ)) (ns : List Note) (c : Core) (fs : List Frame) → ((w : ℕ × ℕ) → o ≡ Some w → w.0 < n) → Said c fs →
        Said (serve_or_say t o ns c).1.0 (fs ++ (serve_or_say t o ns c).1.1)
    said_third (Some w) ns c fs on_roll h = said_serve w.0 w.1 c fs (on_roll w refl) h
    said_third None ns c fs on_roll h = said_notes 8 ns c fs h

    turned_said : (c : Core) (fs : List Frame) → Said c fs → Turned c fs
    turned_said c fs h = record {
      more = h.more;
      joins = h.joins;
      of_turn = h.of_turn;
      formed = h.formed;
      posts = h.posts;
      keeps = λ J own g. h.keeps J c.journal g;
    }

    -- the firm count is worked out again, after a last frame with the own end
    turned_settled : (c : Core) (fs : List Frame) (g : Frame) (ps : List Peer) → Posted m.me c.journal g → Said c fs →
        ((J : Journals) → Holds n vote J c → Holds n vote J (with_peers ps c)) → Turned (settle (with_peers ps c)) (fs ++ g ∷ [])
    turned_settled c fs g ps p h same = record {
      more = h.more;
      joins = h.joins;
      of_turn = h.of_turn;
      formed = h.formed;
      posts = All-append (Posted m.me c.journal) fs (g ∷ []) h.posts (p, tt);
      keeps = λ J own k.
          settle_held n vote J (suc t) (with_peers ps c) laws (ap J h.me ∙ own) (h.roll ∙ sized) (said_formed c fs h) (same J (h.keeps J c.journal k));
    }

    own_end : (c : Core) → TrueOf c.journal (Heartbeat c.me (end_of c.journal))
    own_end c = record { front = c.journal; begins = begins_self c.journal; place = refl; turn = sym (same_last c.journal) }

    turned_pass : (c : Core) (fs : List Frame) → Said c fs → Turned (pass_running c).0 (fs ++ (pass_running c).1)
    turned_pass c fs h =
        turned_settled c fs (Heartbeat c.me (end_of c.journal)) (unmarked c.peers) (h.me, own_end c) h
        (λ J k. map_held n vote J c cleared (λ _. refl) k)

    turned_rest : (ns : List Note) (c : Core) (fs : List Frame) → Said c fs → Turned (after_put_off t ns (c, fs)).1.0 (after_put_off t ns (c, fs)).1.1
    turned_rest ns c fs h =
        cond_both (is_running c.state) (after_spoken fs (then_pass (serve_or_say t (chosen c) ns c))) (ns, (c, fs)) (λ (r : Spoken). Turned r.1.0 r.1.1)
        (λ _. let r = serve_or_say t (chosen c) ns c in
        subst (Turned (pass_running r.1.0).0) (append_assoc fs r.1.1 (pass_running r.1.0).1)
        (turned_pass r.1.0 (fs ++ r.1.1)
        (said_third (chosen c) ns c fs (λ w e. chosen_on n c w (omega (arith, h.me, on)) (h.roll ∙ sized) e) h)))
        (λ _. turned_said c fs h)

    pub turned_own : (ns : List Note) → Turned (whole_turn vote t ns m).1.0 (whole_turn vote t ns m).1.1
    unfolding whole_turn
    turned_own ns = go m.state
      where
        go : (q : State) → Turned (turn_as q vote t ns m).1.0 (turn_as q vote t ns m).1.1
        go Running = turned_rest ns (put_off vote t m).0 (put_off vote t m).1 said_put_off
        go Joining = turned_settled m [] (Join m.me (end_of m.journal)) m.peers (refl, own_end m) (said_none m.state) (λ J k. k)
        go (Out c) = turned_said m [] (said_none m.state)
