-- What holds of a ring in every run: journals that match, frames that tell the truth, firm parts that a set with the vote holds, and books that have their notes.
use Rattle.std.proofs.Common.{◌≡◌, ℕ, zero, suc, ◌+◌, ◌-◌, ◌<◌, ◌≤◌, true, ◌⊎◌, List, [], ◌∷◌, ◌++◌, map, length, get_or, take, drop, set, replicate, Some, None, sym, refl, ap, ◌∙◌, subst, inl, inr, arith}
use lib.Seq.{map-set}
use Rattle.std.specs.List.{AllByRecursion as All, slice_get}
use Rattle.std.proofs.lemmas.Bool.{cond_both}
use Rattle.std.proofs.lemmas.List.{get_or-set_same, get_or-set_other, length-set, length-map}
use Rattle.std.proofs.ByRecursion.{All-set, All-weaker}
use Rattle.protocol.specs.declared.entry.Entry.{Entry}
use Rattle.protocol.specs.declared.frame.Frame.{Frame}
use Rattle.vote.specs.Mask.{everyone}
use Rattle.vote.specs.Masks.{everyone_below}
use Rattle.wires.specs.Lines.{Lines}
use Rattle.wires.specs.Calls.{taken, cleared}
use Rattle.journal.specs.declared.state.State.TheVariants.{Joining}
use Rattle.journal.specs.declared.peer.Peer.{Peer}
use Rattle.journal.specs.Peers.{wishless, unwished}
use Rattle.journal.specs.Core.{Core, with_state, with_peers, is_out}
use Rattle.journal.specs.Settle.{fed, settle}
use Rattle.taking.specs.Take.{received}
use Rattle.taking.specs.Take as taking
use Rattle.station.specs.Model.{Model, new_model}
use Rattle.station.specs.Rules.{noted, stopped, entered}
use Rattle.runs.specs.declared.call.Call.{Call}
use Rattle.runs.specs.Rings.{Rules, Ring, Answer, new_stations, new_ring, owner, step, run}
use Rattle.runs.specs.Promises.{Begins, Laws}
use Rattle.runs.proofs.Fronts.{begins_self, begins_nil, begins_same, begins_length}
use Rattle.runs.proofs.Formed.{Formed}
use Rattle.runs.proofs.Worlds.{Journals, Part, Puts, Grow, puts_grow, World, world_copy, world_new}
use Rattle.runs.proofs.Held.{Shared, known_of, Holds, held_grow, settle_held, book_moved}
use Rattle.runs.proofs.Taking.{TrueOf, Truthful, Took, truthful_grow, received_took, map_held}
use Rattle.runs.proofs.Turning.{Posted, Turned, turned_own}
use Rattle.runs.proofs.Staying.{Stays, Moves, stays_received, moves_taken, moves_turn}
use Rattle.runs.proofs.Lookup.{some_same, some_none, nth_below, nth_set, all_nth, OnLines, all_taken, all_cleared, all_posts}
use Rattle.runs.proofs.Steps.{own_turn, after_turn, take_frame, enter_station, Steps, refused, noted as notes, turns, takes, loses, stops, enters, steps}

-- the journals of some stations
abbrev pub journals : {S : Type 0} → List (Model S) → Journals
journals xs s = get_or (map (λ x. x.core.journal) xs) s []

module _ {S : Type 0} where
  pub journal_at : (xs : List (Model S)) (s : ℕ) (x : Model S) → slice_get xs s ≡ Some x → journals xs s ≡ x.core.journal
  journal_at [] s x e = absurd (some_none x e)
  journal_at (y ∷ xs) zero x e = ap (λ (z : Model S). z.core.journal) (some_same y x e)
  journal_at (y ∷ xs) (suc s) x e = journal_at xs s x e

  pub puts_set : (xs : List (Model S)) (s : ℕ) (y : Model S) → s < length xs → Puts (journals xs) (journals (set xs s y)) s y.core.journal
  puts_set xs s y l = record {
    here =
        ap (λ z. get_or z s []) (map-set (λ x. x.core.journal) xs s y) ∙
        get_or-set_same (map (λ x. x.core.journal) xs) s y.core.journal [] (omega (arith, length-map xs (λ x. x.core.journal)));
    apart = λ m ne.
        ap (λ z. get_or z m []) (map-set (λ x. x.core.journal) xs s y) ∙
        get_or-set_other (map (λ x. x.core.journal) xs) s m y.core.journal [] ne;
  }

module _ {S : Type 0} (R : Rules S) (b₀ : S) where
  -- every station has its number, and the ring's roll
  abbrev pub Numbered : List (Model S) → Type 0
  Numbered xs = (s : ℕ) (x : Model S) → slice_get xs s ≡ Some x → (x.core.me ≡ s) × (x.core.roll ≡ R.size)

  -- its book has the notes of its firm part
  abbrev pub Booked : Model S → Type 0
  Booked x = x.book ≡ fed R.next b₀ (take x.core.firm x.core.journal)

  pub record Sound (r : Ring S) : Type 0 where
    pub size : length r.stations ≡ R.size
    pub early : 1 ≤ r.turn
    pub numbered : Numbered r.stations
    pub world : World R.size R.vote (journals r.stations) r.turn
    pub lines : OnLines (Truthful (journals r.stations)) r.lines
    pub holds : All (λ x. Holds R.size R.vote (journals r.stations) x.core) r.stations
    pub books : All Booked r.stations

  numbered_set : (xs : List (Model S)) (s : ℕ) (x y : Model S) → slice_get xs s ≡ Some x → Moves x.core y.core → Numbered xs → Numbered (set xs s y)
  numbered_set xs s x y e p h k z i = go (nth_set xs s k y z i)
    where
      go : ((k ≡ s) × (z ≡ y)) ⊎ ((k ≡ s → ⊥) × (slice_get xs k ≡ Some z)) → (z.core.me ≡ k) × (z.core.roll ≡ R.size)
      go (inl q) = (
        ap (λ (w : Model S). w.core.me) q.1 ∙ (p.me ∙ ((h s x e).0 ∙ sym q.0)),
        ap (λ (w : Model S). w.core.roll) q.1 ∙ (p.roll ∙ (h s x e).1),
      )
      go (inr q) = h k z q.1

  module _ (r : Ring S) (s : ℕ) (x : Model S) (h : Sound r) (e : slice_get r.stations s ≡ Some x) where
    pub here_holds : Holds R.size R.vote (journals r.stations) x.core
    here_holds = all_nth (λ x. Holds R.size R.vote (journals r.stations) x.core) r.stations s x h.holds e

    pub here_formed : Formed R.size R.vote r.turn 0 x.core.journal
    here_formed = subst (Formed R.size R.vote r.turn 0) (journal_at r.stations s x e) (h.world.formed s)

    own_part : Part (journals r.stations) x.core.journal
    own_part = record { at = s; begins = subst (Begins x.core.journal) (sym (journal_at r.stations s x e)) (begins_self x.core.journal) }

    -- the core becomes m, and the book is given what is newly firm
    booked : (m : Core) → Moves x.core m → Begins x.core.journal m.journal →
        fed R.next x.book (take (m.firm - x.core.firm) (drop x.core.firm m.journal)) ≡ fed R.next b₀ (take m.firm m.journal)
    booked m p more =
        book_moved R.next b₀ x.book x.core.journal m.journal x.core.firm m.firm (all_nth Booked r.stations s x h.books e) more
        here_holds.firm.fits p.firm

    -- one station changes, to a journal that is there already
    sound_put : (y : Model S) (ls : Lines Frame) → Moves x.core y.core → Begins x.core.journal y.core.journal → Part (journals r.stations) y.core.journal →
        ((J' : Journals) → Grow (journals r.stations) J' → J' s ≡ y.core.journal → World R.size R.vote J' r.turn → Holds R.size R.vote J' y.core) →
        Booked y → OnLines (Truthful (journals r.stations)) ls → Sound (record { stations = set r.stations s y; lines = ls; turn = r.turn })
    sound_put y ls p more part holds book fs = record {
      size = length-set r.stations s y ∙ h.size;
      early = h.early;
      numbered = numbered_set r.stations s x y e p h.numbered;
      world = world;
      lines = λ m. truthful_grow grow (ls.at m) (fs m);
      holds =
          All-set (λ x. Holds R.size R.vote J' x.core) r.stations s y (holds J' grow puts.here world)
          (All-weaker (λ x. Holds R.size R.vote (journals r.stations) x.core) (λ x. Holds R.size R.vote J' x.core)
          (λ z. held_grow R.size R.vote grow (begins_self z.core.journal)) r.stations h.holds);
      books = All-set Booked r.stations s y book h.books;
    }
      where
        J' : Journals
        J' = journals (set r.stations s y)

        puts : Puts (journals r.stations) J' s y.core.journal
        puts = puts_set r.stations s y (nth_below r.stations s x e)

        grow : Grow (journals r.stations) J'
        grow = puts_grow (journals r.stations) J' s y.core.journal puts (subst (λ z. Begins z y.core.journal) (sym (journal_at r.stations s x e)) more)

        world : World R.size R.vote J' r.turn
        world = world_copy R.size R.vote (journals r.stations) J' s r.turn y.core.journal puts h.world part

    -- a station keeps its journal
    sound_same : (y : Model S) (ls : Lines Frame) → Moves x.core y.core → y.core.journal ≡ x.core.journal →
        ((J' : Journals) → J' s ≡ y.core.journal → World R.size R.vote J' r.turn → Holds R.size R.vote J' x.core → Holds R.size R.vote J' y.core) →
        Booked y → OnLines (Truthful (journals r.stations)) ls → Sound (record { stations = set r.stations s y; lines = ls; turn = r.turn })
    sound_same y ls p same holds book fs =
        sound_put y ls p
        (subst (Begins x.core.journal) (sym same) (begins_self x.core.journal))
        (subst (Part (journals r.stations)) (sym same) own_part)
        (λ J' grow own w. holds J' own w (held_grow R.size R.vote grow (begins_self x.core.journal) here_holds))
        book fs

  module _ (laws : Laws R.size R.vote) (small : R.size ≤ 8) where
    sound_take : (r : Ring S) (s : ℕ) (x : Model S) (f : Frame) → Sound r → slice_get r.stations s ≡ Some x →
        Truthful (journals r.stations) f → Sound (record { stations = set r.stations s (take_frame R f x); lines = taken r.lines s; turn = r.turn })
    sound_take r s x f h e fits =
        sound_put r s x h e (take_frame R f x) (taken r.lines s) (moves_taken R.vote f x.core) more
        (to (λ z. Part (journals r.stations) z.journal) took.part took.part)
        (λ J' grow own w.
        let g : Holds R.size R.vote J' m = held_grow R.size R.vote grow (begins_self m.journal) took.holds in
        let mine : J' m.me ≡ m.journal = ap J' (stay.me ∙ (h.numbered s x e).0) ∙ (own ∙ kept) in
        to (Holds R.size R.vote J') g
        (settle_held R.size R.vote J' r.turn m laws mine (stay.roll ∙ (h.numbered s x e).1)
        (subst (Formed R.size R.vote r.turn 0) (own ∙ kept) (w.formed s)) g))
        (booked r s x h e (taking.taken R.vote f x.core) (moves_taken R.vote f x.core) more)
        (all_taken (Truthful (journals r.stations)) r.lines s h.lines)
      where
        m : Core
        m = received R.vote f x.core

        stay : Stays x.core m
        stay = stays_received R.vote f x.core

        took : Took R.size R.vote (journals r.stations) x.core m
        took = received_took R.size R.vote (journals r.stations) r.turn h.world x.core f (own_part r s x h e) (here_holds r s x h e) fits

        to : (P : Core → Type 0) → P m → P (settle m) → P (taking.taken R.vote f x.core)
        to P p q = cond_both (is_out m.state) m (settle m) P (λ _. p) (λ _. q)

        kept : (taking.taken R.vote f x.core).journal ≡ m.journal
        kept = to (λ z. z.journal ≡ m.journal) refl refl

        more : Begins x.core.journal (taking.taken R.vote f x.core).journal
        more = to (λ z. Begins x.core.journal z.journal) took.more took.more

    sound_turn : (r : Ring S) (s : ℕ) (x : Model S) → Sound r → slice_get r.stations s ≡ Some x → Sound (after_turn R r s x)
    sound_turn r s x h e = record {
      size = length-set r.stations s y ∙ h.size;
      early = omega arith;
      numbered = numbered_set r.stations s x y e moves h.numbered;
      world = world;
      lines =
          all_posts (Truthful J') x.core.me (own_turn R r.turn x).1 r.lines
          (All-weaker (Posted x.core.me y.core.journal) (Truthful J') (λ f g. subst (λ j. TrueOf j f) (sym (ap J' g.0 ∙ here)) g.1) (own_turn R r.turn x).1 turn.posts)
          (λ m. truthful_grow grow (r.lines.at m) (h.lines m));
      holds =
          All-set (λ x. Holds R.size R.vote J' x.core) r.stations s y
          (turn.keeps J' here (held_grow R.size R.vote grow more (here_holds r s x h e)))
          (All-weaker (λ x. Holds R.size R.vote (journals r.stations) x.core) (λ x. Holds R.size R.vote J' x.core)
          (λ z. held_grow R.size R.vote grow (begins_self z.core.journal)) r.stations h.holds);
      books = All-set Booked r.stations s y (booked r s x h e y.core moves more) h.books;
    }
      where
        mine : x.core.me ≡ s
        mine = (h.numbered s x e).0

        own : journals r.stations s ≡ x.core.journal
        own = journal_at r.stations s x e

        y : Model S
        y = (own_turn R r.turn x).0

        moves : Moves x.core y.core
        moves = moves_turn r.turn R.vote x.outbox x.core

        turn : Turned R.size R.vote laws small r.turn h.early x.core (omega (arith, mine, nth_below r.stations s x e, h.size)) (h.numbered s x e).1 (here_formed r s x h e)
            y.core (own_turn R r.turn x).1
        turn = turned_own R.size R.vote laws small r.turn h.early x.core (omega (arith, mine, nth_below r.stations s x e, h.size)) (h.numbered s x e).1 (here_formed r s x h e) x.outbox

        J' : Journals
        J' = journals (set r.stations s y)

        puts : Puts (journals r.stations) J' s y.core.journal
        puts = puts_set r.stations s y (nth_below r.stations s x e)

        here : J' x.core.me ≡ y.core.journal
        here = ap J' mine ∙ puts.here

        more : Begins x.core.journal y.core.journal
        more = record { rest = turn.more; joins = turn.joins }

        grow : Grow (journals r.stations) J'
        grow = puts_grow (journals r.stations) J' s y.core.journal puts (subst (λ z. Begins z y.core.journal) (sym own) more)

        world : World R.size R.vote J' (suc r.turn)
        world =
            world_new R.size R.vote (journals r.stations) J' s r.turn turn.more
            (subst (Puts (journals r.stations) J' s) (sym (ap (λ z. z ++ turn.more) own ∙ turn.joins)) puts)
            h.world h.early turn.of_turn
            (subst (λ z. Formed R.size R.vote (suc r.turn) (length z) turn.more) (sym own) turn.formed)

    sound_steps : (r : Ring S) (c : Call) (a : Answer S) → Steps R r c a → Sound r → Sound a.1
    sound_steps r c a (refused k) h = h
    sound_steps r c a (notes s note x e on) h =
        sound_same r s x h e (noted note x) r.lines (record { me = refl; roll = refl; firm = omega arith }) refl (λ J own w g. g) (all_nth Booked r.stations s x h.books e) h.lines
    sound_steps r c a (turns x e l) h = sound_turn r (owner R r) x h e
    sound_steps r c a (takes s x f l e on q) h = sound_take r s x f h e (subst (All (Truthful (journals r.stations))) q (h.lines s)).0
    sound_steps r c a (loses s f l q) h = record {
      size = h.size;
      early = h.early;
      numbered = h.numbered;
      world = h.world;
      holds = h.holds;
      books = h.books;
      lines = all_taken (Truthful (journals r.stations)) r.lines s h.lines;
    }
    sound_steps r c a (stops s x e on) h =
        sound_same r s x h e (stopped x) r.lines (record { me = refl; roll = refl; firm = omega arith }) refl (λ J own w g. g) (all_nth Booked r.stations s x h.books e) h.lines
    sound_steps r c a (enters s x e out) h =
        sound_same r s x h e (enter_station R x) (cleared r.lines s) moves refl
        (λ J own w g.
        settle_held R.size R.vote J r.turn (with_state Joining (with_peers (unwished x.core.peers) x.core)) laws
        (ap J (h.numbered s x e).0 ∙ own) (h.numbered s x e).1
        (subst (Formed R.size R.vote r.turn 0) own (w.formed s))
        (map_held R.size R.vote J x.core wishless (λ _. refl) g))
        (booked r s x h e (entered x.core) moves (begins_self x.core.journal))
        (all_cleared (Truthful (journals r.stations)) r.lines s h.lines)
      where
        moves : Moves x.core (entered x.core)
        moves = record { me = refl; roll = refl; firm = omega arith }

    pub good_step : (r : Ring S) (c : Call) → Sound r → Sound (step R r c).1
    good_step r c h = sound_steps r c (step R r c) (steps R r c) h

    pub sound_run : (r : Ring S) (cs : List Call) → Sound r → Sound (run R r cs)
    unfolding run
    sound_run r [] h = h
    sound_run r (c ∷ cs) h = sound_run (step R r c).1 cs (good_step r c h)

    -- ---- a new ring

    length_new : (s k : ℕ) → length (new_stations R.size b₀ s k) ≡ k
    unfolding new_stations
    length_new s zero = refl
    length_new s (suc k) = ap suc (length_new (suc s) k)

    numbered_new : (s k i : ℕ) (x : Model S) → slice_get (new_stations R.size b₀ s k) i ≡ Some x → (x.core.me ≡ s + i) × (x.core.roll ≡ R.size)
    unfolding new_stations
    numbered_new s zero i x e = absurd (some_none x e)
    numbered_new s (suc k) zero x e =
        let q = some_same (new_model s R.size b₀) x e in
        (ap (λ (w : Model S). w.core.me) (sym q) ∙ (let z : s ≡ s + 0 = omega arith in z), ap (λ (w : Model S). w.core.roll) (sym q))
    numbered_new s (suc k) (suc i) x e = let h = numbered_new (suc s) k i x e in (omega (arith, h.0), h.1)

    -- what holds of every new station
    pub all_new : (P : Model S → Type 0) → ((s : ℕ) → P (new_model s R.size b₀)) → (s k : ℕ) → All P (new_stations R.size b₀ s k)
    unfolding new_stations
    all_new P h s zero = tt
    all_new P h s (suc k) = (h s, all_new P h (suc s) k)

    no_journals : (s k m : ℕ) → journals (new_stations R.size b₀ s k) m ≡ []
    unfolding new_stations
    no_journals s zero m = refl
    no_journals s (suc k) zero = refl
    no_journals s (suc k) (suc m) = no_journals (suc s) k m

    none_known : (n m : ℕ) (p : Peer) → p.known ≡ 0 → known_of (replicate n p) m ≡ 0
    none_known zero m p e = refl
    none_known (suc n) zero p e = e
    none_known (suc n) (suc m) p e = none_known n m p e

    pub sound_new : Sound (new_ring R b₀)
    unfolding new_ring
    sound_new = record {
      size = length_new 0 R.size;
      early = omega arith;
      numbered = λ s x e. let h = numbered_new 0 R.size s x e in (omega (arith, h.0), h.1);
      world = record {
        formed = λ s. subst (Formed R.size R.vote 1 0) (sym (no_journals 0 R.size s)) tt;
        alike = λ a b p q l e. empty a p ∙ sym (empty b q);
      };
      lines = λ m. tt;
      holds = all_new (λ x. Holds R.size R.vote new x.core) (λ s. record {
        peers = omega (arith, small);
        known = λ m. subst (Shared [] (new m)) (sym (none_known 8 m (record { heard = true; known = 0; wish = None }) refl)) (record { fits = omega arith; begins = begins_nil (new m) });
        firm = record {
          fits = omega arith;
          set = everyone R.size;
          strong = (everyone_below R.size, laws.all);
          held = λ m _ _. begins_nil (new m);
        };
      }) 0 R.size;
      books = all_new Booked (λ s. refl) 0 R.size;
    }
      where
        new : Journals
        new = journals (new_stations R.size b₀ 0 R.size)

        empty : (a : List Entry) → Part new a → a ≡ []
        empty a p =
            let z : Begins a [] = subst (Begins a) (no_journals 0 R.size p.at) p.begins in
            begins_same z (begins_nil []) (omega (arith, begins_length z))
