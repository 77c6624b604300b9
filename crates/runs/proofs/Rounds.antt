-- Three rounds of a calm run without a stop make every older entry firm.
use Rattle.std.proofs.Common.{◌≡◌, ℕ, zero, suc, ◌+◌, ◌-◌, ◌*◌, ◌%◌, ◌^◌, ◌<◌, ◌≤◌, min, Bool, true, false, not, ◌&&◌, eqb, ◌⊎◌, List, [], ◌∷◌, ◌++◌, length, set, Some, sym, refl, ap, ◌∙◌, subst, inl, inr, mod-lt, arith}
use mathlib.Core.Path.{fun_ext}
use Rattle.std.specs.List.{AllByRecursion as All, slice_get}
use Rattle.std.proofs.lemmas.Bool.{cond_both, cases_eq, cases_lt, cases_Bool, and_parts, eqb-false, not-true, both_ways}
use Rattle.std.proofs.lemmas.List.{length-append, append_assoc, append-nil}
use Rattle.std.proofs.ByRecursion.{All-append, All-weaker}
use Rattle.protocol.specs.declared.note.Note.{Note}
use Rattle.protocol.specs.declared.entry.Entry.{Entry}
use Rattle.protocol.specs.declared.frame.Frame.{Frame}
use Rattle.protocol.specs.declared.frame.Frame.TheVariants.{Heartbeat}
use Rattle.wires.specs.Calls.{taken, posted_all}
use Rattle.vote.specs.Mask.{has, everyone}
use Rattle.vote.specs.Masks.{everyone_below, has_off}
use Rattle.journal.specs.declared.peer.Peer.{Peer}
use Rattle.journal.specs.declared.state.Cause.TheVariants.{Stopped}
use Rattle.journal.specs.declared.state.State.TheVariants.{Running, Out}
use Rattle.journal.specs.Journal.{last_turn, end_of}
use Rattle.journal.specs.Peers.{peer_at, lesser, least_known}
use Rattle.journal.specs.Core.{is_out}
use Rattle.journal.specs.Settle.{view}
use Rattle.turning.specs.Posts.{frames_of}
use Rattle.turning.specs.Round.{going_back}
use Rattle.turning.specs.Steps.{unheard, gone_of}
use Rattle.station.specs.Model.{Model}
use Rattle.station.specs.Rules as station
use Rattle.runs.specs.declared.call.Call.{Call}
use Rattle.runs.specs.declared.call.Call.TheVariants.{Note as NoteCall, Turn, Take, Lose, Stop, Enter}
use Rattle.runs.specs.Rings.{Rules, Ring, Answer, line, owner, step, run}
use Rattle.runs.specs.Promises.{Laws, Is, Quiet, RunningVote, CalmCall, Calm, UnstoppedCall, Unstopped, OlderFirm}
use Rattle.runs.proofs.MaskFacts.{has_mask, mask_below}
use Rattle.runs.proofs.Formed.{newest_strong}
use Rattle.runs.proofs.Held.{known_of}
use Rattle.runs.proofs.Lookup.{nth_below, nth_set, nth_front, nth_take, all_nth}
use Rattle.runs.proofs.Staying.{moves_turn}
use Rattle.runs.proofs.Steps.{own_turn, after_turn, take_frame, Steps, refused, noted, turns, takes, loses, stops, enters, steps}
use Rattle.runs.proofs.Soundness.{Sound, good_step}
use Rattle.runs.proofs.Fewer.{calm_vote, runs_at, run_mask}
use Rattle.runs.proofs.Feeding.{Feeds, Fed, take_fed}
use Rattle.runs.proofs.Circle.{offset, shift_same, shift_between, shift_round}
use Rattle.runs.proofs.Counting.{unheard_blocked}
use Rattle.runs.proofs.Speaking.{Talked}
use Rattle.runs.proofs.Calmness

least_atleast : (s v k : ℕ) (ps : List Peer) (a low : ℕ) → low ≤ a →
    ((m : ℕ) → m < length ps → has v (k + m) ≡ true → (k + m ≡ s → ⊥) → low ≤ known_of ps m) → low ≤ least_known s v k ps a
least_atleast s v k [] a low l h = l
least_atleast s v k (p ∷ ps) a low l h =
    least_atleast s v (k + 1) ps (lesser s v k p a) low
    (cond_both (not (eqb k s) && has v k) (min p.known a) a (λ z. low ≤ z)
    (λ e. let c = and_parts (not (eqb k s)) (has v k) e in
    let here : k ≡ k + 0 = omega arith in
    let g : low ≤ p.known = h 0 (omega arith) (subst (λ z. has v z ≡ true) here c.1) (λ q. eqb-false k s (not-true (eqb k s) c.0) (here ∙ q)) in
    omega arith)
    (λ _. l))
    (λ m i mem ne.
    let e : k + 1 + m ≡ k + suc m = omega arith in
    h (suc m) (omega arith) (subst (λ z. has v z ≡ true) e mem) (λ q. ne (e ∙ q)))

told_posts : (m o b : ℕ) (es : List Entry) (p : ℕ × ℕ) → Calmness.Told m (frames_of o b es ++ Heartbeat o p ∷ []) → o ≡ m
unfolding frames_of
told_posts m o b [] p (inl e) = e
told_posts m o b [] p (inr e) = absurd e
told_posts m o b (d ∷ es) p (inl e) = absurd e
told_posts m o b (d ∷ es) p (inr e) = told_posts m o d.turn es p e

nth_past : {X : Type 0} (P : X → Type 0) (a b : List X) (k : ℕ) (x : X) → length a ≤ k → All P b → slice_get (a ++ b) k ≡ Some x → P x
nth_past P [] b k x l h e = all_nth P b k x h e
nth_past P (y ∷ a) b zero x l h e = absurd (omega (arith, l))
nth_past P (y ∷ a) b (suc k) x l h e = nth_past P a b k x (omega arith) h e

module _ {S : Type 0} (R : Rules S) (b₀ : S) (laws : Laws R.size R.vote) (pos : 1 ≤ R.size) (small : R.size ≤ 8)
    (t₀ : ℕ) (c₀ : List Entry) where
  -- where a running station s with line l has come to, since turn t₀ began with the common journal c₀
  pub record Round (alive : ℕ → Bool) (due : ℕ → ℕ) (s : ℕ) (x : Model S) (l : List Frame) : Type 0 where
    long : length c₀ ≤ length x.core.journal
    untold : (m : ℕ) → alive m ≡ false → Calmness.Told m l → ⊥
    silent : (m : ℕ) → alive m ≡ false → t₀ + R.size ≤ due s → (peer_at x.core.peers m).heard ≡ false
    known : (m : ℕ) → m < R.size → alive m ≡ true → (m ≡ s → ⊥) → t₀ + R.size ≤ due m → (length c₀ ≤ (peer_at x.core.peers m).known) ⊎ Calmness.Told m l
    firm : t₀ + 3 * R.size ≤ due s → length c₀ ≤ x.core.firm

  -- going on from m one meets a running station before s
  pub record Blocked (alive : ℕ → Bool) (s m : ℕ) : Type 0 where
    far : ℕ
    near : ℕ
    first : 1 ≤ near
    before : near < far
    within : far < R.size
    comes : (m + far) % R.size ≡ s
    runs : alive ((m + near) % R.size) ≡ true

  pub record Rounds (alive : ℕ → Bool) (r : Ring S) (c : List Entry) (due : ℕ → ℕ) : Type 0 where
    each : (s : ℕ) (x : Model S) → Is r s x → x.core.state ≡ Running → Round alive due s x (line r s)
    view : (s m : ℕ) → s < R.size → alive s ≡ true → m < R.size → alive m ≡ false →
        t₀ + 2 * R.size ≤ due s → has (Calmness.view_of R b₀ c) m ≡ true → Blocked alive s m
    rest : List Entry
    joins : c ≡ c₀ ++ rest
    young : All (λ e. t₀ ≤ e.turn) rest
    since : t₀ ≤ r.turn

  pub record Going (r : Ring S) : Type 0 where
    journal : List Entry
    due : ℕ → ℕ
    calmed : Calmness.Calmed R b₀ r journal due
    rounds : Rounds (Calmness.living r.stations) r journal due

  -- if every running station is blocked from m, none runs
  none_runs : (alive : ℕ → Bool) (m : ℕ) → m < R.size → ((s : ℕ) → s < R.size → alive s ≡ true → Blocked alive s m) →
      (fuel d : ℕ) → d < fuel → d < R.size → alive ((m + d) % R.size) ≡ true → ⊥
  none_runs alive m l h zero d lf ld a = omega (arith, lf)
  none_runs alive m l h (suc fuel) d lf ld a =
      let b = h ((m + d) % R.size) (mod-lt (m + d) pos) a in
      let e = shift_same R.size m b.far d l b.within ld b.comes in
      none_runs alive m l h fuel b.near (omega (arith, b.before, e)) (omega (arith, b.before, b.within)) b.runs

  some_runs : (r : Ring S) → RunningVote R r → (q : ℕ) × (q < R.size) × (Calmness.living r.stations q ≡ true)
  some_runs r v =
      let z = laws.shares (run_mask R r) (run_mask R r) (mask_below R.size _) (mask_below R.size _) v v in
      (z.0, z.1, sym (has_mask R.size (Calmness.living r.stations) z.0 z.1) ∙ z.2)

  -- once the second round is over, every member of the view runs
  members_run : (r : Ring S) (c : List Entry) (due : ℕ → ℕ) → RunningVote R r → Calmness.Calmed R b₀ r c due → Rounds (Calmness.living r.stations) r c due → t₀ + 2 * R.size ≤ r.turn →
      (m : ℕ) → m < R.size → has (Calmness.view_of R b₀ c) m ≡ true → Calmness.living r.stations m ≡ true
  members_run r c due votes h g late m l mem = go (cases_Bool (Calmness.living r.stations m))
    where
      go : (Calmness.living r.stations m ≡ true) ⊎ (Calmness.living r.stations m ≡ false) → Calmness.living r.stations m ≡ true
      go (inl e) = e
      go (inr dead) =
          let z = some_runs r votes in
          let d = offset R.size m z.0 l z.1 (λ e. both_ways (Calmness.living r.stations m) dead (ap (Calmness.living r.stations) (sym e) ∙ z.2)) in
          absurd (none_runs (Calmness.living r.stations) m l
          (λ s on a. g.view s m on a l dead (omega (arith, h.turns.low s on, late)) mem)
          R.size d.0 d.2 d.2 (ap (Calmness.living r.stations) d.3 ∙ z.2))

  round_take : (alive : ℕ → Bool) (c : List Entry) (due : ℕ → ℕ) (s : ℕ) (x y : Model S) (f : Frame) (l : List Frame) →
      Round alive due s x (f ∷ l) → Fed R.size R.vote s f l c x.core y.core → Round alive due s y l
  round_take alive c due s x y f l h got = record {
    long = omega (arith, h.long, got.longer);
    untold = λ m dead t. h.untold m dead (inr t);
    silent = λ m dead d. got.silent m (λ t. h.untold m dead (inl t)) ∙ h.silent m dead d;
    known = λ m on a ne d.
        Calmness.told_past (length c₀ ≤ (peer_at y.core.peers m).known) m f l
        (λ t. omega (arith, got.known_told m t, got.longer, h.long))
        (raised m (h.known m on a ne d));
    firm = λ d. omega (arith, h.firm d, got.firm);
  }
    where
      raised : (m : ℕ) → (length c₀ ≤ (peer_at x.core.peers m).known) ⊎ Calmness.Told m (f ∷ l) → (length c₀ ≤ (peer_at y.core.peers m).known) ⊎ Calmness.Told m (f ∷ l)
      raised m (inl e) = inl (omega (arith, e, got.known m))
      raised m (inr e) = inr e

  rounds_note : (r : Ring S) (c : List Entry) (due : ℕ → ℕ) (s : ℕ) (x : Model S) (o : Note) → Is r s x → Rounds (Calmness.living r.stations) r c due →
      Rounds (Calmness.living (set r.stations s (station.noted o x))) (Calmness.put r s (station.noted o x) r.lines) c due
  rounds_note r c due s x o i g =
      subst (λ a. Rounds a (Calmness.put r s (station.noted o x) r.lines) c due) (sym (fun_ext (Calmness.living_set r.stations s x (station.noted o x) i refl))) (record {
        each = Calmness.each_set R b₀ (Round (Calmness.living r.stations) due) r s (station.noted o x) g.each
            (λ run. let h = g.each s x i run in record { long = h.long; untold = h.untold; silent = h.silent; known = h.known; firm = h.firm });
        view = g.view;
        rest = g.rest;
        joins = g.joins;
        young = g.young;
        since = g.since;
      })

  rounds_take : (r : Ring S) (c : List Entry) (due : ℕ → ℕ) (s : ℕ) (x : Model S) (f : Frame) (l : List Frame) → Is r s x → is_out x.core.state ≡ false → line r s ≡ f ∷ l →
      Calmness.Calmed R b₀ r c due → Rounds (Calmness.living r.stations) r c due →
      Rounds (Calmness.living (set r.stations s (take_frame R f x))) (Calmness.put r s (take_frame R f x) (taken r.lines s)) c due
  rounds_take r c due s x f l i o q h g =
      subst (λ a. Rounds a (Calmness.put r s y (taken r.lines s)) c due) (sym (fun_ext (Calmness.living_set r.stations s x y i (got.running ∙ sym run)))) (record {
        each = Calmness.each_put R b₀ (Round (Calmness.living r.stations) due) r s y f l (Calmness.on_line R b₀ r s x c due h i) q g.each
            (λ _. round_take (Calmness.living r.stations) c due s x y f l (subst (Round (Calmness.living r.stations) due s x) q (g.each s x i run)) got);
        view = g.view;
        rest = g.rest;
        joins = g.joins;
        young = g.young;
        since = g.since;
      })
    where
      y : Model S
      y = take_frame R f x

      run : x.core.state ≡ Running
      run = Calmness.runs_here R b₀ x (h.state s x i) o

      got : Fed R.size R.vote s f l c x.core y.core
      got = take_fed R.size R.vote s x.core run (h.sound.numbered s x i).0 (h.sound.numbered s x i).1 f l c (Calmness.peers_size R b₀ r s x h.sound i) (subst (λ z. Feeds R.size R.vote s x.core.journal z c) q (h.each s x i run).feeds)

  rounds_idle : (r : Ring S) (c : List Entry) (due : ℕ → ℕ) (x : Model S) → Is r (owner R r) x → x.core.state ≡ Out Stopped → Rounds (Calmness.living r.stations) r c due →
      Rounds (Calmness.living r.stations) (record { stations = r.stations; lines = r.lines; turn = suc r.turn }) c (Calmness.after R.size r.turn (owner R r) due)
  rounds_idle r c due x i out g = record {
    each = λ s z j e.
        let h = g.each s z j e in
        let d = same s (runs_at R r s z j e) in
        record {
          long = h.long;
          untold = h.untold;
          silent = λ m dead l. h.silent m dead (omega (arith, l, d));
          known = λ m on a ne l. h.known m on a ne (omega (arith, l, same m a));
          firm = λ l. h.firm (omega (arith, l, d));
        };
    view = λ s m on a l dead d mem. g.view s m on a l dead (omega (arith, d, same s a)) mem;
    rest = g.rest;
    joins = g.joins;
    young = g.young;
    since = omega (arith, g.since);
  }
    where
      same : (s : ℕ) → Calmness.living r.stations s ≡ true → Calmness.after R.size r.turn (owner R r) due s ≡ due s
      same s a = Calmness.after_other R.size r.turn (owner R r) due s (Calmness.apart_from R b₀ laws pos small r (owner R r) x i out s a)

  module _ (r : Ring S) (c : List Entry) (due : ℕ → ℕ) (x : Model S) (i : Is r (owner R r) x) (run : x.core.state ≡ Running) (soon : r.turn ≤ 1000000)
      (quiet : Quiet r) (votes : RunningVote R r) (h : Calmness.Calmed R b₀ r c due) (g : Rounds (Calmness.living r.stations) r c due) where
    abbrev alive : ℕ → Bool
    alive = Calmness.living r.stations

    abbrev due' : ℕ → ℕ
    due' = Calmness.after R.size r.turn (owner R r) due

    abbrev y : Model S
    y = (own_turn R r.turn x).0

    talk : Talked R.size R.vote laws small (Calmness.living r.stations) x.core (own_turn R r.turn x).0.core (own_turn R r.turn x).1
    talk = Calmness.talk R b₀ laws pos small r c due x i run soon quiet votes h

    abbrev c' : List Entry
    c' = Calmness.common R b₀ laws pos small r c due x i run soon quiet votes h

    owner_on : owner R r < R.size
    owner_on = mod-lt (r.turn - 1) pos

    lives : alive (owner R r) ≡ true
    lives = runs_at R r (owner R r) x i run

    now : due (owner R r) ≡ r.turn
    now = Calmness.due_owner R b₀ r.turn due pos h.sound.early h.turns

    mine_round : Round alive due (owner R r) x []
    mine_round = subst (Round alive due (owner R r) x) (quiet (owner R r) x i run) (g.each (owner R r) x i run)

    knows : (m : ℕ) → m < R.size → alive m ≡ true → (m ≡ owner R r → ⊥) → t₀ + R.size ≤ due m → length c₀ ≤ (peer_at y.core.peers m).known
    knows m on a ne d =
        omega (arith, talk.known m, Calmness.told_none (length c₀ ≤ (peer_at x.core.peers m).known) m [] refl (mine_round.known m on a ne d))

    longer : length c₀ ≤ length y.core.journal
    longer = omega (arith, mine_round.long, ap length talk.joins, length-append x.core.journal talk.more)

    mine : x.core.me ≡ owner R r
    mine = Calmness.mine R b₀ laws pos small r c due x i run soon quiet votes h

    -- a member of the new view was one of the old
    was_member : (m : ℕ) → has (Calmness.view_of R b₀ c') m ≡ true → (has (view x.core) m ≡ true) × (has (gone_of x.core) m ≡ false)
    was_member m mem =
        let e = and_parts (has (view x.core) m) (not (has (gone_of x.core) m)) (sym (talk.newest m) ∙ (ap (λ v. has v m) (Calmness.new_view R b₀ laws pos small r c due x i run soon quiet votes h) ∙ mem)) in
        (e.0, not-true (has (gone_of x.core) m) e.1)

    old_view : view x.core ≡ Calmness.view_of R b₀ c
    old_view = Calmness.newest_is R b₀ laws pos small r c due x i run soon quiet votes h

    -- members of the new view are on the roll
    in_roll : (m : ℕ) → has (view y.core) m ≡ true → m < R.size
    in_roll m mem = go (cases_lt m R.size)
      where
        low : view y.core < 2 ^ R.size
        low =
            subst (λ v. v < 2 ^ R.size) (sym (Calmness.new_view R b₀ laws pos small r c due x i run soon quiet votes h))
            (newest_strong R.size R.vote (suc r.turn) 0 (everyone R.size) c' (everyone_below R.size, laws.all) (Calmness.formed_common R b₀ laws pos small r c due x i run soon quiet votes h)).0

        go : (m < R.size) ⊎ (R.size ≤ m) → m < R.size
        go (inl e) = e
        go (inr e) = absurd (both_ways (has (view y.core) m) (has_off R.size (view y.core) m low e) mem)

    settles : t₀ + 2 * R.size ≤ r.turn → length c₀ ≤ y.core.firm
    settles late =
        omega (
          arith,
          talk.settled,
          least_atleast y.core.me (view y.core) 0 y.core.peers (length y.core.journal) (length c₀) longer
              (λ m l mem ne.
              let z : 0 + m ≡ m = omega arith in
              let here : has (view y.core) m ≡ true = subst (λ k. has (view y.core) k ≡ true) z mem in
              let old : has (Calmness.view_of R b₀ c) m ≡ true = ap (λ v. has v m) (sym old_view) ∙ (was_member m (ap (λ v. has v m) (sym (Calmness.new_view R b₀ laws pos small r c due x i run soon quiet votes h)) ∙ here)).0 in
              knows m (in_roll m here) (members_run r c due votes h g late m (in_roll m here) old)
              (λ e. ne (z ∙ (e ∙ sym ((moves_turn r.turn R.vote x.outbox x.core).me ∙ mine)))) (omega (arith, h.turns.low m (in_roll m here), late))),
        )

    told_other : (m : ℕ) → alive m ≡ false → Calmness.Told m (frames_of (owner R r) (last_turn c) talk.more ++ Heartbeat (owner R r) (end_of c') ∷ []) → ⊥
    told_other m dead t =
        both_ways (alive m) dead (ap alive (sym (told_posts m (owner R r) (last_turn c) talk.more (end_of c') t)) ∙ lives)

    round_other : (s : ℕ) (z : Model S) → Is r s z → z.core.state ≡ Running → (s ≡ owner R r → ⊥) →
        Round alive due' s z (frames_of (owner R r) (last_turn c) talk.more ++ Heartbeat (owner R r) (end_of c') ∷ [])
    round_other s z j e ne =
        let k = subst (Round alive due s z) (quiet s z j e) (g.each s z j e) in
        let d = Calmness.after_other R.size r.turn (owner R r) due s ne in
        record {
          long = k.long;
          untold = told_other;
          silent = λ m dead l. k.silent m dead (omega (arith, l, d));
          known = λ m on a apart l. known k m on a apart l (cases_eq m (owner R r));
          firm = λ l. k.firm (omega (arith, l, d));
        }
      where
        known : Round alive due s z [] → (m : ℕ) → m < R.size → alive m ≡ true → (m ≡ s → ⊥) → t₀ + R.size ≤ due' m → (m ≡ owner R r) ⊎ (m ≡ owner R r → ⊥) →
            (length c₀ ≤ (peer_at z.core.peers m).known) ⊎ Calmness.Told m (frames_of (owner R r) (last_turn c) talk.more ++ Heartbeat (owner R r) (end_of c') ∷ [])
        known k m on a apart l (inl w) =
            inr (subst (λ q. Calmness.Told q (frames_of (owner R r) (last_turn c) talk.more ++ Heartbeat (owner R r) (end_of c') ∷ [])) (sym w)
            (Calmness.told_last (owner R r) (frames_of (owner R r) (last_turn c) talk.more) (end_of c')))
        known k m on a apart l (inr w) =
            inl (Calmness.told_none (length c₀ ≤ (peer_at z.core.peers m).known) m [] refl
            (k.known m on a apart (omega (arith, l, Calmness.after_other R.size r.turn (owner R r) due m w))))

    round_owner : Round alive due' (owner R r) y []
    round_owner = record {
      long = longer;
      untold = λ m dead t. t;
      silent = λ m dead l. talk.heard m;
      known = λ m on a ne l. inl (knows m on a ne (omega (arith, l, Calmness.after_other R.size r.turn (owner R r) due m ne)));
      firm = λ l. settles (omega (arith, l, Calmness.after_own R.size r.turn (owner R r) due));
    }

    view_after_turn : (s m : ℕ) → s < R.size → alive s ≡ true → m < R.size → alive m ≡ false → t₀ + 2 * R.size ≤ due' s →
        has (Calmness.view_of R b₀ c') m ≡ true → Blocked alive s m
    view_after_turn s m on a l dead d mem = go (cases_eq s (owner R r))
      where
        was : (has (view x.core) m ≡ true) × (has (gone_of x.core) m ≡ false)
        was = was_member m mem

        at : (j : ℕ) × (1 ≤ j) × (j < R.size) × ((owner R r + j) % R.size ≡ m)
        at = offset R.size (owner R r) m owner_on l (λ e. both_ways (alive m) dead (ap alive e ∙ lives))

        gone_is : gone_of x.core ≡ unheard (view x.core) x.core.peers (going_back R.size (owner R r)) 0
        gone_is =
            ap (λ n. unheard (view x.core) x.core.peers (going_back n x.core.me) 0) (Calmness.sized R b₀ laws pos small r c due x i run soon quiet votes h) ∙
            ap (λ s. unheard (view x.core) x.core.peers (going_back R.size s) 0) mine

        blocked : t₀ + R.size ≤ r.turn → Blocked alive (owner R r) m
        blocked late =
            let heard = unheard_blocked R.size (owner R r) (view x.core) x.core.peers pos small m at.0 at.3 at.1 was.0
            (mine_round.silent m dead (omega (arith, now, late))) (R.size - 1) (omega (arith, at.2)) 0 (subst (λ g. has g m ≡ false) gone_is was.1) in
            record {
              far = R.size - at.0;
              near = heard.0 - at.0;
              first = omega (arith, heard.1);
              before = omega (arith, heard.1, heard.2, at.2);
              within = omega (arith, at.1, at.2);
              comes = shift_round R.size (owner R r) m at.0 owner_on (omega (arith, at.2)) at.3;
              runs = ap alive (shift_between R.size (owner R r) m heard.0 at.0 at.3 (omega (arith, heard.1))) ∙
                  living_heard heard.0 heard.3 late (cases_Bool (alive ((owner R r + heard.0) % R.size)));
            }
          where
            living_heard : (k : ℕ) → (peer_at x.core.peers ((owner R r + k) % R.size)).heard ≡ true → t₀ + R.size ≤ r.turn →
                (alive ((owner R r + k) % R.size) ≡ true) ⊎ (alive ((owner R r + k) % R.size) ≡ false) → alive ((owner R r + k) % R.size) ≡ true
            living_heard k e late (inl w) = w
            living_heard k e late (inr w) = absurd (both_ways (peer_at x.core.peers ((owner R r + k) % R.size)).heard (mine_round.silent ((owner R r + k) % R.size) w (omega (arith, now, late))) e)

        go : (s ≡ owner R r) ⊎ (s ≡ owner R r → ⊥) → Blocked alive s m
        go (inl e) =
            subst (λ z. Blocked alive z m) (sym e)
            (blocked (omega (arith, subst (λ z. t₀ + 2 * R.size ≤ due' z) e d, Calmness.after_own R.size r.turn (owner R r) due)))
        go (inr ne) =
            g.view s m on a l dead (omega (arith, d, Calmness.after_other R.size r.turn (owner R r) due s ne))
            (ap (λ v. has v m) (sym old_view) ∙ was.0)

    rounds_turn : Rounds (Calmness.living (set r.stations (owner R r) y)) (after_turn R r (owner R r) x) c' due'
    unfolding Calmness.common talk
    rounds_turn =
        subst (λ a. Rounds a (after_turn R r (owner R r) x) c' due')
        (sym (fun_ext (Calmness.living_set r.stations (owner R r) x y i (talk.state ∙ sym run)))) (record {
          each = λ s z j e. each s z e (nth_set r.stations (owner R r) s y z j);
          view = view_after_turn;
          rest = g.rest ++ talk.more;
          joins = ap (λ k. k ++ talk.more) g.joins ∙ append_assoc c₀ g.rest talk.more;
          young = All-append (λ e. t₀ ≤ e.turn) g.rest talk.more g.young
              (All-weaker (λ e. e.turn ≡ r.turn) (λ e. t₀ ≤ e.turn) (λ e k. omega (arith, k, g.since)) talk.more
              (Calmness.of_turn_more R b₀ laws pos small r c due x i run soon quiet votes h));
          since = omega (arith, g.since);
        })
      where
        each : (s : ℕ) (z : Model S) → z.core.state ≡ Running → ((s ≡ owner R r) × (z ≡ y)) ⊎ ((s ≡ owner R r → ⊥) × Is r s z) →
            Round alive due' s z ((posted_all r.lines x.core.me (own_turn R r.turn x).1).at s)
        each s z e (inl k) =
            subst (λ w. Round alive due' w z ((posted_all r.lines x.core.me (own_turn R r.turn x).1).at w)) (sym k.0)
            (subst (Round alive due' (owner R r) z) (sym (Calmness.line_own R b₀ laws pos small r c due x i run soon quiet votes h))
            (subst (λ w. Round alive due' (owner R r) w []) (sym k.1) round_owner))
        each s z e (inr k) =
            subst (Round alive due' s z) (sym (Calmness.line_other R b₀ laws pos small r c due x i run soon quiet votes h s z k.1 e k.0)) (round_other s z k.1 e k.0)

  going_turn : (r : Ring S) (c : List Entry) (due : ℕ → ℕ) (x : Model S) → Is r (owner R r) x → r.turn ≤ 1000000 → Quiet r → RunningVote R r →
      Calmness.Calmed R b₀ r c due → Rounds (Calmness.living r.stations) r c due →
      Sound R b₀ (after_turn R r (owner R r) x) → (x.core.state ≡ Running) ⊎ (x.core.state ≡ Out Stopped) →
      Going (after_turn R r (owner R r) x)
  going_turn r c due x i soon quiet votes h g sound (inl run) = record {
    journal = Calmness.common R b₀ laws pos small r c due x i run soon quiet votes h;
    due = Calmness.after R.size r.turn (owner R r) due;
    calmed = Calmness.calm_turn R b₀ laws pos small r c due x i run soon quiet votes h sound;
    rounds = rounds_turn r c due x i run soon quiet votes h g;
  }
  going_turn r c due x i soon quiet votes h g sound (inr out) =
      subst Going (sym (Calmness.idle_ring R b₀ laws pos small r x i out)) (record {
        journal = c;
        due = Calmness.after R.size r.turn (owner R r) due;
        calmed = Calmness.calm_idle R b₀ laws pos small r c due x i out h (subst (Sound R b₀) (Calmness.idle_ring R b₀ laws pos small r x i out) sound);
        rounds = rounds_idle r c due x i out g;
      })

  abbrev Goes : Call → Answer S → Type 0
  Goes (NoteCall _ _) a = Unit {0}
  Goes Turn a = Unit {0}
  Goes (Take _) a = Unit {0}
  Goes (Lose _) a = Unit {0}
  Goes (Stop _) a = a.0 ≡ 0 → ⊥
  Goes (Enter _) a = Unit {0}

  going_steps : (r : Ring S) (k : Call) (a : Answer S) → Steps R r k a → (a.0 ≡ 0 → CalmCall R r k) → Goes k a → RunningVote R r → Sound R b₀ a.1 →
      Going r → Going a.1
  going_steps r k a (refused j) calm un votes sound g = g
  going_steps r k a (noted s note x i o) calm un votes sound g = record {
    journal = g.journal;
    due = g.due;
    calmed = Calmness.calm_note R b₀ r g.journal g.due s x _ i g.calmed sound;
    rounds = rounds_note r g.journal g.due s x _ i g.rounds;
  }
  going_steps r k a (turns x i l) calm un votes sound g =
      going_turn r g.journal g.due x i l (calm refl) votes g.calmed g.rounds sound (g.calmed.state _ x i)
  going_steps r k a (takes s x f l i o q) calm un votes sound g = record {
    journal = g.journal;
    due = g.due;
    calmed = Calmness.calm_take R b₀ r g.journal g.due s x f l i o q g.calmed sound;
    rounds = rounds_take r g.journal g.due s x f l i o q g.calmed g.rounds;
  }
  going_steps r k a (loses s f l q) calm un votes sound g = absurd (calm refl)
  going_steps r k a (stops s x i o) calm un votes sound g = absurd (un refl)
  going_steps r k a (enters s x i o) calm un votes sound g = absurd (calm refl)

  unstopped : (r : Ring S) (k : Call) → UnstoppedCall R r k → Goes k (step R r k)
  unstopped r (NoteCall _ _) h = tt
  unstopped r Turn h = tt
  unstopped r (Take _) h = tt
  unstopped r (Lose _) h = tt
  unstopped r (Stop s) h = h
  unstopped r (Enter _) h = tt

  pub going_run : (r : Ring S) (ks : List Call) → Calm R r ks → Unstopped R r ks → Going r → Going (run R r ks) × Quiet (run R r ks)
  unfolding run
  going_run r [] calm un g = (g, calm.0)
  going_run r (k ∷ ks) calm un g =
      going_run (step R r k).1 ks calm.1 un.1
      (going_steps r k (step R r k) (steps R r k) calm.0 (unstopped r k un.0)
      (calm_vote R laws r (k ∷ ks) (Calmness.none_joins R b₀ laws pos small r g.journal g.due g.calmed) calm)
      (good_step R b₀ laws small r k g.calmed.sound) g)

  -- three rounds on, every entry of the common journal that is older than t₀ is firm
  pub older_firm : (r : Ring S) → Quiet r → t₀ + 3 * R.size ≤ r.turn → Going r → OlderFirm t₀ r
  older_firm r quiet late g s m x y i run j k e at old =
      let d = (g.rounds.each s x i run).firm (omega (arith, late, g.calmed.turns.low s (omega (arith, nth_below r.stations s x i, g.calmed.sound.size)))) in
      let l : k < length c₀ = go (cases_lt k (length c₀)) in
      nth_take x.core.journal x.core.firm k e (omega arith) (subst (λ z. slice_get z k ≡ Some e) (sym has) here)
    where
      has : x.core.journal ≡ g.journal
      has = subst (λ l. Feeds R.size R.vote s x.core.journal l g.journal) (quiet s x i run) (g.calmed.each s x i run).feeds

      here : slice_get g.journal k ≡ Some e
      here = subst (λ z. slice_get z k ≡ Some e) (g.calmed.begins m y j).joins (nth_front y.core.journal (g.calmed.begins m y j).rest k e at)

      go : (k < length c₀) ⊎ (length c₀ ≤ k) → k < length c₀
      go (inl l) = l
      go (inr l) = absurd (omega (arith, old, nth_past (λ d. t₀ ≤ d.turn) c₀ g.rounds.rest k e l g.rounds.young (subst (λ z. slice_get z k ≡ Some e) g.rounds.joins here)))

  -- at the start of the three rounds
  pub going_start : (r : Ring S) (due : ℕ → ℕ) → r.turn ≡ t₀ → Quiet r → Calmness.Calmed R b₀ r c₀ due → Going r
  going_start r due at quiet h = record {
    journal = c₀;
    due = due;
    calmed = h;
    rounds = record {
      each = λ s x i run.
          let on : s < R.size = omega (arith, nth_below r.stations s x i, h.sound.size) in
          let early : due s < t₀ + R.size = omega (arith, h.turns.high s on, at) in
          record {
            long = omega (arith, ap length (subst (λ l. Feeds R.size R.vote s x.core.journal l c₀) (quiet s x i run) (h.each s x i run).feeds));
            untold = λ m dead t. subst (Calmness.Told m) (quiet s x i run) t;
            silent = λ m dead l. absurd (omega (arith, l, early));
            known = λ m l a ne d. absurd (omega (arith, d, h.turns.high m l, at));
            firm = λ l. absurd (omega (arith, l, early));
          };
      view = λ s m on a l dead d mem. absurd (omega (arith, d, h.turns.high s on, at));
      rest = [];
      joins = sym (append-nil c₀);
      young = tt;
      since = omega (arith, at);
    };
  }
