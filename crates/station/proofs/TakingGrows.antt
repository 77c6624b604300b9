-- A station grows by taking, entering and stopping. Assumes nothing.
use Rattle.std.proofs.Common.{◌≡◌, ℕ, ◌+◌, ◌≤◌, Bool, true, ◌&&◌, eqb, ltb, leb, List, [], ◌∷◌, ◌++◌, length, Some, refl, ◌∙◌, ⊎_elim, arith}
use Rattle.std.proofs.lemmas.List.{length_push}
use Rattle.std.proofs.lemmas.Bool.{cond_both, and_parts, or_cases, leb-true, eqb-true}
use Rattle.protocol.specs.declared.entry.Body.{Body}
use Rattle.protocol.specs.declared.entry.Body.TheVariants as body
use Rattle.protocol.specs.declared.entry.Entry.{Entry}
use Rattle.protocol.specs.declared.frame.Frame.{Frame}
use Rattle.protocol.specs.declared.frame.Frame.TheVariants as frame
use Rattle.vote.specs.Mask.{has}
use Rattle.journal.specs.declared.state.State.{State}
use Rattle.journal.specs.declared.state.State.TheVariants.{Running, Joining, Out}
use Rattle.journal.specs.declared.state.Cause.TheVariants.{Gap, PutOff}
use Rattle.journal.specs.Journal.{turn_at, last_turn, is_start, holds, matches}
use Rattle.journal.specs.Peers.{peer_at, marked, heard_one, heard_all, wished, wishless, unwished}
use Rattle.journal.specs.Core.{Core, with_state, with_journal, with_peers}
use Rattle.taking.specs.declared.filing.Filing.{Filing}
use Rattle.taking.specs.declared.filing.Filing.TheVariants.{Held, Next, Ahead, Stray}
use Rattle.taking.specs.Lawful.{lawful}
use Rattle.taking.specs.Take.{filing, raise, append, after_running, after_joining, entry_running, entry_joining, raise_match, heartbeat_running, acts, received, taken}
use Rattle.station.specs.Rules.{entered}
use Rattle.station.specs.Laws.{Grown}
use Rattle.station.proofs.Knowing.{within_map, known_map}
use Rattle.station.proofs.Growth.{same, then, either, restated, retabled, repeered, grown_raised, lengthened, grown_settle, grown_settle_on}

-- what a filing says of the entry's place
abbrev Filed : List Entry → Entry → Filing → Type 0
Filed j e Held = e.place ≤ length j
Filed j e Next = e.place ≡ length j + 1
Filed j e Ahead = Unit {0}
Filed j e Stray = Unit {0}

held_within : (j : List Entry) (p t : ℕ) → holds j p t ≡ true → p ≤ length j
held_within j p t h = leb-true p (length j) (and_parts (leb p (length j)) (eqb (turn_at j p) t) (and_parts (ltb 0 p) (leb p (length j) && eqb (turn_at j p) t) h).1).0

filed : (j : List Entry) (e : Entry) (before : ℕ) → Filed j e (filing j e before)
filed j e before =
    cond_both (holds j e.place e.turn) _ _ (Filed j e) (λ h. held_within j e.place e.turn h)
    (λ _. cond_both (eqb e.place (length j + 1) && eqb before (last_turn j)) _ _ (Filed j e)
    (λ h. eqb-true e.place (length j + 1) (and_parts (eqb e.place (length j + 1)) (eqb before (last_turn j)) h).0)
    (λ _. cond_both (ltb (length j + 1) e.place) _ _ (Filed j e) (λ _. tt) (λ _. tt)))

-- an end that matches is within the journal
matched : (j : List Entry) (e : ℕ × ℕ) → matches j e ≡ true → e.0 ≤ length j
matched j e h =
    ⊎_elim
    (λ z. let a = eqb-true e.0 0 (and_parts (eqb e.0 0) (eqb e.1 0) z).0 in omega arith)
    (held_within j e.0 e.1)
    (or_cases (is_start e) (holds j e.0 e.1) h)

grown_append : (s : ℕ) (e : Entry) (m : Core) → e.place ≡ length m.journal + 1 → Grown m (append s e m)
grown_append s e m h =
    let x = with_journal (m.journal ++ e ∷ []) m in
    then m x _ (lengthened e m h) (grown_raised s e.place x (omega (arith, length_push m.journal e)))

grown_marked : (m : Core) → Grown m (with_peers (heard_all m.peers) m)
grown_marked m = retabled (heard_all m.peers) m (known_map marked (λ _. refl) m.peers) (λ w. within_map (length m.journal) marked (λ _. refl) m.peers ∙ w)

grown_after_running : (b : Body) (m : Core) → Grown m (after_running b m)
grown_after_running (body.Note x) m = same m
grown_after_running (body.View v) m = either m (has v m.me) _ _ (λ _. same m) (λ _. restated (Out PutOff) m)

grown_after_joining : (b : Body) (m : Core) → Grown m (after_joining b m)
grown_after_joining (body.Note x) m = same m
grown_after_joining (body.View v) m =
    either m (has v m.me) _ _ (λ _. then m (with_peers (heard_all m.peers) m) _ (grown_marked m) (restated Running _)) (λ _. same m)

grown_running : (f : Filing) (s : ℕ) (e : Entry) (m : Core) → Filed m.journal e f → Grown m (entry_running f s e m)
grown_running Held s e m h = grown_raised s e.place m h
grown_running Next s e m h = then m (append s e m) _ (grown_append s e m h) (grown_after_running e.body (append s e m))
grown_running Ahead s e m h = restated (Out Gap) m
grown_running Stray s e m h = same m

grown_joining : (f : Filing) (s : ℕ) (e : Entry) (m : Core) → Filed m.journal e f → Grown m (entry_joining f s e m)
grown_joining Held s e m h = grown_raised s e.place m h
grown_joining Next s e m h = then m (append s e m) _ (grown_append s e m h) (grown_after_joining e.body (append s e m))
grown_joining Ahead s e m h = same m
grown_joining Stray s e m h = same m

grown_match : (s : ℕ) (e : ℕ × ℕ) (m : Core) → Grown m (raise_match s e m)
grown_match s e m = either m (matches m.journal e) _ _ (λ h. grown_raised s e.0 m (matched m.journal e h)) (λ _. same m)

grown_heard : (s : ℕ) (m : Core) → Grown m (with_peers (heard_one s m.peers) m)
grown_heard s m = repeered s (marked (peer_at m.peers s)) m (omega arith) (λ w. w)

grown_heartbeat : (s : ℕ) (e : ℕ × ℕ) (m : Core) → Grown m (heartbeat_running s e m)
grown_heartbeat s e m =
    let x = raise s e.0 m in
    either m (ltb (length m.journal) e.0) _ _ (λ _. restated (Out Gap) m)
    (λ _. either m (matches m.journal e && eqb e.0 (length m.journal)) _ _
    (λ h. then m x _ (grown_raised s e.0 m (matched m.journal e (and_parts (matches m.journal e) (eqb e.0 (length m.journal)) h).0)) (grown_heard s x))
    (λ _. grown_match s e m))

grown_wished : (s : ℕ) (e : ℕ × ℕ) (m : Core) → Grown m (with_peers (wished s e m.peers) m)
grown_wished s e m = repeered s (record { heard = (peer_at m.peers s).heard; known = (peer_at m.peers s).known; wish = Some e }) m (omega arith) (λ w. w)

grown_acts : (q : State) (f : Frame) (m : Core) → Grown m (acts q f m)
grown_acts Running (frame.Entry s e b) m = grown_running (filing m.journal e b) s e m (filed m.journal e b)
grown_acts Running (frame.Heartbeat s e) m = grown_heartbeat s e m
grown_acts Running (frame.Join s e) m = then m (with_peers (wished s e m.peers) m) _ (grown_wished s e m) (grown_match s e _)
grown_acts Joining (frame.Entry s e b) m = grown_joining (filing m.journal e b) s e m (filed m.journal e b)
grown_acts Joining (frame.Heartbeat s e) m = grown_match s e m
grown_acts Joining (frame.Join s e) m = same m
grown_acts (Out c) f m = same m

pub grown_taken : (vote : ℕ → Bool) (f : Frame) (m : Core) → Grown m (taken vote f m)
grown_taken vote f m =
    then m (received vote f m) _
    (either m (lawful m.me m.roll vote f) _ _ (λ _. grown_acts m.state f m) (λ _. same m))
    (grown_settle_on (received vote f m))

grown_unwished : (m : Core) → Grown m (with_peers (unwished m.peers) m)
grown_unwished m = retabled (unwished m.peers) m (known_map wishless (λ _. refl) m.peers) (λ w. within_map (length m.journal) wishless (λ _. refl) m.peers ∙ w)

pub grown_entered : (m : Core) → Grown m (entered m)
grown_entered m =
    let x = with_peers (unwished m.peers) m in
    then m x _ (grown_unwished m) (then x (with_state Joining x) _ (restated Joining x) (grown_settle (with_state Joining x)))
