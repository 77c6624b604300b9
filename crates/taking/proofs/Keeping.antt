-- What acting on a frame keeps: the firm count, and the length of the journal but for growing. Assumes nothing.
use Rattle.std.proofs.Common.{◌≡◌, ℕ, ◌-◌, ◌≤◌, Bool, true, false, cond, ◌&&◌, eqb, ltb, [], length, refl, ap, ◌∙◌, arith}
use Rattle.std.proofs.lemmas.List.{length_push}
use Rattle.protocol.specs.declared.entry.Body.{Body}
use Rattle.protocol.specs.declared.entry.Body.TheVariants as body
use Rattle.protocol.specs.declared.entry.Entry.{Entry}
use Rattle.protocol.specs.declared.frame.Frame.{Frame}
use Rattle.protocol.specs.declared.frame.Frame.TheVariants as frame
use Rattle.vote.specs.Mask.{has}
use Rattle.journal.specs.declared.state.State.{State}
use Rattle.journal.specs.declared.state.State.TheVariants.{Running, Joining, Out}
use Rattle.journal.specs.Journal.{matches}
use Rattle.journal.specs.Core.{Core}
use Rattle.journal.specs.Settle.{newly_firm}
use Rattle.taking.specs.declared.filing.Filing.{Filing}
use Rattle.taking.specs.declared.filing.Filing.TheVariants.{Held, Next, Ahead, Stray}
use Rattle.taking.specs.Lawful.{lawful}
use Rattle.taking.specs.Take.{after_running, after_joining, entry_running, entry_joining, filing, append, raise_match, heartbeat_running, acts, received}

-- a station with that firm count, whose journal has at least that length
abbrev pub Kept : ℕ → ℕ → Core → Type 0
Kept k n m = (m.firm ≡ k) × (n ≤ length m.journal)

abbrev pub Keeps : Core → Core → Type 0
Keeps m = Kept m.firm (length m.journal)

same : (m : Core) → Keeps m m
same m = (refl, omega arith)

either : (b : Bool) (x y : Core) (k n : ℕ) → Kept k n x → Kept k n y → Kept k n (cond b x y)
either true x y k n p q = p
either false x y k n p q = q

keeps_append : (s : ℕ) (e : Entry) (m : Core) → Keeps m (append s e m)
keeps_append s e m = (refl, let h = length_push m.journal e in omega arith)

keeps_after_running : (b : Body) (m : Core) (k n : ℕ) → Kept k n m → Kept k n (after_running b m)
keeps_after_running (body.Note x) m k n h = h
keeps_after_running (body.View v) m k n h = either (has v m.me) _ _ k n h h

keeps_after_joining : (b : Body) (m : Core) (k n : ℕ) → Kept k n m → Kept k n (after_joining b m)
keeps_after_joining (body.Note x) m k n h = h
keeps_after_joining (body.View v) m k n h = either (has v m.me) _ _ k n h h

keeps_entry_running : (f : Filing) (s : ℕ) (e : Entry) (m : Core) → Keeps m (entry_running f s e m)
keeps_entry_running Held s e m = same m
keeps_entry_running Next s e m = keeps_after_running e.body (append s e m) _ _ (keeps_append s e m)
keeps_entry_running Ahead s e m = same m
keeps_entry_running Stray s e m = same m

keeps_entry_joining : (f : Filing) (s : ℕ) (e : Entry) (m : Core) → Keeps m (entry_joining f s e m)
keeps_entry_joining Held s e m = same m
keeps_entry_joining Next s e m = keeps_after_joining e.body (append s e m) _ _ (keeps_append s e m)
keeps_entry_joining Ahead s e m = same m
keeps_entry_joining Stray s e m = same m

keeps_raise_match : (s : ℕ) (e : ℕ × ℕ) (m : Core) → Keeps m (raise_match s e m)
keeps_raise_match s e m = either (matches m.journal e) _ _ _ _ (same m) (same m)

keeps_heartbeat : (s : ℕ) (e : ℕ × ℕ) (m : Core) → Keeps m (heartbeat_running s e m)
keeps_heartbeat s e m =
    either (ltb (length m.journal) e.0) _ _ _ _ (same m)
    (either (matches m.journal e && eqb e.0 (length m.journal)) _ _ _ _ (same m) (keeps_raise_match s e m))

keeps_acts : (s : State) (f : Frame) (m : Core) → Keeps m (acts s f m)
keeps_acts Running (frame.Entry s e b) m = keeps_entry_running (filing m.journal e b) s e m
keeps_acts Running (frame.Heartbeat s e) m = keeps_heartbeat s e m
keeps_acts Running (frame.Join s e) m = keeps_raise_match s e _
keeps_acts Joining (frame.Entry s e b) m = keeps_entry_joining (filing m.journal e b) s e m
keeps_acts Joining (frame.Heartbeat s e) m = keeps_raise_match s e m
keeps_acts Joining (frame.Join s e) m = same m
keeps_acts (Out c) f m = same m

-- acting on a frame leaves the firm count to the settling, and never shortens a journal
pub keeps_received : (vote : ℕ → Bool) (f : Frame) (m : Core) → Keeps m (received vote f m)
keeps_received vote f m = either (lawful m.me m.roll vote f) _ _ _ _ (keeps_acts m.state f m) (same m)

pub firm_kept : (vote : ℕ → Bool) (f : Frame) (m r : Core) → r ≡ received vote f m → r.firm ≡ m.firm
firm_kept vote f m r e = ap (λ (x : Core). x.firm) e ∙ (keeps_received vote f m).0

pub nothing_firm : (k : ℕ) (m : Core) → m.firm ≡ k → newly_firm k m ≡ []
nothing_firm k m e = let z : m.firm - k ≡ 0 = omega arith in rw z
