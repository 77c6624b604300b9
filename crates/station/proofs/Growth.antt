-- How stations grow: the steps from which all rules are made. Assumes nothing.
use Rattle.std.proofs.Common.{◌≡◌, ℕ, ◌+◌, ◌≤◌, max, Bool, true, false, cond, List, [], ◌∷◌, ◌++◌, length, set, sym, refl, ap, ◌∙◌, arith}
use Rattle.std.proofs.lemmas.List.{append-nil, append_assoc, length_push}
use Rattle.std.proofs.lemmas.Bool.{cond_both, and_parts, and_from}
use Rattle.protocol.specs.declared.entry.Entry.{Entry}
use Rattle.journal.specs.declared.state.State.{State}
use Rattle.journal.specs.declared.peer.Peer.{Peer}
use Rattle.journal.specs.Peers.{peer_at, raised}
use Rattle.journal.specs.Core.{Core, with_state, with_journal, with_peers, new_core, is_out}
use Rattle.journal.specs.Settle.{view, settle, settle_on}
use Rattle.station.specs.Sound.{known_within, placed_after, is_sound}
use Rattle.station.specs.Laws.{Grown}
use Rattle.station.proofs.Knowing.{within_set, within_up, within_at, known_set, least_le, placed_push}

pub same : (m : Core) → Grown m m
same m = record {
  me = refl;
  roll = refl;
  more = [];
  journal = sym (append-nil m.journal);
  firm = omega arith;
  within = λ h. h;
  known = λ s. omega arith;
  sound = λ h. h;
}

pub then : (m x y : Core) → Grown m x → Grown x y → Grown m y
then m x y p q = record {
  me = q.me ∙ p.me;
  roll = q.roll ∙ p.roll;
  more = p.more ++ q.more;
  journal = q.journal ∙ ap (λ (j : List Entry). j ++ q.more) p.journal ∙ append_assoc m.journal p.more q.more;
  firm = let a = p.firm in let b = q.firm in omega arith;
  within = λ h. q.within (p.within h);
  known = λ s. omega (arith, p.known s, q.known s);
  sound = λ h. q.sound (p.sound h);
}

pub either : (m : Core) (b : Bool) (x y : Core) → (b ≡ true → Grown m x) → (b ≡ false → Grown m y) → Grown m (cond b x y)
either m b x y p q = cond_both b x y (Grown m) p q

-- another state
pub restated : (q : State) (m : Core) → Grown m (with_state q m)
unfolding is_sound
restated q m = record {
  me = refl;
  roll = refl;
  more = [];
  journal = sym (append-nil m.journal);
  firm = omega arith;
  within = λ h. h;
  known = λ s. omega arith;
  sound = λ h. h;
}

-- another table, in which known places only rose
pub retabled : (ps : List Peer) (m : Core) → ((s : ℕ) → (peer_at m.peers s).known ≤ (peer_at ps s).known)
    → (known_within (length m.journal) m.peers ≡ true → known_within (length m.journal) ps ≡ true) → Grown m (with_peers ps m)
unfolding is_sound
retabled ps m rises keeps = record {
  me = refl;
  roll = refl;
  more = [];
  journal = sym (append-nil m.journal);
  firm = omega arith;
  within = λ h. h;
  known = rises;
  sound = λ h.
      let a = and_parts (known_within (length m.journal) m.peers) (placed_after 0 m.journal) h in
      and_from (known_within (length m.journal) ps) (placed_after 0 m.journal) (keeps a.0) a.1;
}

-- the record of one station changed, its known place no lower and within the journal if it was
pub repeered : (s : ℕ) (p : Peer) (m : Core) → (peer_at m.peers s).known ≤ p.known
    → ((peer_at m.peers s).known ≤ length m.journal → p.known ≤ length m.journal) → Grown m (with_peers (set m.peers s p) m)
repeered s p m rises keeps =
    retabled (set m.peers s p) m (known_set m.peers s p rises)
    (λ w. within_set (length m.journal) m.peers s p (keeps (within_at (length m.journal) m.peers s w)) w)

-- a known place raised to one within the journal
pub grown_raised : (s k : ℕ) (m : Core) → k ≤ length m.journal → Grown m (with_peers (raised s k m.peers) m)
grown_raised s k m h =
    repeered s (record { heard = (peer_at m.peers s).heard; known = max (peer_at m.peers s).known k; wish = (peer_at m.peers s).wish }) m (omega arith) (λ w. omega arith)

-- one more entry, at its place
pub lengthened : (e : Entry) (m : Core) → e.place ≡ length m.journal + 1 → Grown m (with_journal (m.journal ++ e ∷ []) m)
unfolding is_sound
lengthened e m h =
    let n = length_push m.journal e in
    record {
      me = refl;
      roll = refl;
      more = e ∷ [];
      journal = refl;
      firm = omega arith;
      within = λ w. omega arith;
      known = λ s. omega arith;
      sound = λ w.
          let a = and_parts (known_within (length m.journal) m.peers) (placed_after 0 m.journal) w in
          and_from (known_within (length (m.journal ++ e ∷ [])) m.peers) (placed_after 0 (m.journal ++ e ∷ []))
          (within_up (length m.journal) (length (m.journal ++ e ∷ [])) m.peers (omega arith) a.0)
          (placed_push 0 m.journal e (omega arith) a.1);
    }

-- the firm count worked out again
pub grown_settle : (m : Core) → Grown m (settle m)
unfolding is_sound
grown_settle m = record {
  me = refl;
  roll = refl;
  more = [];
  journal = sym (append-nil m.journal);
  firm = omega arith;
  within = λ h. omega (arith, least_le m.me (view m) 0 m.peers (length m.journal));
  known = λ s. omega arith;
  sound = λ h. h;
}

pub grown_settle_on : (m : Core) → Grown m (settle_on m)
grown_settle_on m = either m (is_out m.state) m (settle m) (λ _. same m) (λ _. grown_settle m)

-- a station that equals a grown one is sound
pub stays_sound : (m x y : Core) → Grown m y → x ≡ y → is_sound m ≡ true → is_sound x ≡ true
stays_sound m x y g e h = ap is_sound e ∙ g.sound h

pub new_sound : (me roll : ℕ) → is_sound (new_core me roll) ≡ true
unfolding is_sound known_within placed_after
new_sound me roll = refl
