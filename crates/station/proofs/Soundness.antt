-- What a sound station tells: known places are within its journal, and the entry at a place has that place. Assumes nothing.
use Rattle.std.proofs.Common.{◌≡◌, ℕ, zero, suc, ◌+◌, ◌-◌, ◌<◌, ◌≤◌, true, eqb, ltb, List, [], ◌∷◌, length, Some, None, Option, refl, ap, arith}
use Rattle.std.specs.List.{slice_get}
use Rattle.std.proofs.lemmas.Bool.{cond_both, and_parts, eqb-true, ltb-true}
use Rattle.protocol.specs.declared.entry.Entry.{Entry}
use Rattle.journal.specs.Journal.{entry_at}
use Rattle.journal.specs.Peers.{peer_at}
use Rattle.journal.specs.Core.{Core}
use Rattle.station.specs.Sound.{known_within, placed_after, is_sound, HasPlace}
use Rattle.station.proofs.Knowing.{within_at}

pub known_sound : (m : Core) → is_sound m ≡ true → (s : ℕ) → (peer_at m.peers s).known ≤ length m.journal
unfolding is_sound
known_sound m h s = within_at (length m.journal) m.peers s (and_parts (known_within (length m.journal) m.peers) (placed_after 0 m.journal) h).0

placed_at : (k : ℕ) (j : List Entry) (i : ℕ) (e : Entry) → placed_after k j ≡ true → slice_get j i ≡ Some e → e.place ≡ k + i + 1
unfolding placed_after
placed_at k [] i e w h = let z : ◌≡◌ {A = ℕ} 0 1 = cc in absurd (omega arith)
placed_at k (d ∷ j) zero e w h =
    let a = eqb-true d.place (k + 1) (and_parts (eqb d.place (k + 1)) (placed_after (k + 1) j) w).0 in
    let b : d ≡ e = cc in
    omega (arith, ap (λ (x : Entry). x.place) b)
placed_at k (d ∷ j) (suc i) e w h =
    omega (arith, placed_at (k + 1) j i e (and_parts (eqb d.place (k + 1)) (placed_after (k + 1) j) w).1 h)

pub has_place : (m : Core) → is_sound m ≡ true → (p : ℕ) → HasPlace p (entry_at m.journal p)
unfolding is_sound
has_place m h p = cond_both (ltb 0 p) _ _ (HasPlace p) (λ e. found (ltb-true 0 p e) (slice_get m.journal (p - 1)) refl) (λ _. tt)
  where
    found : 0 < p → (o : Option Entry) → slice_get m.journal (p - 1) ≡ o → HasPlace p o
    found some None e = tt
    found some (Some x) e =
        omega (arith, placed_at 0 m.journal (p - 1) x (and_parts (known_within (length m.journal) m.peers) (placed_after 0 m.journal) h).1 e)
