-- Known places: which changes of the table raise them, and keep them within a length. Assumes nothing.
use Rattle.std.proofs.Common.{◌≡◌, ℕ, zero, suc, ◌+◌, ◌≤◌, true, not, ◌&&◌, eqb, leb, List, [], ◌∷◌, ◌++◌, map, length, set, refl, ap, ◌∙◌, arith}
use Rattle.std.proofs.lemmas.Bool.{cond_both, and_parts, and_from, leb-true, le-leb, eq-eqb}
use Rattle.protocol.specs.declared.entry.Entry.{Entry}
use Rattle.vote.specs.Mask.{has}
use Rattle.journal.specs.declared.peer.Peer.{Peer}
use Rattle.journal.specs.Peers.{peer_at, lesser, least_known}
use Rattle.station.specs.Sound.{known_within, placed_after}

pub within_set : (n : ℕ) (ps : List Peer) (s : ℕ) (p : Peer) → p.known ≤ n → known_within n ps ≡ true → known_within n (set ps s p) ≡ true
unfolding known_within
within_set n [] s p h w = refl
within_set n (q ∷ ps) zero p h w = and_from (leb p.known n) (known_within n ps) (le-leb p.known n h) (and_parts (leb q.known n) (known_within n ps) w).1
within_set n (q ∷ ps) (suc s) p h w =
    let a = and_parts (leb q.known n) (known_within n ps) w in
    and_from (leb q.known n) (known_within n (set ps s p)) a.0 (within_set n ps s p h a.1)

pub within_map : (n : ℕ) (f : Peer → Peer) → ((p : Peer) → (f p).known ≡ p.known) → (ps : List Peer) → known_within n (map f ps) ≡ known_within n ps
unfolding known_within
within_map n f keeps [] = refl
within_map n f keeps (p ∷ ps) = ap (λ k. leb k n && known_within n (map f ps)) (keeps p) ∙ ap (λ b. leb p.known n && b) (within_map n f keeps ps)

pub within_up : (n k : ℕ) (ps : List Peer) → n ≤ k → known_within n ps ≡ true → known_within k ps ≡ true
unfolding known_within
within_up n k [] h w = refl
within_up n k (p ∷ ps) h w =
    let a = and_parts (leb p.known n) (known_within n ps) w in
    let b = leb-true p.known n a.0 in
    and_from (leb p.known k) (known_within k ps) (le-leb p.known k (omega arith)) (within_up n k ps h a.1)

pub within_at : (n : ℕ) (ps : List Peer) (s : ℕ) → known_within n ps ≡ true → (peer_at ps s).known ≤ n
unfolding known_within
within_at n [] s w = omega arith
within_at n (p ∷ ps) zero w = leb-true p.known n (and_parts (leb p.known n) (known_within n ps) w).0
within_at n (p ∷ ps) (suc s) w = within_at n ps s (and_parts (leb p.known n) (known_within n ps) w).1

pub known_set : (ps : List Peer) (s : ℕ) (p : Peer) → (peer_at ps s).known ≤ p.known → (t : ℕ) → (peer_at ps t).known ≤ (peer_at (set ps s p) t).known
known_set [] s p h t = omega arith
known_set (q ∷ ps) zero p h zero = h
known_set (q ∷ ps) zero p h (suc t) = omega arith
known_set (q ∷ ps) (suc s) p h zero = omega arith
known_set (q ∷ ps) (suc s) p h (suc t) = known_set ps s p h t

pub known_map : (f : Peer → Peer) → ((p : Peer) → (f p).known ≡ p.known) → (ps : List Peer) (t : ℕ) → (peer_at ps t).known ≤ (peer_at (map f ps) t).known
known_map f keeps [] t = omega arith
known_map f keeps (p ∷ ps) zero = omega (arith, keeps p)
known_map f keeps (p ∷ ps) (suc t) = known_map f keeps ps t

-- the least of known places and a length is within the length
pub least_le : (me v s : ℕ) (ps : List Peer) (k : ℕ) → least_known me v s ps k ≤ k
least_le me v s [] k = omega arith
least_le me v s (p ∷ ps) k =
    let a = least_le me v (s + 1) ps (lesser me v s p k) in
    let b : lesser me v s p k ≤ k = cond_both (not (eqb s me) && has v s) _ _ (λ (x : ℕ). x ≤ k) (λ _. omega arith) (λ _. omega arith) in
    omega arith

-- one more entry at its place
pub placed_push : (k : ℕ) (j : List Entry) (e : Entry) → e.place ≡ k + length j + 1 → placed_after k j ≡ true → placed_after k (j ++ e ∷ []) ≡ true
unfolding placed_after
placed_push k [] e h w = and_from (eqb e.place (k + 1)) true (eq-eqb e.place (k + 1) (omega arith)) refl
placed_push k (d ∷ j) e h w =
    let a = and_parts (eqb d.place (k + 1)) (placed_after (k + 1) j) w in
    and_from (eqb d.place (k + 1)) (placed_after (k + 1) (j ++ e ∷ [])) a.0 (placed_push (k + 1) j e (omega arith) a.1)
