-- What holds of every station: known places lie within the journal, and its entries have the places 1, 2, 3 and so on. Assumes nothing.
use Rattle.std.specs.Prelude.{◌≡◌, ℕ, ◌+◌, ◌≤◌, Bool, true, cond, ◌&&◌, List, [], ◌∷◌, length, Some, None, Option, ◌==◌, nat_le}
use Rattle.protocol.specs.declared.entry.Entry.{Entry}
use Rattle.journal.specs.declared.peer.Peer.{Peer}
use Rattle.journal.specs.Peers.{peer_at}
use Rattle.journal.specs.Core.{Core, other}

-- no known place is above n
unfoldable pub known_within : ℕ → List Peer → Bool
known_within n [] = true
known_within n (p ∷ ps) = nat_le p.known n && known_within n ps

-- the entries have the places after k, in order
unfoldable pub placed_after : ℕ → List Entry → Bool
placed_after k [] = true
placed_after k (e ∷ es) = e.place == k + 1 && placed_after (k + 1) es

unfoldable pub is_sound : Core → Bool
is_sound m = known_within (length m.journal) m.peers && placed_after 0 m.journal

-- what a station keeps of another station of the roll; none for any other number
abbrev pub peer_of : Core → ℕ → Option Peer
peer_of m s = cond (other m.me m.roll s) (Some (peer_at m.peers s)) None

-- an answer's known place is at most n
abbrev pub KnownWithin : ℕ → Option Peer → Type 0
KnownWithin n None = Unit {0}
KnownWithin n (Some p) = p.known ≤ n

-- an answer is the entry of that place
abbrev pub HasPlace : ℕ → Option Entry → Type 0
HasPlace p None = Unit {0}
HasPlace p (Some e) = e.place ≡ p
