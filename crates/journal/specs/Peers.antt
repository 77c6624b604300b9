-- What a station keeps of each other station: a heard mark, a known place and perhaps a wish. Assumes nothing.
use Rattle.std.specs.Prelude.{ℕ, ◌+◌, min, max, true, false, cond, not, ◌&&◌, List, [], ◌∷◌, map, replicate, Some, None, ◌==◌, slice_index_or, slice_set}
use Rattle.protocol.specs.Limits.{max_stations}
use Rattle.vote.specs.Mask.{has}
use Rattle.journal.specs.declared.peer.Peer.{Peer}

abbrev pub no_peer : Peer
no_peer = record { heard = false; known = 0; wish = None }

-- the record of station s
abbrev pub peer_at : List Peer → ℕ → Peer
peer_at ps s = slice_index_or ps s no_peer

-- the table with one record changed
abbrev pub change : ℕ → (Peer → Peer) → List Peer → List Peer
change s f ps = slice_set ps s (f (peer_at ps s))

-- the known place is at least k
abbrev pub raised : ℕ → ℕ → List Peer → List Peer
raised s k = change s (λ p. record { heard = p.heard; known = max p.known k; wish = p.wish })

abbrev pub marked : Peer → Peer
marked p = record { heard = true; known = p.known; wish = p.wish }

abbrev pub heard_one : ℕ → List Peer → List Peer
heard_one s = change s marked

abbrev pub heard_all : List Peer → List Peer
heard_all = map marked

-- a wish replaces an older one
abbrev pub wished : ℕ → ℕ × ℕ → List Peer → List Peer
wished s e = change s (λ p. record { heard = p.heard; known = p.known; wish = Some e })

abbrev pub wishless : Peer → Peer
wishless p = record { heard = p.heard; known = p.known; wish = None }

-- no wish stands
abbrev pub unwished : List Peer → List Peer
unwished = map wishless

abbrev pub cleared : Peer → Peer
cleared p = record { heard = false; known = p.known; wish = None }

-- heard marks and wishes are cleared
abbrev pub unmarked : List Peer → List Peer
unmarked = map cleared

-- in a new ring every mark is set, and nothing is known or wished
abbrev pub new_peers : List Peer
new_peers = replicate max_stations (marked no_peer)

-- the lesser of a place and the known place of station s, if s is another member of the view
abbrev pub lesser : ℕ → ℕ → ℕ → Peer → ℕ → ℕ
lesser me view s p k = cond (not (s == me) && has view s) (min p.known k) k

-- the smallest of k and the known places of the other members of a view, of the stations from s on
abbrev pub least_known : ℕ → ℕ → ℕ → List Peer → ℕ → ℕ
least_known me view s [] k = k
least_known me view s (p ∷ ps) k = least_known me view (s + 1) ps (lesser me view s p k)
