-- The four steps of a running station's turn. Assumes nothing.
use Rattle.std.specs.Prelude.{ℕ, zero, suc, ◌+◌, ◌<◌, ◌≤◌, Bool, true, false, cond, ◌&&◌, List, [], ◌∷◌, length, take, drop, Some, None, Option, ◌==◌, nat_le, nat_lt}
use Rattle.protocol.specs.Limits.{journal_places, note_room, resent_per_turn}
use Rattle.protocol.specs.declared.note.Note.{Note}
use Rattle.protocol.specs.declared.entry.Body.TheVariants as body
use Rattle.protocol.specs.declared.entry.Entry.{Entry}
use Rattle.protocol.specs.declared.frame.Frame.{Frame}
use Rattle.protocol.specs.declared.frame.Frame.TheVariants as frame
use Rattle.vote.specs.Mask.{has, adding, removing}
use Rattle.journal.specs.declared.state.State.TheVariants.{Out}
use Rattle.journal.specs.declared.state.Cause.TheVariants.{Outvoted, Full}
use Rattle.journal.specs.declared.peer.Peer.{Peer}
use Rattle.journal.specs.Journal.{turn_at, end_of, matches}
use Rattle.journal.specs.Peers.{peer_at, unmarked}
use Rattle.journal.specs.Core.{Core, with_state, with_peers}
use Rattle.journal.specs.Settle.{view, settle}
use Rattle.turning.specs.Posts.{Posting, after, frames_of, say_body}
use Rattle.turning.specs.Round.{going_back, going_on}

-- ---- step 1: members that were not heard are put off

-- the members of a view among some stations that are not heard, up to the first that is, added to a set
unfoldable pub unheard : ℕ → List Peer → List ℕ → ℕ → ℕ
unheard v ps [] gone = gone
unheard v ps (s ∷ ss) gone =
    cond (has v s)
    (cond (peer_at ps s).heard gone (unheard v ps ss (adding gone s)))
    (unheard v ps ss gone)

-- going back from the owner through the members of its newest view
abbrev pub gone_of : Core → ℕ
gone_of m = unheard (view m) m.peers (going_back m.roll m.me) 0

-- those are put off, if the rest has the vote and there is room for one more entry
abbrev pub put_off_of : (ℕ → Bool) → ℕ → ℕ → Core → Posting
put_off_of vote t gone m =
    cond (gone == 0)
    (m, [])
    (cond (vote (removing (view m) gone))
    (cond (nat_lt (length m.journal) journal_places)
    (say_body t (body.View (removing (view m) gone)) m)
    (with_state (Out Full) m, []))
    (with_state (Out Outvoted) m, []))

unfoldable pub put_off : (ℕ → Bool) → ℕ → Core → Posting
put_off vote t m = put_off_of vote t (gone_of m) m

-- ---- step 2: a wish is served

abbrev pub stands : Option (ℕ × ℕ) → Bool
stands None = false
stands (Some e) = true

-- does any wish stand?
unfoldable pub any_wish : List Peer → Bool
any_wish [] = false
any_wish (p ∷ ps) = cond (stands p.wish) true (any_wish ps)

-- the place after which a matching wish asks for entries
abbrev pub asked : List Entry → Option (ℕ × ℕ) → Option ℕ
asked j None = None
asked j (Some e) = cond (matches j e) (Some e.0) None

-- is s the first member of v among some stations?
unfoldable pub first_is : ℕ → ℕ → List ℕ → Bool
first_is v s [] = false
first_is v s (k ∷ ks) = cond (has v k) (k == s) (first_is v s ks)

-- the wish of station k if it asks for entries and has the owner as its next other member, or else another
abbrev pub tried : ℕ → Core → ℕ → Option ℕ → Option (ℕ × ℕ) → Option (ℕ × ℕ)
tried v m k None others = others
tried v m k (Some p) others = cond (first_is v m.me (going_on m.roll k)) (Some (k, p)) others

-- the first wish to serve among some stations: whose it is, and the place after which it asks for entries
unfoldable pub served : ℕ → Core → List ℕ → Option (ℕ × ℕ)
served v m [] = None
served v m (k ∷ ks) = tried v m k (asked m.journal (peer_at m.peers k).wish) (served v m ks)

-- the wish to serve, the nearest going back: it looks first whether any stands
unfoldable pub chosen : Core → Option (ℕ × ℕ)
chosen m = cond (any_wish m.peers) (served (view m) m (going_back m.roll m.me)) None

-- at most 8 entries are left after a place, and there is room for one more
abbrev pub lets_in : ℕ → ℕ → Bool
lets_in n p = nat_le n (p + resent_per_turn) && nat_lt n journal_places

-- the entries after place p once more, at most 8, and the view with station k where that was all
unfoldable pub serve : ℕ → ℕ → ℕ → Core → Posting
serve t k p m =
    after (frames_of m.me (turn_at m.journal p) (take resent_per_turn (drop p m.journal)))
    (cond (lets_in (length m.journal) p) (say_body t (body.View (adding (view m) k)) m) (m, []))

-- what is known of a wish that is to be served: the station is on the roll, and the place within the journal
abbrev pub PlaceWithin : ℕ → Option ℕ → Type 0
PlaceWithin n None = Unit {0}
PlaceWithin n (Some p) = p ≤ n

abbrev pub WishWithin : ℕ → ℕ → Option (ℕ × ℕ) → Type 0
WishWithin roll n None = Unit {0}
WishWithin roll n (Some w) = (w.0 < roll) × (w.1 ≤ n)

-- ---- step 3: notes are said

-- the notes that wait then, and what was done
abbrev pub Spoken : Type 0
Spoken = List Note × Posting

abbrev pub after_spoken : List Frame → Spoken → Spoken
after_spoken fs r = (r.0, after fs r.1)

-- the oldest k of the notes at most, while the length is under 240
unfoldable pub say_notes : ℕ → ℕ → List Note → Core → Spoken
say_notes zero t ns m = (ns, (m, []))
say_notes (suc k) t [] m = ([], (m, []))
say_notes (suc k) t (x ∷ ns) m =
    cond (nat_lt (length m.journal) note_room)
    (after_spoken (say_body t (body.Note x) m).1 (say_notes k t ns (say_body t (body.Note x) m).0))
    (x ∷ ns, (m, []))

-- ---- step 4: a heartbeat, and marks and wishes are cleared; then the firm count is worked out again

abbrev pub pass_running : Core → Posting
pass_running m = (settle (with_peers (unmarked m.peers) m), frame.Heartbeat m.me (end_of m.journal) ∷ [])

-- a joining station posts a join frame instead of all four
abbrev pub pass_joining : Core → Posting
pass_joining m = (settle m, frame.Join m.me (end_of m.journal) ∷ [])
