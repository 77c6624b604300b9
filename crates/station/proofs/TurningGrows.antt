-- A station grows by each call of a turn. Assumes nothing.
use Rattle.std.proofs.Common.{ℕ, zero, suc, Bool, eqb, ltb, List, [], ◌∷◌, length, Some, None, Option, Result, refl, ◌∙◌}
use Rattle.std.proofs.lemmas.Bool.{cond_both}
use Rattle.queue.specs.Contents.{oldest}
use Rattle.protocol.specs.Limits.{journal_places, note_room, notes_per_turn}
use Rattle.protocol.specs.declared.note.Note.{Note}
use Rattle.protocol.specs.declared.entry.Body.{Body}
use Rattle.protocol.specs.declared.entry.Body.TheVariants as body
use Rattle.protocol.specs.declared.refusal.Refusal.{Refusal}
use Rattle.vote.specs.Mask.{removing}
use Rattle.journal.specs.declared.state.State.{State}
use Rattle.journal.specs.declared.state.State.TheVariants.{Running, Joining, Out}
use Rattle.journal.specs.declared.state.Cause.TheVariants.{Outvoted, Full}
use Rattle.journal.specs.Peers.{cleared, unmarked}
use Rattle.journal.specs.Core.{Core, with_peers, is_running}
use Rattle.journal.specs.Settle.{view}
use Rattle.turning.specs.declared.token.Token.{Token}
use Rattle.turning.specs.Posts.{Posting, next_entry, say_body}
use Rattle.turning.specs.Steps.{Spoken, gone_of, put_off, chosen, lets_in, serve, say_notes, pass_running}
use Rattle.turning.specs.Calls.{due, open_wish, open_turn, open_call, is_own, may_say, Said, said_note, say_next, pass_as, pass_turn}
use Rattle.turning.specs.Whole.{serve_or_say, turn_as, whole_turn, turn_call}
use Rattle.station.specs.Laws.{Grown}
use Rattle.station.proofs.Knowing.{within_map, known_map}
use Rattle.station.proofs.Growth.{same, then, restated, retabled, lengthened, grown_settle}

pub grown_say : (t : ℕ) (b : Body) (m : Core) → Grown m (say_body t b m).0
grown_say t b m = lengthened (next_entry t b m.journal) m refl

pub grown_put_off : (vote : ℕ → Bool) (t : ℕ) (m : Core) → Grown m (put_off vote t m).0
unfolding put_off
grown_put_off vote t m =
    let P : Posting → Type 0 = λ q. Grown m q.0 in
    cond_both (eqb (gone_of m) 0) _ _ P (λ _. same m)
    (λ _. cond_both (vote (removing (view m) (gone_of m))) _ _ P
    (λ _. cond_both (ltb (length m.journal) journal_places) _ _ P (λ _. grown_say t _ m) (λ _. restated (Out Full) m))
    (λ _. restated (Out Outvoted) m))

grown_serve : (t k p : ℕ) (m : Core) → Grown m (serve t k p m).0
unfolding serve
grown_serve t k p m = cond_both (lets_in (length m.journal) p) _ _ (λ (q : Posting). Grown m q.0) (λ _. grown_say t _ m) (λ _. same m)

grown_wish : (t : ℕ) (o : Option (ℕ × ℕ)) (q : Posting) → Grown q.0 (open_wish t o q).1.0
grown_wish t None q = same q.0
grown_wish t (Some w) q = grown_serve t w.0 w.1 q.0

grown_open : (vote : ℕ → Bool) (t : ℕ) (m : Core) → Grown m (open_turn vote t m).1.0
unfolding open_turn
grown_open vote t m =
    let q = put_off vote t m in
    cond_both (is_running m.state) _ _ (λ (o : ℕ × Posting). Grown m o.1.0)
    (λ _. then m q.0 _ (grown_put_off vote t m)
    (cond_both (is_running q.0.state) _ _ (λ (o : ℕ × Posting). Grown q.0 o.1.0) (λ _. grown_wish t (chosen q.0) q) (λ _. same q.0)))
    (λ _. same m)

pub grown_open_call : (vote : ℕ → Bool) (t : ℕ) (m : Core) → Grown m (open_call vote t m).1.0
unfolding open_call
grown_open_call vote t m = cond_both (due t m) _ _ (λ (o : Result Token Refusal × Posting). Grown m o.1.0) (λ _. grown_open vote t m) (λ _. same m)

grown_note : (k : Token) (ns : List Note) (m : Core) (o : Option Note) → Grown m (said_note k ns m o).1.1.0
grown_note k ns m None = same m
grown_note k ns m (Some x) = grown_say k.turn (body.Note x) m

pub grown_said : (k : Token) (ns : List Note) (m : Core) → Grown m (say_next k ns m).1.1.0
unfolding say_next
grown_said k ns m = cond_both (may_say k m) _ _ (λ (q : Said). Grown m q.1.1.0) (λ _. grown_note k ns m (oldest ns)) (λ _. same m)

grown_unmarked : (m : Core) → Grown m (with_peers (unmarked m.peers) m)
grown_unmarked m = retabled (unmarked m.peers) m (known_map cleared (λ _. refl) m.peers) (λ w. within_map (length m.journal) cleared (λ _. refl) m.peers ∙ w)

grown_pass_running : (m : Core) → Grown m (pass_running m).0
grown_pass_running m = then m (with_peers (unmarked m.peers) m) _ (grown_unmarked m) (grown_settle _)

grown_pass_as : (q : State) (m : Core) → Grown m (pass_as q m).0
grown_pass_as Running m = grown_pass_running m
grown_pass_as Joining m = grown_settle m
grown_pass_as (Out c) m = same m

pub grown_pass : (k : Token) (m : Core) → Grown m (pass_turn k m).0
unfolding pass_turn
grown_pass k m = cond_both (is_own k m) _ _ (λ (q : Posting). Grown m q.0) (λ _. grown_pass_as m.state m) (λ _. same m)

grown_notes : (j t : ℕ) (ns : List Note) (m : Core) → Grown m (say_notes j t ns m).1.0
unfolding say_notes
grown_notes zero t ns m = same m
grown_notes (suc j) t [] m = same m
grown_notes (suc j) t (x ∷ ns) m =
    cond_both (ltb (length m.journal) note_room) _ _ (λ (r : Spoken). Grown m r.1.0)
    (λ _. then m (say_body t (body.Note x) m).0 _ (grown_say t (body.Note x) m) (grown_notes j t ns (say_body t (body.Note x) m).0))
    (λ _. same m)

grown_serve_or_say : (t : ℕ) (o : Option (ℕ × ℕ)) (ns : List Note) (m : Core) → Grown m (serve_or_say t o ns m).1.0
grown_serve_or_say t (Some w) ns m = grown_serve t w.0 w.1 m
grown_serve_or_say t None ns m = grown_notes notes_per_turn t ns m

grown_turn_as : (s : State) (vote : ℕ → Bool) (t : ℕ) (ns : List Note) (m : Core) → Grown m (turn_as s vote t ns m).1.0
grown_turn_as Running vote t ns m =
    let q = put_off vote t m in
    let r = serve_or_say t (chosen q.0) ns q.0 in
    then m q.0 _ (grown_put_off vote t m)
    (cond_both (is_running q.0.state) _ _ (λ (x : Spoken). Grown q.0 x.1.0)
    (λ _. then q.0 r.1.0 _ (grown_serve_or_say t (chosen q.0) ns q.0) (grown_pass_running r.1.0))
    (λ _. same q.0))
grown_turn_as Joining vote t ns m = grown_settle m
grown_turn_as (Out c) vote t ns m = same m

pub grown_turn : (vote : ℕ → Bool) (t : ℕ) (ns : List Note) (m : Core) → Grown m (turn_call vote t ns m).1.1.0
unfolding turn_call whole_turn
grown_turn vote t ns m =
    cond_both (due t m) _ _ (λ (q : Result (Unit {0}) Refusal × Spoken). Grown m q.1.1.0) (λ _. grown_turn_as m.state vote t ns m) (λ _. same m)
