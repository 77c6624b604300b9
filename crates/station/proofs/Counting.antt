-- How many frames a turn posts. Assumes nothing.
use Rattle.std.proofs.Common.{◌≡◌, ℕ, zero, suc, ◌≤◌, Bool, eqb, ltb, List, [], ◌∷◌, ◌++◌, length, take, drop, Some, None, Option, refl, ap, arith}
use Rattle.std.proofs.lemmas.List.{length-append, length-take}
use Rattle.std.proofs.lemmas.Bool.{cond_both}
use Rattle.protocol.specs.Limits.{journal_places, note_room, notes_per_turn, resent_per_turn}
use Rattle.protocol.specs.declared.note.Note.{Note}
use Rattle.protocol.specs.declared.entry.Body.TheVariants as body
use Rattle.protocol.specs.declared.entry.Entry.{Entry}
use Rattle.vote.specs.Mask.{adding, removing}
use Rattle.journal.specs.declared.state.State.{State}
use Rattle.journal.specs.declared.state.State.TheVariants.{Running, Joining, Out}
use Rattle.journal.specs.Journal.{turn_at}
use Rattle.journal.specs.Core.{Core, is_running}
use Rattle.journal.specs.Settle.{view}
use Rattle.turning.specs.Posts.{Posting, frames_of, say_body}
use Rattle.turning.specs.Steps.{Spoken, gone_of, put_off, chosen, lets_in, serve, say_notes, pass_running}
use Rattle.turning.specs.Whole.{serve_or_say, turn_as, whole_turn}

few_put_off : (vote : ℕ → Bool) (t : ℕ) (m : Core) → length (put_off vote t m).1 ≤ 1
unfolding put_off
few_put_off vote t m =
    let P : Posting → Type 0 = λ q. length q.1 ≤ 1 in
    cond_both (eqb (gone_of m) 0) _ _ P (λ _. omega arith)
    (λ _. cond_both (vote (removing (view m) (gone_of m))) _ _ P
    (λ _. cond_both (ltb (length m.journal) journal_places) _ _ P (λ _. omega arith) (λ _. omega arith))
    (λ _. omega arith))

count_frames : (s b : ℕ) (es : List Entry) → length (frames_of s b es) ≡ length es
unfolding frames_of
count_frames s b [] = refl
count_frames s b (e ∷ es) = ap suc (count_frames s e.turn es)

few_serve : (t k p : ℕ) (m : Core) → length (serve t k p m).1 ≤ 9
unfolding serve
few_serve t k p m =
    let again = frames_of m.me (turn_at m.journal p) (take resent_per_turn (drop p m.journal)) in
    let P : Posting → Type 0 = λ q. length (again ++ q.1) ≤ 9 in
    let a = count_frames m.me (turn_at m.journal p) (take resent_per_turn (drop p m.journal)) in
    let b = length-take resent_per_turn (drop p m.journal) in
    cond_both (lets_in (length m.journal) p) _ _ P
    (λ _. omega (arith, length-append again (say_body t (body.View (adding (view m) k)) m).1))
    (λ _. omega (arith, length-append again []))

few_notes : (j t : ℕ) (ns : List Note) (m : Core) → length (say_notes j t ns m).1.1 ≤ j
unfolding say_notes
few_notes zero t ns m = omega arith
few_notes (suc j) t [] m = omega arith
few_notes (suc j) t (x ∷ ns) m =
    cond_both (ltb (length m.journal) note_room) _ _ (λ (r : Spoken). length r.1.1 ≤ suc j)
    (λ _. omega (arith, few_notes j t ns (say_body t (body.Note x) m).0))
    (λ _. omega arith)

few_served_or_said : (t : ℕ) (o : Option (ℕ × ℕ)) (ns : List Note) (m : Core) → length (serve_or_say t o ns m).1.1 ≤ 9
few_served_or_said t (Some w) ns m = few_serve t w.0 w.1 m
few_served_or_said t None ns m = omega (arith, few_notes notes_per_turn t ns m)

few_as : (s : State) (vote : ℕ → Bool) (t : ℕ) (ns : List Note) (m : Core) → length (turn_as s vote t ns m).1.1 ≤ 11
few_as Running vote t ns m =
    let q = put_off vote t m in
    let r = serve_or_say t (chosen q.0) ns q.0 in
    let h = (pass_running r.1.0).1 in
    cond_both (is_running q.0.state) _ _ (λ (x : Spoken). length x.1.1 ≤ 11)
    (λ _. omega (arith, length-append q.1 (r.1.1 ++ h), length-append r.1.1 h, few_put_off vote t m, few_served_or_said t (chosen q.0) ns q.0))
    (λ _. omega (arith, few_put_off vote t m))
few_as Joining vote t ns m = omega arith
few_as (Out c) vote t ns m = omega arith

pub few_turn : (vote : ℕ → Bool) (t : ℕ) (ns : List Note) (m : Core) → length (whole_turn vote t ns m).1.1 ≤ 11
unfolding whole_turn
few_turn vote t ns m = few_as m.state vote t ns m
