-- What opening a turn keeps: the station's number, its firm count, and its journal's entries. Assumes nothing.
use Rattle.std.proofs.Common.{◌≡◌, ℕ, ◌+◌, ◌≤◌, Bool, true, false, cond, eqb, ltb, List, length, Some, None, Option, refl, ap, ◌∙◌, arith}
use Rattle.std.proofs.lemmas.List.{length_push}
use Rattle.protocol.specs.Limits.{journal_places}
use Rattle.vote.specs.Mask.{removing}
use Rattle.queue.specs.Contents.{oldest}
use Rattle.journal.specs.Core.{Core, is_running}
use Rattle.journal.specs.Settle.{view}
use Rattle.protocol.specs.declared.entry.Body.{Body}
use Rattle.protocol.specs.declared.note.Note.{Note}
use Rattle.turning.specs.Calls.{Said, due, may_say, open_call, open_on, open_turn, open_wish, said_note, say_next}
use Rattle.turning.specs.Posts.{Posting, say_body}
use Rattle.turning.specs.Steps.{chosen, gone_of, lets_in, put_off, serve}
use Rattle.turning.specs.declared.token.Token.{Token}

pub record Keeps (m x : Core) : Type 0 where
  pub me : x.me ≡ m.me
  pub firm : x.firm ≡ m.firm
  pub grows : length m.journal ≤ length x.journal

pub same : (m : Core) → Keeps m m
same m = record { me = refl; firm = refl; grows = omega arith }

pub then : (m x y : Core) → Keeps m x → Keeps x y → Keeps m y
then m x y p q = record { me = q.me ∙ p.me; firm = q.firm ∙ p.firm; grows = let a = p.grows in let b = q.grows in omega arith }

either : (m : Core) (b : Bool) (q r : Posting) → Keeps m q.0 → Keeps m r.0 → Keeps m (cond b q r).0
either m true q r k l = k
either m false q r k l = l

either_open : {A : Type 0} (m : Core) (b : Bool) (q r : A × Posting) → Keeps m q.1.0 → Keeps m r.1.0 → Keeps m (cond b q r).1.0
either_open m true q r k l = k
either_open m false q r k l = l

keeps_say : (t : ℕ) (b : Body) (m : Core) → Keeps m (say_body t b m).0
keeps_say t b m = record { me = refl; firm = refl; grows = let h = length_push m.journal (record { place = length m.journal + 1; turn = t; body = b }) in omega arith }

pub keeps_put_off : (vote : ℕ → Bool) (t : ℕ) (m : Core) → Keeps m (put_off vote t m).0
unfolding put_off
keeps_put_off vote t m =
    let stay : Keeps m m = same m in
    either m (eqb (gone_of m) 0) _ _ stay
    (either m (vote (removing (view m) (gone_of m))) _ _
    (either m (ltb (length m.journal) journal_places) _ _ (keeps_say t _ m) (record { me = refl; firm = refl; grows = stay.grows }))
    (record { me = refl; firm = refl; grows = stay.grows }))

pub keeps_serve : (t k p : ℕ) (m : Core) → Keeps m (serve t k p m).0
unfolding serve
keeps_serve t k p m = either m (lets_in (length m.journal) p) _ _ (keeps_say t _ m) (same m)

keeps_wish : (t : ℕ) (o : Option (ℕ × ℕ)) (q : Posting) → Keeps q.0 (open_wish t o q).1.0
keeps_wish t None q = same q.0
keeps_wish t (Some w) q = keeps_serve t w.0 w.1 q.0

keeps_open_on : (t : ℕ) (q : Posting) → Keeps q.0 (open_on t q).1.0
keeps_open_on t q = either_open q.0 (is_running q.0.state) _ _ (keeps_wish t (chosen q.0) q) (same q.0)

pub keeps_open : (vote : ℕ → Bool) (t : ℕ) (m : Core) → Keeps m (open_turn vote t m).1.0
unfolding open_turn
keeps_open vote t m =
    either_open m (is_running m.state) _ _
    (then m (put_off vote t m).0 _ (keeps_put_off vote t m) (keeps_open_on t (put_off vote t m)))
    (same m)

pub keeps_call : (vote : ℕ → Bool) (t : ℕ) (m : Core) → Keeps m (open_call vote t m).1.0
unfolding open_call
keeps_call vote t m = either_open m (due t m) _ _ (keeps_open vote t m) (same m)

keeps_note : (k : Token) (ns : List Note) (m : Core) (o : Option Note) → Keeps m (said_note k ns m o).1.1.0
keeps_note k ns m None = same m
keeps_note k ns m (Some x) = keeps_say k.turn _ m

either_said : (m : Core) (b : Bool) (q r : Said) → Keeps m q.1.1.0 → Keeps m r.1.1.0 → Keeps m (cond b q r).1.1.0
either_said m true q r k l = k
either_said m false q r k l = l

pub keeps_said : (k : Token) (ns : List Note) (m : Core) → Keeps m (say_next k ns m).1.1.0
unfolding say_next
keeps_said k ns m = either_said m (may_say k m) _ _ (keeps_note k ns m (oldest ns)) (same m)

-- a firm count within a journal stays so
pub within : (m x y : Core) → x ≡ y → Keeps m y → m.firm ≤ length m.journal → x.firm ≤ length x.journal
within m x y e k h =
    let a = ap (λ (z : Core). z.firm) e in
    let b = ap (λ (z : Core). length z.journal) e in
    let c = k.firm in
    let d = k.grows in
    omega arith
