-- Saying until none is due, one note at a time. Assumes nothing.
use Rattle.std.proofs.Common.{◌≡◌, ℕ, zero, suc, ◌-◌, ◌<◌, Bool, true, false, cond, ◌&&◌, ltb, List, [], length, Some, None, Option, sym, refl, ap, ◌∙◌, arith}
use Rattle.std.proofs.lemmas.Bool.{and_parts, ltb-true}
use Rattle.protocol.specs.Limits.{note_room}
use Rattle.queue.specs.Contents.{oldest}
use Rattle.journal.specs.Core.{Core, is_running}
use Rattle.protocol.specs.declared.frame.Frame.{Frame}
use Rattle.protocol.specs.declared.note.Note.{Note}
use Rattle.turning.specs.Calls.{Said, is_own, may_say, said_note, say_next}
use Rattle.turning.specs.Posts.{Performed}
use Rattle.turning.specs.Whole.{Sayings, after_sayings, say_all}
use Rattle.turning.specs.declared.token.Token.{Token}
use Rattle.wires.specs.Calls.{posted_all}
use Rattle.wires.specs.Lines.{Lines}
use Rattle.turning.proofs.Posting.{post_append, post_none}

module _ (k : Token) (ns : List Note) (m : Core) where
  -- a note that is said takes one off the token
  counted_by : (b : Bool) (o : Option Note) → b ≡ may_say k m
      → (cond b (said_note k ns m o) ((k, false), (ns, (m, [])))).0.1 ≡ true
      → ((cond b (said_note k ns m o) ((k, false), (ns, (m, [])))).0.0.left ≡ k.left - 1) × (0 < k.left)
  counted_by true (Some x) e h = (
    refl,
    ltb-true 0 k.left (and_parts (ltb 0 k.left) (ltb (length m.journal) note_room)
        (and_parts (is_own k m) (ltb 0 k.left && ltb (length m.journal) note_room)
        (and_parts (is_running m.state) (is_own k m && (ltb 0 k.left && ltb (length m.journal) note_room)) (sym e)).1).1).0,
  )
  counted_by true None e h = let z : ◌≡◌ {A = ℕ} 0 1 = cc in absurd (omega arith)
  counted_by false o e h = let z : ◌≡◌ {A = ℕ} 0 1 = cc in absurd (omega arith)

  pub counted : (say_next k ns m).0.1 ≡ true → ((say_next k ns m).0.0.left ≡ k.left - 1) × (0 < k.left)
  unfolding say_next
  counted h = counted_by (may_say k m) (oldest ns) refl h

  -- where none is due, nothing moves
  unmoved_by : (b : Bool) (o : Option Note)
      → (cond b (said_note k ns m o) ((k, false), (ns, (m, [])))).0.1 ≡ false
      → cond b (said_note k ns m o) ((k, false), (ns, (m, []))) ≡ ((k, false), (ns, (m, [])))
  unmoved_by true (Some x) h = let z : ◌≡◌ {A = ℕ} 0 1 = cc in absurd (omega arith)
  unmoved_by true None h = refl
  unmoved_by false o h = refl

  pub unmoved : (say_next k ns m).0.1 ≡ false → say_next k ns m ≡ ((k, false), (ns, (m, [])))
  unfolding say_next
  unmoved h = unmoved_by (may_say k m) (oldest ns) h

  all_more : (n : ℕ) → (say_next k ns m).0.1 ≡ true
      → say_all (suc n) k ns m ≡ after_sayings (say_next k ns m).1.1.1 (say_all n (say_next k ns m).0.0 (say_next k ns m).1.0 (say_next k ns m).1.1.0)
  unfolding say_all
  all_more n h = rw h

  all_none : (n : ℕ) → (say_next k ns m).0.1 ≡ false → say_all n k ns m ≡ (k, (ns, (m, [])))
  unfolding say_all
  all_none zero h = refl
  all_none (suc n) h = rw h

-- what saying comes to: the token, the notes and the station then, and the lines
abbrev pub Ends : Type 0
Ends = (Token × (List Note × Core)) × Lines Frame

abbrev pub ends_of : ℕ → Sayings → Lines Frame → Ends
ends_of s r w = ((r.0, (r.1.0, r.1.1.0)), posted_all w s r.1.1.1)

abbrev pub ends : ℕ → Token → List Note → Core → Lines Frame → Ends
ends s k ns m w = ends_of s (say_all k.left k ns m) w

-- one more note said
pub ends_more : (s : ℕ) (k k' : Token) (ns ns' : List Note) (m m' : Core) (w w' : Lines Frame)
    → (k', true) ≡ (say_next k ns m).0 → ns' ≡ (say_next k ns m).1.0 → Performed s (say_next k ns m).1.1 m' w w'
    → ends s k' ns' m' w' ≡ ends s k ns m w
ends_more s k k' ns ns' m m' w w' ek en p =
    let r = say_next k ns m in
    let h : r.0.1 ≡ true = ap (λ (x : Token × Bool). x.1) (sym ek) in
    let ek' : k' ≡ r.0.0 = ap (λ (x : Token × Bool). x.0) ek in
    let c = counted k ns m h in
    let z : k.left ≡ suc r.0.0.left = omega (arith, c.0, c.1) in
    ap (λ (x : Token). ends s x ns' m' w') ek'
    ∙ ap (λ (x : List Note). ends s r.0.0 x m' w') en
    ∙ ap (λ (x : Core). ends s r.0.0 r.1.0 x w') p.station
    ∙ ap (λ (x : Lines Frame). ends s r.0.0 r.1.0 r.1.1.0 x) p.lines
    ∙ ap (λ (x : Lines Frame). (((say_all r.0.0.left r.0.0 r.1.0 r.1.1.0).0, ((say_all r.0.0.left r.0.0 r.1.0 r.1.1.0).1.0, (say_all r.0.0.left r.0.0 r.1.0 r.1.1.0).1.1.0)), x))
    (sym (post_append s r.1.1.1 (say_all r.0.0.left r.0.0 r.1.0 r.1.1.0).1.1.1 w))
    ∙ sym (ap (λ (x : Sayings). ends_of s x w) (all_more k ns m r.0.0.left h))
    ∙ sym (ap (λ n. ends_of s (say_all n k ns m) w) z)

-- none is due
pub ends_none : (s : ℕ) (k k' : Token) (ns ns' : List Note) (m m' : Core) (w w' : Lines Frame)
    → (k', false) ≡ (say_next k ns m).0 → ns' ≡ (say_next k ns m).1.0 → Performed s (say_next k ns m).1.1 m' w w'
    → ends s k ns m w ≡ ((k', (ns', m')), w')
ends_none s k k' ns ns' m m' w w' ek en p =
    let h : (say_next k ns m).0.1 ≡ false = ap (λ (x : Token × Bool). x.1) (sym ek) in
    let u = unmoved k ns m h in
    let uk : k' ≡ k = ap (λ (x : Token × Bool). x.0) ek ∙ ap (λ (x : Said). x.0.0) u in
    let un : ns' ≡ ns = en ∙ ap (λ (x : Said). x.1.0) u in
    let um : m' ≡ m = p.station ∙ ap (λ (x : Said). x.1.1.0) u in
    let uw : w' ≡ w = p.lines ∙ ap (λ (x : Said). posted_all w s x.1.1.1) u ∙ post_none s w in
    ap (λ (x : Sayings). ends_of s x w) (all_none k ns m k.left h)
    ∙ ap (λ (x : Lines Frame). ((k, (ns, m)), x)) (post_none s w)
    ∙ sym (ap (λ (x : Token). ((x, (ns', m')), w')) uk
    ∙ ap (λ (x : List Note). ((k, (x, m')), w')) un
    ∙ ap (λ (x : Core). ((k, (ns, x)), w')) um
    ∙ ap (λ (x : Lines Frame). ((k, (ns, m)), x)) uw)
