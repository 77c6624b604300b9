-- Frames posted one by one. Assumes nothing.
use Rattle.std.proofs.Common.{◌≡◌, ℕ, List, [], ◌∷◌, ◌++◌, sym, refl, ap, ◌∙◌, subst}
use Rattle.protocol.specs.declared.frame.Frame.TheVariants as frame
use Rattle.journal.specs.Core.{Core}
use Rattle.journal.specs.Journal.{last_turn}
use Rattle.protocol.specs.declared.entry.Body.{Body}
use Rattle.protocol.specs.declared.entry.Entry.{Entry}
use Rattle.protocol.specs.declared.frame.Frame.{Frame}
use Rattle.journal.specs.declared.store.Journal.{Ghosts}
use Rattle.journal.specs.declared.member.Member.{Member}
use Rattle.turning.specs.Posts.{Performed, Posting, frames_of, next_entry}
use Rattle.turning.specs.Played.{Played}
use Rattle.wires.specs.Calls.{posted, posted_all}
use Rattle.wires.specs.Lines.{Lines}

pub post_none : (s : ℕ) (w : Lines Frame) → posted_all w s [] ≡ w
unfolding posted_all
post_none s w = refl

pub post_one : (s : ℕ) (f : Frame) (w : Lines Frame) → posted_all w s (f ∷ []) ≡ posted w s f
unfolding posted_all
post_one s f w = refl

-- one list of frames after another
pub post_append : (s : ℕ) (fs gs : List Frame) (w : Lines Frame) → posted_all w s (fs ++ gs) ≡ posted_all (posted_all w s fs) s gs
unfolding posted_all
post_append s [] gs w = refl
post_append s (f ∷ fs) gs w = post_append s fs gs (posted w s f)

-- no entries, no frames
pub entries_none : (s b : ℕ) (w : Lines Frame) → posted_all w s (frames_of s b []) ≡ w
unfolding posted_all frames_of
entries_none s b w = refl

-- one more entry posted
pub entries_more : (s b : ℕ) (e : Entry) (es : List Entry) (w v : Lines Frame) → v ≡ posted w s (frame.Entry s e b)
    → posted_all v s (frames_of s e.turn es) ≡ posted_all w s (frames_of s b (e ∷ es))
unfolding posted_all frames_of
entries_more s b e es w v h = ap (λ (z : Lines Frame). posted_all z s (frames_of s e.turn es)) h

-- an entry made from the journal and posted
pub said_lines : (s t b : ℕ) (x : Body) (h j : List Entry) (w v : Lines Frame) → h ≡ j → b ≡ last_turn h
    → v ≡ posted w s (frame.Entry s (next_entry t x h) b)
    → v ≡ posted_all w s (frame.Entry s (next_entry t x j) (last_turn j) ∷ [])
said_lines s t b x h j w v e eb ev =
    ev ∙ ap (λ c. posted w s (frame.Entry s (next_entry t x h) c)) eb
    ∙ ap (λ (i : List Entry). posted w s (frame.Entry s (next_entry t x i) (last_turn i))) e
    ∙ sym (post_one s _ w)

-- nothing is said
pub unsaid : (s : ℕ) (m : Core) (w : Lines Frame) → Performed s (m, []) m w w
unsaid s m w = record { station = refl; lines = sym (post_none s w) }

-- by an equal rule
pub by_rule : {s : ℕ} {q r : Core × List Frame} {m : Core} {w v : Lines Frame} → r ≡ q → Performed s q m w v → Performed s r m w v
by_rule {s} {q} {r} {m} {w} {v} e p = subst (λ (x : Core × List Frame). Performed s x m w v) (sym e) p

-- by the same sender
pub by_sender : {s r : ℕ} {q : Posting} {m : Core} {w v : Lines Frame} → s ≡ r → Performed s q m w v → Performed r q m w v
by_sender {s} {r} {q} {m} {w} {v} e p = subst (λ x. Performed x q m w v) e p

pub ruled : {J : Type 0} {g : Ghosts J} {q r : Posting} {x y : Member J g} {w v : Lines Frame} → r ≡ q → Played q x y w v → Played r x y w v
ruled e p = record { done = by_rule e p.done; home = p.home }
