-- What posting leaves in each line, and that it feeds the stations that have the sender's journal.
use Rattle.std.proofs.Common.{◌≡◌, ℕ, suc, ◌+◌, ◌^◌, ◌<◌, ◌≤◌, Bool, true, false, not, ◌&&◌, eqb, ltb, leb, List, [], ◌∷◌, ◌++◌, length, sym, refl, ap, ◌∙◌, subst, arith}
use Rattle.std.specs.List.{AllByRecursion as All}
use Rattle.std.proofs.lemmas.Bool.{cond_both, cond-true, cond-false, and_from, or_right, le-leb, lt-ltb, eq-eqb, ne_eqb, not_from_false}
use Rattle.std.proofs.lemmas.List.{length-append, append_assoc, append-nil}
use Rattle.protocol.specs.declared.entry.Body.{Body}
use Rattle.protocol.specs.declared.entry.Body.TheVariants.{Note as NoteBody, View}
use Rattle.protocol.specs.declared.entry.Entry.{Entry}
use Rattle.protocol.specs.declared.frame.Frame.{Frame}
use Rattle.protocol.specs.declared.frame.Frame.TheVariants.{Heartbeat}
use Rattle.queue.specs.Contents.{rest}
use Rattle.wires.specs.Lines.{Lines}
use Rattle.wires.specs.Calls.{offering, changed, offered_below, posted, taken, posted_all}
use Rattle.journal.specs.Journal.{last_turn, end_of, is_start}
use Rattle.journal.specs.Core.{other}
use Rattle.taking.specs.Lawful.{in_range, end_in_range, body_lawful}
use Rattle.turning.specs.Posts.{frames_of}
use Rattle.runs.proofs.Ends.{last_from, last_of, same_last}
use Rattle.runs.proofs.Formed.{Formed, SoundBody, last_append, formed_last}
use Rattle.runs.proofs.Feeding.{Keeps, Feeds}

pub taken_here : (w : Lines Frame) (s : ℕ) (f : Frame) (l : List Frame) → s < w.roll → w.at s ≡ f ∷ l → (taken w s).at s ≡ l
taken_here w s f l on e =
    ap (λ (z : Lines Frame). z.at s) (cond-true (ltb s w.roll) (changed w s rest) w (lt-ltb s w.roll on)) ∙
    (cond-true (eqb s s) (rest (w.at s)) (w.at s) (eq-eqb s s refl) ∙ ap rest e)

pub taken_other : (w : Lines Frame) (s m : ℕ) → (m ≡ s → ⊥) → (taken w s).at m ≡ w.at m
taken_other w s m ne =
    cond_both (ltb s w.roll) (changed w s rest) w (λ (z : Lines Frame). z.at m ≡ w.at m)
    (λ _. cond-false (eqb m s) (rest (w.at m)) (w.at m) (ne_eqb m s ne)) (λ _. refl)

pub taken_roll : (w : Lines Frame) (s : ℕ) → (taken w s).roll ≡ w.roll
taken_roll w s = cond_both (ltb s w.roll) (changed w s rest) w (λ (z : Lines Frame). z.roll ≡ w.roll) (λ _. refl) (λ _. refl)

post_own : (o : ℕ) (f : Frame) (w : Lines Frame) → (posted w o f).at o ≡ w.at o
post_own o f w =
    cond_both (ltb o w.roll) (offered_below w w.roll o f) w (λ (z : Lines Frame). z.at o ≡ w.at o)
    (λ _. cond-false (ltb o w.roll && not (eqb o o)) (offering f (w.at o)) (w.at o) (own (ltb o w.roll) (eqb o o) (eq-eqb o o refl)))
    (λ _. refl)
  where
    own : (a b : Bool) → b ≡ true → (a && not b) ≡ false
    own true b e = ap not e
    own false b e = refl

post_roll : (o : ℕ) (f : Frame) (w : Lines Frame) → (posted w o f).roll ≡ w.roll
post_roll o f w = cond_both (ltb o w.roll) (offered_below w w.roll o f) w (λ (z : Lines Frame). z.roll ≡ w.roll) (λ _. refl) (λ _. refl)

post_other : (o s : ℕ) (f : Frame) (w : Lines Frame) → o < w.roll → s < w.roll → (s ≡ o → ⊥) → length (w.at s) < 32 → (posted w o f).at s ≡ w.at s ++ f ∷ []
post_other o s f w on l ne room =
    ap (λ (z : Lines Frame). z.at s) (cond-true (ltb o w.roll) (offered_below w w.roll o f) w (lt-ltb o w.roll on)) ∙
    (cond-true (ltb s w.roll && not (eqb s o)) (offering f (w.at s)) (w.at s)
    (and_from (ltb s w.roll) (not (eqb s o)) (lt-ltb s w.roll l) (not_from_false (eqb s o) (ne_eqb s o ne))) ∙
    cond-true (ltb (length (w.at s)) 32) (w.at s ++ f ∷ []) (w.at s) (lt-ltb (length (w.at s)) 32 room))

pub posts_roll : (o : ℕ) (fs : List Frame) (w : Lines Frame) → (posted_all w o fs).roll ≡ w.roll
unfolding posted_all
posts_roll o [] w = refl
posts_roll o (f ∷ fs) w = posts_roll o fs (posted w o f) ∙ post_roll o f w

-- the sender's own line stays
pub posts_own : (o : ℕ) (fs : List Frame) (w : Lines Frame) → (posted_all w o fs).at o ≡ w.at o
unfolding posted_all
posts_own o [] w = refl
posts_own o (f ∷ fs) w = posts_own o fs (posted w o f) ∙ post_own o f w

-- another line with room gets all, in order
pub posts_other : (o s : ℕ) (fs : List Frame) (w : Lines Frame) → o < w.roll → s < w.roll → (s ≡ o → ⊥) → length (w.at s) + length fs ≤ 32 →
    (posted_all w o fs).at s ≡ w.at s ++ fs
unfolding posted_all
posts_other o s [] w on l ne room = sym (append-nil (w.at s))
posts_other o s (f ∷ fs) w on l ne room =
    posts_other o s fs (posted w o f) (omega (arith, post_roll o f w)) (omega (arith, post_roll o f w)) ne
    (omega (arith, ap length one, length-append (w.at s) (f ∷ []), room)) ∙
    (ap (λ z. z ++ fs) one ∙ append_assoc (w.at s) (f ∷ []) fs)
  where
    one : (posted w o f).at s ≡ w.at s ++ f ∷ []
    one = post_other o s f w on l ne (omega (arith, room))

pub frames_length : (s b : ℕ) (es : List Entry) → length (frames_of s b es) ≡ length es
unfolding frames_of
frames_length s b [] = refl
frames_length s b (e ∷ es) = ap suc (frames_length s e.turn es)

-- a place and a turn that a frame may name
in_range_from : (p t : ℕ) → 1 ≤ p → p ≤ 256 → 1 ≤ t → t ≤ 1000000 → in_range p t ≡ true
in_range_from p t a b c d =
    and_from (ltb 0 p && leb p 256) (ltb 0 t && leb t 1000000)
    (and_from (ltb 0 p) (leb p 256) (lt-ltb 0 p a) (le-leb p 256 b))
    (and_from (ltb 0 t) (leb t 1000000) (lt-ltb 0 t c) (le-leb t 1000000 d))

module _ (n : ℕ) (vote : ℕ → Bool) where
  sound_lawful : (b : Body) → SoundBody n vote b → body_lawful n vote b ≡ true
  sound_lawful (NoteBody _) h = refl
  sound_lawful (View w) h = and_from (ltb w (2 ^ n)) (vote w) (lt-ltb w (2 ^ n) h.0) h.1

  first_turn : (t k d : ℕ) (j : List Entry) → 1 ≤ d → Formed n vote t k j → 1 ≤ last_from d j
  first_turn t k d [] h f = h
  first_turn t k d (e ∷ j) h f = first_turn t (suc k) e.turn j f.0.2 f.1

  end_lawful : (t : ℕ) (j : List Entry) → Formed n vote t 0 j → t ≤ 1000001 → length j ≤ 256 → end_in_range (end_of j) ≡ true
  end_lawful t [] f l h = refl
  end_lawful t (e ∷ j) f l h =
      or_right (is_start (end_of (e ∷ j))) (in_range (length (e ∷ j)) (last_turn (e ∷ j)))
      (in_range_from (length (e ∷ j)) (last_turn (e ∷ j)) (omega arith) h
      (omega (arith, same_last (e ∷ j), first_turn t 1 e.turn j f.0.2 f.1))
      (omega (arith, same_last (e ∷ j), formed_last n vote t 1 e.turn j f.0.1 f.1, l)))

  -- frames of another station o
  module _ (s o : ℕ) (on : o < n) (apart : o ≡ s → ⊥) where
    from_other : other s n o ≡ true
    from_other = and_from (ltb o n) (not (eqb o s)) (lt-ltb o n on) (not_from_false (eqb o s) (ne_eqb o s apart))

    pub feeds_beat : (t : ℕ) (c : List Entry) → Formed n vote t 0 c → t ≤ 1000001 → length c ≤ 256 → Feeds n vote s c (Heartbeat o (end_of c) ∷ []) c
    feeds_beat t c f l h =
        (record { lawful = and_from (other s n o) (end_in_range (end_of c)) from_other (end_lawful t c f l h); is = refl; roll = on }, refl)

    pub feeds_frames : (t b : ℕ) (j es : List Entry) (more : List Frame) (c : List Entry) → Formed n vote t (length j) es → t ≤ 1000001 →
        length j + length es ≤ 256 → All (λ e. Keeps s e.body) es → b ≡ last_of j → Feeds n vote s (j ++ es) more c → Feeds n vote s j (frames_of o b es ++ more) c
    unfolding frames_of
    feeds_frames t b j [] more c f l h keeps last g = subst (λ z. Feeds n vote s z more c) (append-nil j) g
    feeds_frames t b j (e ∷ es) more c f l h keeps last g = (
      record {
        lawful =
            and_from (other s n o) (in_range e.place e.turn && body_lawful n vote e.body) from_other
            (and_from (in_range e.place e.turn) (body_lawful n vote e.body)
            (in_range_from e.place e.turn (omega (arith, f.0.0)) (omega (arith, f.0.0, h)) f.0.2 (omega (arith, f.0.1, l)))
            (sound_lawful e.body f.0.3));
        place = f.0.0;
        last = last;
        keeps = keeps.0;
      },
      feeds_frames t e.turn (j ++ e ∷ []) es more c
          (subst (λ z. Formed n vote t z es) (omega (arith, length-append j (e ∷ []))) f.1) l
          (omega (arith, length-append j (e ∷ []), h)) keeps.1 (sym (last_append 0 j (e ∷ [])))
          (subst (λ z. Feeds n vote s z more c) (sym (append_assoc j (e ∷ []) es)) g),
    )
