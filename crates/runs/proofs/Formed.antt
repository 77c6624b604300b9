-- A journal whose entries have their places, past turns, and views that have the vote.
use Rattle.std.proofs.Common.{◌≡◌, ℕ, suc, ◌+◌, ◌^◌, ◌<◌, ◌≤◌, Bool, true, ◌⊎◌, List, [], ◌∷◌, ◌++◌, length, sym, refl, ap, ◌∙◌, subst, inl, inr, arith}
use Rattle.std.specs.List.{AllByRecursion as All}
use Rattle.std.proofs.lemmas.List.{append_assoc, append_cancel_left, length-append}
use Rattle.std.proofs.lemmas.Bool.{cases_lt}
use Rattle.protocol.specs.declared.note.Note.{Note}
use Rattle.protocol.specs.declared.entry.Body.{Body}
use Rattle.protocol.specs.declared.entry.Body.TheVariants.{Note as NoteBody, View}
use Rattle.protocol.specs.declared.entry.Entry.{Entry}
use Rattle.runs.proofs.Fronts.{begins_push, begins_under}
use Rattle.journal.specs.Journal.{view_after, newest_view}
use Rattle.journal.specs.Settle.{feed as given, fed}
use Rattle.runs.specs.Promises.{Begins}
use Rattle.runs.proofs.Ends.{last_from, last_of}

-- the last turn of a joined list
pub last_append : (d : ℕ) (a b : List Entry) → last_from d (a ++ b) ≡ last_from (last_from d a) b
last_append d [] b = refl
last_append d (e ∷ a) b = last_append e.turn a b

pub feed_append : {S : Type 0} (next : S → Note → S) (s : S) (a b : List Entry) → fed next s (a ++ b) ≡ fed next (fed next s a) b
feed_append next s [] b = refl
feed_append next s (e ∷ a) b = feed_append next (given next s e.body) a b

module _ (n : ℕ) (vote : ℕ → Bool) where
  -- a mask of the roll that has the vote
  abbrev pub Strong : ℕ → Type 0
  Strong w = (w < 2 ^ n) × (vote w ≡ true)

  abbrev pub SoundBody : Body → Type 0
  SoundBody (NoteBody _) = Unit {0}
  SoundBody (View w) = Strong w

  -- places from k + 1 on, turns of at least 1 and below t
  abbrev pub Formed : ℕ → ℕ → List Entry → Type 0
  Formed t k [] = Unit {0}
  Formed t k (e ∷ j) = ((e.place ≡ suc k) × (e.turn < t) × (1 ≤ e.turn) × SoundBody e.body) × Formed t (suc k) j

  pub formed_append : (t k : ℕ) (a b : List Entry) → Formed t k a → Formed t (k + length a) b → Formed t k (a ++ b)
  formed_append t k [] b f g = subst (λ z. Formed t z b) (omega arith) g
  formed_append t k (e ∷ a) b f g = (f.0, formed_append t (suc k) a b f.1 (subst (λ z. Formed t z b) (omega arith) g))

  formed_left : (t k : ℕ) (a b : List Entry) → Formed t k (a ++ b) → Formed t k a
  formed_left t k [] b f = tt
  formed_left t k (e ∷ a) b f = (f.0, formed_left t (suc k) a b f.1)

  pub formed_front : (t k : ℕ) (a b : List Entry) → Begins a b → Formed t k b → Formed t k a
  formed_front t k a b p f = formed_left t k a p.rest (subst (Formed t k) (sym p.joins) f)

  pub formed_at : (t k : ℕ) (a : List Entry) (e : Entry) (b : List Entry) → Formed t k (a ++ e ∷ b) →
      (e.place ≡ suc (k + length a)) × (e.turn < t) × (1 ≤ e.turn) × SoundBody e.body
  formed_at t k [] e b f = (omega (arith, f.0.0), f.0.1, f.0.2, f.0.3)
  formed_at t k (d ∷ a) e b f =
      let r = formed_at t (suc k) a e b f.1 in
      (omega (arith, r.0), r.1, r.2, r.3)

  pub formed_later : (t u k : ℕ) → t ≤ u → (a : List Entry) → Formed t k a → Formed u k a
  formed_later t u k l [] f = tt
  formed_later t u k l (e ∷ a) f = ((f.0.0, omega (arith, f.0.1), f.0.2, f.0.3), formed_later t u (suc k) l a f.1)

  pub formed_last : (t k d : ℕ) (a : List Entry) → d < t → Formed t k a → last_from d a < t
  formed_last t k d [] h f = h
  formed_last t k d (e ∷ a) h f = formed_last t (suc k) e.turn a f.0.1 f.1

  view_strong : (v : ℕ) (b : Body) → Strong v → SoundBody b → Strong (view_after v b)
  view_strong v (NoteBody _) h g = h
  view_strong v (View w) h g = g

  pub newest_strong : (t k v : ℕ) (a : List Entry) → Strong v → Formed t k a → Strong (newest_view v a)
  newest_strong t k v [] h f = h
  newest_strong t k v (e ∷ a) h f = newest_strong t (suc k) (view_after v e.body) a (view_strong v e.body h f.0.3) f.1

-- entries of one turn
abbrev pub OfTurn : ℕ → List Entry → Type 0
OfTurn t es = All (λ e. e.turn ≡ t) es

last_of_turn : (t d : ℕ) (es more : List Entry) → OfTurn t (es ++ more) → 0 < length es → last_from d es ≡ t
last_of_turn t d [] more h l = absurd (omega (arith, l))
last_of_turn t d (e ∷ []) more h l = h.0
last_of_turn t d (e ∷ f ∷ es) more h l = last_of_turn t e.turn (f ∷ es) more h.1 (omega arith)

-- what begins a journal with entries of turn t behind it begins the journal, or ends in turn t
pub begins_new : (t : ℕ) (x a es : List Entry) → OfTurn t es → Begins x (a ++ es) → Begins x a ⊎ (last_of x ≡ t)
begins_new t x a es h p = go (cases_lt (length a) (length x))
  where
    past : length a < length x → last_of x ≡ t
    past l =
        let q : Begins a x = begins_under (begins_push a es) p (omega arith) in
        let front : q.rest ++ p.rest ≡ es =
        append_cancel_left a (q.rest ++ p.rest) es
        (sym (append_assoc a q.rest p.rest) ∙ (ap (λ z. z ++ p.rest) q.joins ∙ p.joins)) in
        ap last_of (sym q.joins) ∙
        (last_append 0 a q.rest ∙
        last_of_turn t (last_of a) q.rest p.rest (subst (OfTurn t) (sym front) h)
        (omega (arith, sym (ap length q.joins), length-append a q.rest, l)))

    go : (length a < length x) ⊎ (length x ≤ length a) → Begins x a ⊎ (last_of x ≡ t)
    go (inl l) = inr (past l)
    go (inr l) = inl (begins_under p (begins_push a es) l)
