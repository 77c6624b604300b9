-- A whole turn, put together from its calls. Assumes nothing.
use Rattle.std.proofs.Common.{◌≡◌, ℕ, ◌-◌, ◌%◌, ◌<◌, ◌≤◌, Bool, true, false, cond, ◌&&◌, eqb, ltb, leb, List, [], Ok, Err, Result, sym, refl, ap, ◌∙◌, subst, arith}
use Rattle.std.proofs.lemmas.Bool.{and_parts, ltb-true}
use Rattle.protocol.specs.Limits.{last_turn_number}
use Rattle.protocol.specs.declared.refusal.Refusal.TheVariants.{WrongTurn}
use Rattle.journal.specs.Journal.{last_turn}
use Rattle.journal.specs.Core.{Core}
use Rattle.protocol.specs.declared.frame.Frame.{Frame}
use Rattle.protocol.specs.declared.note.Note.{Note}
use Rattle.protocol.specs.declared.refusal.Refusal.{Refusal}
use Rattle.turning.specs.Calls.{due, open_call, open_turn, pass_turn, say_next, token}
use Rattle.turning.specs.Posts.{Performed, Posting, after}
use Rattle.turning.specs.Whole.{said_and_passed, say_all, turn_by_calls, turn_call, whole_turn}
use Rattle.turning.specs.declared.token.Token.{Token}
use Rattle.wires.specs.Calls.{posted_all}
use Rattle.wires.specs.Lines.{Lines}
use Rattle.turning.proofs.Serving.{after_frames}
use Rattle.turning.proofs.Posting.{by_rule}
use Rattle.station.proofs.Sayings.{counted, Ends, ends}
use Rattle.station.proofs.ByCalls.{by_calls}

-- an answer with a known flag
pub flagged : (r : Token × Bool) (q : Token × Bool) (b : Bool) → r ≡ q → r.1 ≡ b → (r.0, b) ≡ q
flagged r q b e t = sym (ap (λ (x : Bool). (r.0, x)) t) ∙ e

-- saying takes one off the token
pub falls : (k k' : Token) (ns : List Note) (m : Core) → (k', true) ≡ (say_next k ns m).0 → k'.left < k.left
falls k k' ns m e =
    let c = counted k ns m (ap (λ (x : Token × Bool). x.1) (sym e)) in
    let a : k'.left ≡ (say_next k ns m).0.0.left = ap (λ (x : Token × Bool). x.0.left) e in
    omega (arith, c.0, c.1)

-- a turn that is due is above the journal's last
due_young : (t : ℕ) (m : Core) → due t m ≡ true → last_turn m.journal ≤ t
due_young t m e =
    let a = (and_parts (ltb 0 t && leb t last_turn_number) (eqb ((t - 1) % m.roll) m.me && ltb (last_turn m.journal) t) e).1 in
    let b = ltb-true (last_turn m.journal) t (and_parts (eqb ((t - 1) % m.roll) m.me) (ltb (last_turn m.journal) t) a).1 in
    omega (arith, b)

abbrev Answer : Type 0
Answer = Result Token Refusal × Posting

module _ (vote : ℕ → Bool) (t : ℕ) (m : Core) where
  abbrev answer : Bool → Answer
  answer b = cond b (Ok (token m.me t (open_turn vote t m).0), (open_turn vote t m).1) (Err WrongTurn, (m, []))

  opened_by : (b : Bool) (k : Token) → Ok k ≡ (answer b).0
      → (b ≡ true) × (k ≡ token m.me t (open_turn vote t m).0)
      × ((answer b).1 ≡ (open_turn vote t m).1)
  opened_by true k e = (refl, cc, refl)
  opened_by false k e = let z : ◌≡◌ {A = ℕ} 0 1 = cc in absurd (omega arith)

  -- what a token says of its opening
  pub opened : (k : Token) → Ok k ≡ (open_call vote t m).0
      → (due t m ≡ true) × (k ≡ token m.me t (open_turn vote t m).0) × ((open_call vote t m).1 ≡ (open_turn vote t m).1)
  unfolding open_call
  opened k e = opened_by (due t m) k e

  shut_by : (b : Bool) (r : Refusal) → Err r ≡ (answer b).0
      → (b ≡ false) × (r ≡ WrongTurn) × ((answer b).1 ≡ (m, []))
  shut_by true r e = let z : ◌≡◌ {A = ℕ} 0 1 = cc in absurd (omega arith)
  shut_by false r e = (refl, cc, refl)

  pub shut : (r : Refusal) → Err r ≡ (open_call vote t m).0 → (due t m ≡ false) × (r ≡ WrongTurn) × ((open_call vote t m).1 ≡ (m, []))
  unfolding open_call
  shut r e = shut_by (due t m) r e

  module _ (ns : List Note) where
    pub call_shut : due t m ≡ false → turn_call vote t ns m ≡ (Err WrongTurn, (ns, (m, [])))
    unfolding turn_call
    call_shut e = rw e

    pub call_done : due t m ≡ true → turn_call vote t ns m ≡ (Ok tt, whole_turn vote t ns m)
    unfolding turn_call
    call_done e = rw e

    by_token : (k : Token) → k ≡ token m.me t (open_turn vote t m).0 → last_turn m.journal ≤ t
        → said_and_passed k ns (open_turn vote t m).1 ≡ whole_turn vote t ns m
    unfolding turn_by_calls
    by_token k e young = ap (λ (x : Token). said_and_passed x ns (open_turn vote t m).1) e ∙ by_calls vote t ns m young

    -- the three calls, one after another
    pub whole_is : (s : ℕ) (k k' : Token) (ns' : List Note) (m₁ m' x : Core) (w₀ w₁ w' v : Lines Frame)
        → due t m ≡ true → s ≡ m.me → k ≡ token m.me t (open_turn vote t m).0
        → Performed m.me (open_turn vote t m).1 m₁ w₀ w₁
        → ends s k ns m₁ w₁ ≡ ((k', (ns', m')), w')
        → Performed s (pass_turn k' m') x w' v
        → (ns' ≡ (whole_turn vote t ns m).0) × Performed m.me (whole_turn vote t ns m).1 x w₀ v
    whole_is s k k' ns' m₁ m' x w₀ w₁ w' v young es ek a e b =
        let q = (open_turn vote t m).1 in
        let o = m.me in
        let r = say_all k.left k ns q.0 in
        let e₁ : ends o k ns q.0 w₁ ≡ ((k', (ns', m')), w') =
        subst (λ (z : Core). ends o k ns z w₁ ≡ ((k', (ns', m')), w')) a.station
        (subst (λ z. ends z k ns m₁ w₁ ≡ ((k', (ns', m')), w')) es e) in
        let rk : r.0 ≡ k' = ap (λ (z : Ends). z.0.0) e₁ in
        let rn : r.1.0 ≡ ns' = ap (λ (z : Ends). z.0.1.0) e₁ in
        let rm : r.1.1.0 ≡ m' = ap (λ (z : Ends). z.0.1.1) e₁ in
        let rl : posted_all w₁ o r.1.1.1 ≡ w' = ap (λ (z : Ends). z.1) e₁ in
        let b₁ : Performed o (pass_turn k' m') x w' v = subst (λ z. Performed z (pass_turn k' m') x w' v) es b in
        let b₂ : Performed o (pass_turn r.0 r.1.1.0) x w' v = by_rule (ap (λ (z : Token). pass_turn z r.1.1.0) rk ∙ ap (pass_turn k') rm) b₁ in
        let c : Performed o (after r.1.1.1 (pass_turn r.0 r.1.1.0)) x w₁ v = after_frames o r.1.1.1 _ x w₁ w' v (sym rl) b₂ in
        let d : Performed o (said_and_passed k ns q).1 x w₀ v = after_frames o q.1 _ x w₀ w₁ v a.lines c in (
          sym rn ∙ ap (λ (z : List Note × Posting). z.0) (by_token k ek (due_young t m young)),
          subst (λ (z : List Note × Posting). Performed o z.1 x w₀ v) (by_token k ek (due_young t m young)) d,
        )
