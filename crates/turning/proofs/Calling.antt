-- The ways of opening, saying and passing. Assumes nothing.
use Rattle.std.proofs.Common.{◌≡◌, ℕ, ◌-◌, Bool, true, false, cond, List, [], ◌∷◌, Some, None, Ok, Err, Option, Result, sym, refl, ap, ◌∙◌, arith}
use Rattle.queue.specs.Contents.{oldest, rest}
use Rattle.protocol.specs.declared.entry.Body.TheVariants as body
use Rattle.protocol.specs.declared.refusal.Refusal.TheVariants.{WrongTurn}
use Rattle.journal.specs.Core.{Core}
use Rattle.protocol.specs.declared.frame.Frame.{Frame}
use Rattle.protocol.specs.declared.note.Note.{Note}
use Rattle.protocol.specs.declared.refusal.Refusal.{Refusal}
use Rattle.turning.specs.Calls.{due, is_own, may_say, open_call, open_turn, pass_as, pass_turn, said_note, say_next, token}
use Rattle.turning.specs.Posts.{Posting, say_body}
use Rattle.turning.specs.declared.token.Token.{Token}
use Rattle.wires.specs.Calls.{posted, posted_all}
use Rattle.wires.specs.Lines.{Lines}
use Rattle.turning.proofs.Posting.{post_one}

module _ (vote : ℕ → Bool) (t : ℕ) (m : Core) where
  pub call_refused : false ≡ due t m → open_call vote t m ≡ (Err WrongTurn, (m, []))
  unfolding open_call
  call_refused e = ap (λ (b : Bool). cond b (Ok (token m.me t (open_turn vote t m).0), (open_turn vote t m).1) (Err WrongTurn, (m, []))) (sym e)

  pub call_open : true ≡ due t m → open_call vote t m ≡ (Ok (token m.me t (open_turn vote t m).0), (open_turn vote t m).1)
  unfolding open_call
  call_open e = ap (λ (b : Bool). cond b (Ok (token m.me t (open_turn vote t m).0), (open_turn vote t m).1) (Err WrongTurn, (m, []))) (sym e)

  -- the token that was made
  pub made_token : (s k : ℕ) → s ≡ m.me → k ≡ (open_turn vote t m).0 → true ≡ due t m → Ok (token s t k) ≡ (open_call vote t m).0
  made_token s k es ek e =
      ap (λ i. Ok (token i t k)) es ∙ ap (λ i. Ok (token m.me t i)) ek ∙ sym (ap (λ (q : Result Token Refusal × Posting). q.0) (call_open e))

module _ (k : Token) (ns : List Note) (m : Core) where
  says : (b : Bool) (o : Option Note) → b ≡ may_say k m → o ≡ oldest ns → say_next k ns m ≡ cond b (said_note k ns m o) ((k, false), (ns, (m, [])))
  unfolding say_next
  says b o eb eo =
      ap (λ (c : Bool). cond c (said_note k ns m (oldest ns)) ((k, false), (ns, (m, [])))) (sym eb)
      ∙ ap (λ (c : Option Note). cond b (said_note k ns m c) ((k, false), (ns, (m, [])))) (sym eo)

  pub say_not : false ≡ may_say k m → say_next k ns m ≡ ((k, false), (ns, (m, [])))
  say_not e = says false (oldest ns) e refl

  pub say_none : true ≡ may_say k m → None ≡ oldest ns → say_next k ns m ≡ ((k, false), (ns, (m, [])))
  say_none e o = says true None e o

  pub say_one : (x : Note) → true ≡ may_say k m → Some x ≡ oldest ns
      → say_next k ns m ≡ ((token k.station k.turn (k.left - 1), true), (rest ns, say_body k.turn (body.Note x) m))
  say_one x e o = says true (Some x) e o

-- a line with no oldest note stays as it is
pub rest_none : (ns : List Note) → None ≡ oldest ns → rest ns ≡ ns
rest_none [] e = refl
rest_none (n ∷ ns) e = let z : ◌≡◌ {A = ℕ} 0 1 = cc in absurd (omega arith)

-- one frame posted
pub posted_frame : (s : ℕ) (f f' : Frame) (w v : Lines Frame) → f ≡ f' → v ≡ posted w s f → v ≡ posted_all w s (f' ∷ [])
posted_frame s f f' w v e ev = ev ∙ ap (posted w s) e ∙ sym (post_one s f' w)

module _ (k : Token) (m : Core) where
  pub pass_own : true ≡ is_own k m → pass_turn k m ≡ pass_as m.state m
  unfolding pass_turn
  pass_own e = ap (λ (b : Bool). cond b (pass_as m.state m) (m, [])) (sym e)

  pub pass_other : false ≡ is_own k m → pass_turn k m ≡ (m, [])
  unfolding pass_turn
  pass_other e = ap (λ (b : Bool). cond b (pass_as m.state m) (m, [])) (sym e)
