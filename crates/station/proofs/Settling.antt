-- Where nothing more can be made firm. Assumes nothing.
use Rattle.std.proofs.Common.{◌≡◌, ℕ, ◌≤◌, max, Bool, true, false, eqb, ltb, List, length, Result, refl, ap, arith}
use Rattle.std.proofs.lemmas.Bool.{cond_both, both_ways}
use Rattle.protocol.specs.Limits.{journal_places}
use Rattle.protocol.specs.declared.note.Note.{Note}
use Rattle.protocol.specs.declared.refusal.Refusal.{Refusal}
use Rattle.vote.specs.Mask.{removing}
use Rattle.journal.specs.declared.state.State.{State}
use Rattle.journal.specs.declared.state.State.TheVariants.{Running, Joining, Out}
use Rattle.journal.specs.Peers.{unmarked}
use Rattle.journal.specs.Core.{Core, with_firm, with_peers, is_running, is_out}
use Rattle.journal.specs.Settle.{view, known_to_all, settle, settle_on}
use Rattle.turning.specs.Posts.{Posting}
use Rattle.turning.specs.Steps.{Spoken, gone_of, put_off, chosen}
use Rattle.turning.specs.Calls.{due}
use Rattle.turning.specs.Whole.{serve_or_say, turn_as, whole_turn, turn_call}
use Rattle.station.specs.Laws.{Settled}

pub settled_now : (m : Core) → Settled (settle m)
settled_now m = λ _. omega arith

pub settled_on : (m : Core) → Settled (settle_on m)
settled_on m = cond_both (is_out m.state) m (settle m) Settled (λ o e. absurd (both_ways (is_out m.state) e o)) (λ _. settled_now m)

-- settling changes nothing where nothing more can be made firm
pub settle_same : (m : Core) → known_to_all m ≤ m.firm → settle m ≡ m
settle_same m h = let z : max m.firm (known_to_all m) ≡ m.firm = omega arith in ap (λ k. with_firm k m) z

pub settle_on_same : (m : Core) → known_to_all m ≤ m.firm → settle_on m ≡ m
settle_on_same m h = cond_both (is_out m.state) m (settle m) (λ (x : Core). x ≡ m) (λ _. refl) (λ _. settle_same m h)

-- a running station that does not run after step 1 is out
out_or_running : (vote : ℕ → Bool) (t : ℕ) (m : Core) → m.state ≡ Running → is_running (put_off vote t m).0.state ≡ false → is_out (put_off vote t m).0.state ≡ true
unfolding put_off
out_or_running vote t m run =
    let P : Posting → Type 0 = λ q. is_running q.0.state ≡ false → is_out q.0.state ≡ true in
    cond_both (eqb (gone_of m) 0) _ _ P (λ _ f. absurd (clash f))
    (λ _. cond_both (vote (removing (view m) (gone_of m))) _ _ P
    (λ _. cond_both (ltb (length m.journal) journal_places) _ _ P (λ _ f. absurd (clash f)) (λ _ _. refl))
    (λ _ _. refl))
  where
    clash : is_running m.state ≡ false → ⊥
    clash f = both_ways (is_running m.state) f (ap is_running run)

settled_as : (s : State) (vote : ℕ → Bool) (t : ℕ) (ns : List Note) (m : Core) → m.state ≡ s → Settled (turn_as s vote t ns m).1.0
settled_as Running vote t ns m e =
    let q = put_off vote t m in
    let r = serve_or_say t (chosen q.0) ns q.0 in
    cond_both (is_running q.0.state) _ _ (λ (x : Spoken). Settled x.1.0)
    (λ _. settled_now (with_peers (unmarked r.1.0.peers) r.1.0))
    (λ f o. absurd (both_ways (is_out q.0.state) o (out_or_running vote t m e f)))
settled_as Joining vote t ns m e = settled_now m
settled_as (Out c) vote t ns m e = λ o. absurd (both_ways (is_out m.state) o (ap is_out e))

pub settled_turn : (vote : ℕ → Bool) (t : ℕ) (ns : List Note) (m : Core) → Settled m → Settled (turn_call vote t ns m).1.1.0
unfolding turn_call whole_turn
settled_turn vote t ns m h =
    cond_both (due t m) _ _ (λ (q : Result (Unit {0}) Refusal × Spoken). Settled q.1.1.0) (λ _. settled_as m.state vote t ns m refl) (λ _. h)
