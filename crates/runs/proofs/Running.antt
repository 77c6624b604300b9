-- One call more of a run, and what is promised of the whole. Assumes nothing.
use Rattle.std.proofs.Common.{◌≡◌, ℕ, ◌+◌, ◌<◌, ◌≤◌, List, [], ◌∷◌, ◌++◌, length, get_or, drop, sym, ap, ◌∙◌, subst}
use Rattle.std.proofs.lemmas.List.{at_drop_more, at_drop_all, append_assoc, append-nil}
use Rattle.protocol.specs.Limits.{max_stations}
use Rattle.runs.specs.declared.call.Call.{Call}
use Rattle.runs.specs.Rings.{Rules, Ring, step, run, answers, new_ring}
use Rattle.runs.specs.Promises.{Laws, Kept}
use Rattle.runs.proofs.Promised.{kept}

-- a loop over the calls that stands before number i: Q is the rules that its ring goes by
module _ {S : Type 0} (R : Rules S) (calls : List Call) (i : ℕ) where
  pub run_next : (Q : Rules S) (m n : Ring S) (d : Call) → i < length calls → Q ≡ R → n ≡ (step Q m (get_or calls i d)).1 →
      run R n (drop (i + 1) calls) ≡ run R m (drop i calls)
  unfolding run
  run_next Q m n d l q e =
      ap (λ (z : Ring S). run R z (drop (i + 1) calls)) (e ∙ ap (λ (z : Rules S). (step z m (get_or calls i d)).1) q) ∙ sym (at_drop_more (run R m) calls i d l)

  pub answers_next : (Q : Rules S) (m n : Ring S) (d : Call) (given more : List ℕ) (k : ℕ) → i < length calls → Q ≡ R → n ≡ (step Q m (get_or calls i d)).1 →
      k ≡ (step Q m (get_or calls i d)).0 → more ≡ given ++ k ∷ [] →
      more ++ answers R n (drop (i + 1) calls) ≡ given ++ answers R m (drop i calls)
  unfolding answers
  answers_next Q m n d given more k l q e h p =
      ap (λ z. z ++ answers R n (drop (i + 1) calls)) p ∙
      (append_assoc given (k ∷ []) (answers R n (drop (i + 1) calls)) ∙
      (ap (λ z. given ++ z ∷ answers R n (drop (i + 1) calls)) (h ∙ ap (λ (z : Rules S). (step z m (get_or calls i d)).0) q) ∙
      (ap (λ (z : Ring S). given ++ (step R m (get_or calls i d)).0 ∷ answers R z (drop (i + 1) calls)) (e ∙ ap (λ (z : Rules S). (step z m (get_or calls i d)).1) q) ∙
      ap (λ z. given ++ z) (sym (at_drop_more (answers R m) calls i d l)))))

  pub run_all : (m : Ring S) → length calls ≤ i → run R m (drop i calls) ≡ m
  unfolding run
  run_all m l = at_drop_all (run R m) calls i l

  pub answers_all : (m : Ring S) (given : List ℕ) → length calls ≤ i → given ++ answers R m (drop i calls) ≡ given
  unfolding answers
  answers_all m given l = ap (λ z. given ++ z) (at_drop_all (answers R m) calls i l) ∙ append-nil given

-- a run of a new ring, by the rules Q that its ring went by
module _ {S : Type 0} (R Q : Rules S) (b : S) (calls : List Call) (q : Q ≡ R) (new : Ring S) (e : new ≡ new_ring Q b) where
  pub ran : (m : Ring S) → m ≡ run Q new calls → m ≡ run R (new_ring R b) calls
  ran m h = h ∙ (ap (λ (z : Ring S). run Q z calls) e ∙ ap (λ (z : Rules S). run z (new_ring z b) calls) q)

  pub told : (given : List ℕ) → given ≡ answers Q new calls → given ≡ answers R (new_ring R b) calls
  told given h = h ∙ (ap (λ (z : Ring S). answers Q z calls) e ∙ ap (λ (z : Rules S). answers z (new_ring z b) calls) q)

  pub promised : 1 ≤ R.size → R.size ≤ max_stations → Laws R.size R.vote → (m : Ring S) → m ≡ run Q new calls → Kept R b calls m
  promised pos small laws m h = subst (Kept R b calls) (sym (ran m h)) (kept R b pos small laws calls)
