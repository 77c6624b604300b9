-- What a book means after a call. Assumes nothing.
use Rattle.std.proofs.Common.{◌≡◌, ℕ, eqb, cond, sym, ap, ◌∙◌, ⊎_elim}
use Rattle.std.proofs.lemmas.Bool.{cond-true, cond-false, cases_eq, eq-eqb, ne_eqb}
use Rattle.books.specs.Answers.{Answered}

module _ {B S V : Type 0} (number : V → ℕ) (means : B → S) (old new : B) (verdict v : V) (t : S) (a : Answered number means old new verdict v t) where
  pub answered : means new ≡ cond (eqb (number v) 0) t (means old)
  answered =
      ⊎_elim (λ (z : number v ≡ 0). a.taken (ap number a.value ∙ z) ∙ sym (cond-true (eqb (number v) 0) t (means old) (eq-eqb (number v) 0 z)))
      (λ (ne : number v ≡ 0 → ⊥). ap means (a.same (λ z. ne (sym (ap number a.value) ∙ z))) ∙ sym (cond-false (eqb (number v) 0) t (means old) (ne_eqb (number v) 0 ne)))
      (cases_eq (number v) 0)
