-- A list that begins another.
use Rattle.std.proofs.Common.{◌≡◌, ℕ, ◌≤◌, List, [], ◌++◌, length, take, drop, sym, refl, ap, ◌∙◌, subst, arith}
use Rattle.std.proofs.lemmas.List.{append-nil, append_assoc, length-append, take-append-drop, take_at, take-take, take-append-le}
use Rattle.runs.specs.Promises.{Begins}

module _ {A : Type 0} where
  pub begins_self : (a : List A) → Begins a a
  begins_self a = record { rest = []; joins = append-nil a }

  pub begins_push : (a b : List A) → Begins a (a ++ b)
  begins_push a b = record { rest = b; joins = refl }

  pub begins_nil : (a : List A) → Begins [] a
  begins_nil a = record { rest = a; joins = refl }

  pub begins_trans : {a b c : List A} → Begins a b → Begins b c → Begins a c
  begins_trans {a} p q = record {
    rest = p.rest ++ q.rest;
    joins = sym (append_assoc a p.rest q.rest) ∙ (ap (λ z. z ++ q.rest) p.joins ∙ q.joins);
  }

  pub begins_take : (k : ℕ) (a : List A) → Begins (take k a) a
  begins_take k a = record { rest = drop k a; joins = take-append-drop k a }

  pub begins_length : {a b : List A} → Begins a b → length a ≤ length b
  begins_length {a} p = omega (arith, sym (ap length p.joins), length-append a p.rest)

  pub front_is : {a b : List A} → Begins a b → a ≡ take (length a) b
  front_is {a} p = sym (take_at a p.rest (length a) refl) ∙ ap (take (length a)) p.joins

  pub begins_same : {a b c : List A} → Begins a c → Begins b c → length a ≡ length b → a ≡ b
  begins_same {c = c} p q e = front_is p ∙ (ap (λ k. take k c) e ∙ sym (front_is q))

  pub begins_under : {a b c : List A} → Begins a c → Begins b c → length a ≤ length b → Begins a b
  begins_under {a} {b} {c} p q l =
      subst (λ z. Begins z b)
      (ap (take (length a)) (front_is q) ∙ (take-take (length a) (length b) c l ∙ sym (front_is p)))
      (begins_take (length a) b)

  pub take_begins : {a b : List A} (k : ℕ) → Begins a b → k ≤ length a → take k a ≡ take k b
  take_begins {a} k p l = sym (take-append-le k a p.rest l) ∙ ap (take k) p.joins
