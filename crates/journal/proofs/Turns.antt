-- The turn at a place, by index. Assumes nothing.
use Rattle.std.proofs.Common.{subst, ◌∙◌, leb, ◌≡◌, ℕ, zero, suc, ◌-◌, ◌<◌, ◌≤◌, List, [], ◌∷◌, map, length, get_or, sym, refl, arith}
use native.Mathlib.Numerals.{unary_clauses}
use Rattle.std.proofs.lemmas.Bool.{cond-true, le-leb}
use Rattle.std.proofs.lemmas.List.{get_or-map}
use Rattle.protocol.specs.declared.entry.Entry.{Entry}
use Rattle.std.specs.Prelude.{MatchOption, Option}
use Rattle.std.specs.List.{slice_get}
use Rattle.journal.specs.Journal.{turn_at, entry_at}

pub turn_some : (j : List Entry) (p : ℕ) (d : Entry) → 0 < p → p ≤ length j → (get_or j (p - 1) d).turn ≡ turn_at j p
turn_some j zero d h k = absurd (omega arith)
turn_some j (suc q) d h k = simp unary_clauses (sym (get_or-map (λ (e : Entry). e.turn) j q d 0 (omega arith)))

got : (j : List Entry) (q t : ℕ) (P : Entry → Type 0) → MatchOption (slice_get j q) (t ≡ 0) P → ((e : Entry) → P e → t ≡ e.turn) → t ≡ get_or (map (λ (e : Entry). e.turn) j) q 0
got [] zero t P h f = h
got [] (suc q) t P h f = h
got (e ∷ es) zero t P h f = f e h
got (e ∷ es) (suc q) t P h f = got es q t P h f

next_at : (j : List Entry) (q : ℕ) → entry_at j (suc q) ≡ slice_get j q
next_at j q = cond-true (leb 1 (suc q)) _ _ (le-leb 1 (suc q) (omega arith)) ∙ simp unary_clauses refl

-- what is read of the entry at a place, where there is one, is the turn at that place
pub turned : (j : List Entry) (p : ℕ) (o : Option Entry) (t : ℕ) (P : Entry → Type 0) → o ≡ entry_at j p → MatchOption o (t ≡ 0) P → ((e : Entry) → P e → t ≡ e.turn) → t ≡ turn_at j p
turned j zero o t P e h f = subst (λ (q : Option Entry). MatchOption q (t ≡ 0) P) e h
turned j (suc q) o t P e h f = got j q t P (subst (λ (z : Option Entry). MatchOption z (t ≡ 0) P) (e ∙ next_at j q) h) f
