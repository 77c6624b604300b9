-- The pool after a station's oldest frame was taken out. Assumes nothing.
use Rattle.std.proofs.Common.{◌≡◌, ℕ, suc, ◌^◌, ◌<◌, ◌≤◌, cond, not, ◌&&◌, eqb, List, [], ◌∷◌, ◌++◌, length, get_or, take, drop, set, Some, sym, ap, ◌∙◌, subst, arith, pow_mono}
use lib.Seq.{split_at, set_split}
use Rattle.std.specs.List.{remove, All}
use Rattle.std.proofs.lemmas.List.{get_or_default}
use Rattle.std.proofs.lemmas.List.Elements.{All-same, All-append, All-take, All-drop}
use Rattle.std.proofs.lemmas.Bool.{cond_below}
use Rattle.std.proofs.lemmas.Bool.Decides.{nat_tests}
use Rattle.queue.specs.Contents.{oldest, rest}
use Rattle.vote.specs.Mask.{has, adding, removing}
use Rattle.vote.specs.Masks.{has_lacking, has_none, removing_le}
use Rattle.wires.specs.Lines.{Lines}
use Rattle.wires.specs.Calls.{taken}
use Rattle.wires.proofs.Changes.{with_at}
use Rattle.pool.specs.Pool.{line_of, First, Listed, Short}
use Rattle.pool.specs.declared.place.Place.{Place}
use Rattle.pool.specs.Pools.{line_append}

-- what holds of every place holds of those that are left
pub all_removed : {X : Type 0} (P : X → Type 0) (xs ys : List X) (i : ℕ) → ys ≡ remove xs i → All P xs → All P ys
all_removed P xs ys i is all = All-same P ys (remove xs i) is (All-append P _ _ (All-take P i xs all) (All-drop P (suc i) xs all))

rest_le : {T : Type 0} (l : List T) → length (rest l) ≤ length l
rest_le [] = omega arith
rest_le (x ∷ l) = omega arith

-- p stands at i and is the first that waits for s, and m is its mask without s
pub record Found {T : Type 0} (roll : ℕ) (ps : List (Place T)) (s i m : ℕ) (p : Place T) : Type 0 where
  pub first : First s ps i
  pub read : p ≡ get_or ps i p
  pub listed : p.waits < 2 ^ roll
  pub small : p.waits < 256
  pub on : s < 8
  pub less : m ≡ removing p.waits (adding 0 s)

pub found : {T : Type 0} {roll : ℕ} {ps qs : List (Place T)} {s i m o : ℕ} {p : Place T} → roll ≤ 8 → Listed roll ps → s < roll
    → qs ≡ ps → First s qs i → p ≡ get_or ps i p → o ≡ adding 0 s → m ≡ removing p.waits o → Found roll ps s i m p
found {T} {roll} {ps} {qs} {s} {i} {m} {o} {p} few all s_in same at_i read o_is m_is =
    let first = subst (λ (xs : List (Place T)). First s xs i) same at_i in
    let listed : p.waits < 2 ^ roll = subst (λ (q : Place T). q.waits < 2 ^ roll) (sym read) (all i p first.within) in
    let wide : 2 ^ roll ≤ 2 ^ 8 = pow_mono few in
    record { first = first; read = read; listed = listed; small = omega arith; on = omega arith; less = m_is ∙ ap (removing p.waits) o_is }

module _ {T : Type 0} {roll : ℕ} {ps : List (Place T)} {s i m : ℕ} {p : Place T} (f : Found roll ps s i m p) where
  whole : ps ≡ take i ps ++ p ∷ drop (suc i) ps
  whole = split_at ps i p f.first.within ∙ ap (λ (q : Place T). take i ps ++ q ∷ drop (suc i) ps) (sym f.read)

  old_line : (t : ℕ) → line_of t ps ≡ line_of t (take i ps) ++ line_of t (p ∷ drop (suc i) ps)
  old_line t = ap (line_of t) whole ∙ line_append t (take i ps) (p ∷ drop (suc i) ps)

  old_here : line_of s ps ≡ p.frame ∷ line_of s (drop (suc i) ps)
  old_here = grind (arith, old_line s, f.first.before, f.read, f.first.waits p)

  pub first_frame : Some p.frame ≡ oldest (line_of s ps)
  first_frame = grind (arith, old_here)

  -- whom the mask without s names
  left : (t : ℕ) → has m t ≡ (has p.waits t && not (eqb t s))
  left t = ap (λ x. has x t) f.less ∙ has_lacking p.waits s t f.small f.on

  pub lines_removed : (qs : List (Place T)) → qs ≡ remove ps i → m ≡ 0 → (t : ℕ) → line_of t qs ≡ cond (eqb t s) (rest (line_of t ps)) (line_of t ps)
  lines_removed qs is none t = grind (arith, nat_tests, is, line_append t (take i ps) (drop (suc i) ps), old_line t, old_here, f.first.before, left t, has_none t)

  -- q is what was read to write its mask
  pub lines_kept : (q : Place T) → q ≡ get_or ps i q → (t : ℕ) → line_of t (set ps i (record { frame = q.frame; waits = m })) ≡ cond (eqb t s) (rest (line_of t ps)) (line_of t ps)
  lines_kept q read t =
      let new : Place T = record { frame = q.frame; waits = m } in
      grind (arith, nat_tests, set_split ps i new f.first.within, line_append t (take i ps) (new ∷ drop (suc i) ps), old_line t, old_here, f.first.before, left t, read, f.read, get_or_default ps i q p f.first.within)

-- a line that lost its oldest frame is no longer
pub still_short : {T : Type 0} (ps qs : List (Place T)) (s : ℕ) → Short ps → ((t : ℕ) → line_of t qs ≡ cond (eqb t s) (rest (line_of t ps)) (line_of t ps)) → Short qs
still_short ps qs s short is t = grind (arith, nat_tests, is t, short t, rest_le (line_of t ps))

-- a line changed, where the station is on the roll
pub taken_from : {T : Type 0} (w : Lines T) (s : ℕ) (f : ℕ → List T) → s < w.roll → ((t : ℕ) → f t ≡ cond (eqb t s) (rest (w.at t)) (w.at t))
    → ◌≡◌ {A = Lines T} (record { roll = w.roll; at = f }) (taken w s)
taken_from w s f on each = with_at w.roll each ∙ cond_below s w.roll _ _ on

-- the mask without s is one of the roll's
pub less_listed : {T : Type 0} {roll : ℕ} {ps : List (Place T)} {s i m : ℕ} {p : Place T} → Found roll ps s i m p → m < 2 ^ roll
less_listed {s = s} {p = p} f = omega (arith, f.listed, f.less, removing_le p.waits (adding 0 s))
