-- Looking for the wish to serve. Assumes nothing.
use Rattle.std.proofs.Common.{◌≡◌, ℕ, suc, ◌+◌, ◌-◌, ◌<◌, ◌≤◌, Bool, true, false, cond, ◌||◌, eqb, List, [], ◌∷◌, Some, None, Option, sym, refl, ap, ◌∙◌, arith}
use Rattle.std.specs.List.{list_any}
use Rattle.std.specs.Option.{is_some}
use Rattle.vote.specs.Mask.{has}
use Rattle.journal.specs.Core.{Core}
use Rattle.journal.specs.Peers.{peer_at}
use Rattle.journal.specs.Settle.{view}
use Rattle.journal.specs.declared.peer.Peer.{Peer}
use Rattle.turning.specs.Round.{around, count_back, count_on, going_back, going_on}
use Rattle.turning.specs.Steps.{any_wish, stands, asked, chosen, first_is, served, tried}

is_wish : (o : Option (ℕ × ℕ)) → is_some o ≡ stands o
is_wish None = refl
is_wish (Some e) = refl

pub any_stands : (ps : List Peer) → list_any (λ (p : Peer). is_some p.wish) ps ≡ any_wish ps
unfolding any_wish
any_stands [] = refl
any_stands (p ∷ ps) = rw (is_wish p.wish, any_stands ps) (or_cond (stands p.wish) (any_wish ps))
  where
    or_cond : (a b : Bool) → (a || b) ≡ cond a true b
    or_cond true b = refl
    or_cond false b = refl

module _ (n s v : ℕ) where
  -- is s the first member, of the stations after r from the k-th on?
  abbrev pub on : ℕ → ℕ → Bool
  on r k = first_is v s (count_on n r (n - k))

  on_suc : (r k : ℕ) → first_is v s (count_on n r (suc k)) ≡ cond (has v (around n r (n - suc k))) (eqb (around n r (n - suc k)) s) (first_is v s (count_on n r k))
  unfolding first_is count_on
  on_suc r k = refl

  on_step : (r k x : ℕ) → k < n → x ≡ around n r k → on r k ≡ cond (has v x) (eqb x s) (on r (k + 1))
  on_step r k x h e =
      let z : n - k ≡ suc (n - (k + 1)) = omega arith in
      let y : n - suc (n - (k + 1)) ≡ k = omega arith in
      ap (λ i. first_is v s (count_on n r i)) z ∙ on_suc r (n - (k + 1))
      ∙ ap (λ i. cond (has v (around n r i)) (eqb (around n r i) s) (on r (k + 1))) y
      ∙ ap (λ i. cond (has v i) (eqb i s) (on r (k + 1))) (sym e)

  pub on_past : (r k x : ℕ) → k < n → x ≡ around n r k → false ≡ has v x → on r (k + 1) ≡ on r k
  on_past r k x h e out = sym (on_step r k x h e ∙ ap (λ (b : Bool). cond b (eqb x s) (on r (k + 1))) (sym out))

  pub on_met : (r k x : ℕ) → k < n → x ≡ around n r k → true ≡ has v x → on r k ≡ eqb x s
  on_met r k x h e held = on_step r k x h e ∙ ap (λ (b : Bool). cond b (eqb x s) (on r (k + 1))) (sym held)

  pub on_none : (r k : ℕ) → n ≤ k → on r k ≡ false
  unfolding first_is count_on
  on_none r k h = let z : n - k ≡ 0 = omega arith in rw z

module _ (v : ℕ) (m : Core) where
  -- the wish to serve among the last k stations going back
  abbrev pub look : ℕ → Option (ℕ × ℕ)
  look k = served v m (count_back m.roll m.me k)

  pub look_none : (k : ℕ) → k ≡ 0 → look k ≡ None
  unfolding served count_back
  look_none k z = rw z

  look_suc : (k : ℕ) → look (suc k) ≡ tried v m (around m.roll m.me (suc k)) (asked m.journal (peer_at m.peers (around m.roll m.me (suc k))).wish) (look k)
  unfolding served count_back
  look_suc k = refl

  look_step : (k r : ℕ) (a : Option ℕ) → 0 < k → r ≡ around m.roll m.me k → a ≡ asked m.journal (peer_at m.peers r).wish
      → look k ≡ tried v m r a (look (k - 1))
  look_step k r a some e ea =
      let z : k ≡ suc (k - 1) = omega arith in
      let w : r ≡ around m.roll m.me (suc (k - 1)) = e ∙ ap (around m.roll m.me) z in
      ap look z ∙ look_suc (k - 1)
      ∙ ap (λ x. tried v m x (asked m.journal (peer_at m.peers x).wish) (look (k - 1))) (sym w)
      ∙ ap (λ (x : Option ℕ). tried v m r x (look (k - 1))) (sym ea)

  pub look_past : (k r : ℕ) → 0 < k → r ≡ around m.roll m.me k → None ≡ asked m.journal (peer_at m.peers r).wish → look (k - 1) ≡ look k
  look_past k r some e ea = sym (look_step k r None some e ea)

  pub look_other : (k r p : ℕ) → 0 < k → r ≡ around m.roll m.me k → Some p ≡ asked m.journal (peer_at m.peers r).wish
      → first_is v m.me (going_on m.roll r) ≡ false → look (k - 1) ≡ look k
  look_other k r p some e ea f = sym (look_step k r (Some p) some e ea ∙ ap (λ (b : Bool). cond b (Some (r, p)) (look (k - 1))) f)

  pub look_found : (k r p : ℕ) → 0 < k → r ≡ around m.roll m.me k → Some p ≡ asked m.journal (peer_at m.peers r).wish
      → first_is v m.me (going_on m.roll r) ≡ true → Some (r, p) ≡ look k
  look_found k r p some e ea f = sym (look_step k r (Some p) some e ea ∙ ap (λ (b : Bool). cond b (Some (r, p)) (look (k - 1))) f)

pub chosen_none : (m : Core) → false ≡ any_wish m.peers → None ≡ chosen m
unfolding chosen
chosen_none m e = ap (λ (b : Bool). cond b (served (view m) m (going_back m.roll m.me)) None) e

pub chosen_look : (m : Core) (v : ℕ) → true ≡ any_wish m.peers → v ≡ view m → look v m (m.roll - 1) ≡ chosen m
unfolding chosen
chosen_look m v e ev =
    ap (λ x. served x m (going_back m.roll m.me)) ev
    ∙ ap (λ (b : Bool). cond b (served (view m) m (going_back m.roll m.me)) None) e
