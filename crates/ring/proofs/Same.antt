-- A list of stations and a ring are what they keep: the facts beside it make no difference. Assumes nothing.
use Rattle.std.proofs.Common.{◌≡◌, ℕ, zero, suc, ◌≤◌, List, [], ◌∷◌, length, get_or, set, vec_len, Vec, refl, ap, ◌∙◌}
use mathlib.Core.HLevel.{is_prop→PathP}
use native.Mathlib.Bridge.{le_prop}
use native.Mathlib.Nat.{ℕ_set}
use Rattle.std.specs.Vec.{with_item}
use Rattle.protocol.specs.Limits.{max_stations}
use Rattle.station.specs.declared.station.Station.{Station}
use Rattle.ring.specs.declared.ring.Ring.{Ring}

set_same : {X : Type 0} (xs : List X) (s : ℕ) (x : X) → x ≡ get_or xs s x → set xs s x ≡ xs
set_same [] s x e = refl
set_same (y ∷ xs) zero x e = ap (λ z. z ∷ xs) e
set_same (y ∷ xs) (suc s) x e = ap (λ l. y ∷ l) (set_same xs s x e)

-- an item written over by itself
pub same_items : {X Z : Type 0} (v : Vec X Z) (s : ℕ) (x y : X) → x ≡ get_or v.items s x → y ≡ x → with_item v s y ≡ v
same_items v s x y e f i = record {
  ptr = v.ptr;
  len = v.len;
  cap = v.cap;
  alloc = v.alloc;
  items = all i;
  ok = (is_prop→PathP (λ k. v.len ≡ length (all k)) (λ k. ℕ_set _ _) (with_item v s y).ok.0 v.ok.0 i, v.ok.1);
  small = v.small;
}
  where
    all : set v.items s y ≡ v.items
    all = ap (λ z. set v.items s z) f ∙ set_same v.items s x e

pub same_ring : {W B R : Type 0} (v : Ring W B R) (xs : Vec (Station B) _) (w : W) (p : vec_len xs ≤ max_stations) (q : 1 ≤ v.turn) → xs ≡ v.stations → w ≡ v.wire →
    ◌≡◌ {A = Ring W B R} (record { stations = xs; wire = w; rule = v.rule; turn = v.turn; few = p; begun = q }) v
same_ring v xs w p q d e i = record {
  stations = d i;
  wire = e i;
  rule = v.rule;
  turn = v.turn;
  few = is_prop→PathP (λ k. vec_len (d k) ≤ max_stations) (λ k. le_prop) p v.few i;
  begun = le_prop q v.begun i;
}
