-- Lending the station in a place. Assumes nothing.
use Rattle.std.specs.Prelude.{ℕ, Result}
use Rattle.std.specs.Borrow.{LendsIfOk, MutBor, Fml, RattleType}
use Rattle.std.specs.Vec.{with_item}
use Rattle.std.specs.declared.alloc.Allocator.{Ghosts}
use Rattle.std.specs.declared.vec.Vec.{Vec}
use Rattle.std.specs.contracts.vec.Vec.{the_row}
use Rattle.protocol.specs.declared.refusal.Refusal.{Refusal}

module _ (T A : RattleType) (heap : Ghosts A.Denot) (v : MutBor (Vec T.Denot A.Denot)) where
  -- the list ends with what r ends as in place i; it stays where r is a refusal
  abbrev pub LendsSeat : ℕ → Result (MutBor T.Denot) Refusal → Fml
  LendsSeat i r = LendsIfOk (the_row T A heap) T v r (with_item v.now i) v.now
