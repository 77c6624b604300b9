-- An answer that is there or not.
use Rattle.std.proofs.Common.{Some, None, MatchOption, Option}

-- what follows in each case
pub on_each : {T : Type 0} (o : Option T) {P R : Type 0} {Q S : T → Type 0} → (P → R) → ((x : T) → Q x → S x) → MatchOption o P Q → MatchOption o R S
on_each None f g h = f h
on_each (Some x) f g h = g x h
