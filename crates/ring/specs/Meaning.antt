-- What a ring in memory means, by what its wire, its books and its voting rule mean. Assumes nothing.
use Rattle.std.specs.Prelude.{ℕ, Bool, map, vec_items}
use Rattle.protocol.specs.declared.note.Note.{Note}
use Rattle.protocol.specs.declared.frame.Frame.{Frame}
use Rattle.wires.specs.Lines.{Lines}
use Rattle.station.specs.Meaning.{model}
use Rattle.runs.specs.Rings.{Rules, Ring as Rings}
use Rattle.ring.specs.declared.ring.Ring.{Ring}

module _ {W B R S : Type 0} where
  -- its stations, its lines and the next turn
  abbrev pub meaning : (B → S) → (W → Lines Frame) → Ring W B R → Rings S
  meaning means lines r = record { stations = map (model means) (vec_items r.stations); lines = lines r.wire; turn = r.turn }

  -- the rules that it goes by
  abbrev pub ruling : (R → ℕ) → (R → ℕ → Bool) → (S → Note → S) → Ring W B R → Rules S
  ruling size votes next r = record { size = size r.rule; vote = votes r.rule; next = next }
