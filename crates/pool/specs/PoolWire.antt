-- The lines of a wire that keeps each frame once. Assumes nothing.
use Rattle.std.specs.Prelude.{vec_items}
use Rattle.wires.specs.Lines.{Lines}
use Rattle.pool.specs.declared.pool_wire.PoolWire.{PoolWire}
use Rattle.pool.specs.Pool.{line_of}

abbrev pub pool_lines : {T : Type 0} → PoolWire T → Lines T
pool_lines w = record { roll = w.roll; at = λ s. line_of s (vec_items w.pool) }
