-- What a gate's record says of the circuit.
use Rattle.std.specs.Prelude.{List, map}
use Rattle.valuation.specs.Circuit.{Pair}
use Rattle.circuit.specs.declared.Gate.{Gate}

-- a gate's two literals
abbrev pub pair : Gate → Pair
pair g = record { left = g.left.code; right = g.right.code }

-- the literals of each gate
abbrev pub pairs : List Gate → List Pair
pairs gs = map pair gs

-- the gate of a free entry of a table
abbrev pub empty : Gate
empty = record { left = record { code = 0 }; right = record { code = 0 } }
