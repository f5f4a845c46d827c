-- The query that code puts: V, gates, root and start by `ask`, the forced list, and how many variables the range has.
use Rattle.std.specs.Prelude.{ℕ, List}
use Rattle.valuation.specs.declared.Value.{Value}
use Rattle.circuit.specs.Gates.{pairs}
use Rattle.search.specs.declared.Ask.{Ask}
use Rattle.search.specs.Queries.{Query}

abbrev pub asked : Ask → List Value → ℕ → Query
asked a forced free = record { variables = a.variables; gates = pairs a.gates.now; root = a.root.code; start = a.start; forced = forced; free = free }
