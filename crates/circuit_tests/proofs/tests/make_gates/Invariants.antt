use Rattle.std.proofs.Common.{ℕ, ◌+◌, ◌*◌, ◌<◌}
use Rattle.valuation.specs.Circuit.{gate}
use Rattle.circuit.specs.Gates.{pairs}
use Rattle.circuit_tests.proofs.tests.make_gates.Given as goal

-- the gates so far ascend
abbrev pub invariant-loop-k : goal.invariant-loop-k
invariant-loop-k l = (j : ℕ) → j < l.k → ((gate (pairs l.gates) j).left < 2 * (l.first + j)) × ((gate (pairs l.gates) j).right < 2 * (l.first + j))
