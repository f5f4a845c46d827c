use Rattle.std.proofs.Common.{ℕ, ◌+◌, ◌*◌, ◌<◌}
use Rattle.valuation.specs.Circuit.{gate}
use Rattle.circuit.specs.Gates.{pairs}
use Rattle.probe.proofs.ascends.Given as goal

abbrev pub invariant-loop-k : goal.invariant-loop-k
invariant-loop-k l = (k : ℕ) → k < l.k → ((gate (pairs l.gates) k).left < 2 * (l.first + k)) × ((gate (pairs l.gates) k).right < 2 * (l.first + k))
