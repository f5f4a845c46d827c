use Rattle.std.proofs.Common.{ℕ, ◌<◌, get_or}
use Rattle.circuit.specs.Gates.{empty}
use Rattle.question.specs.Loading.{Entry}
use Rattle.question.proofs.loading.fill.Given as goal

abbrev pub invariant-loop-k : goal.invariant-loop-k
invariant-loop-k l = (k : ℕ) → k < l.k → Entry l.records l.gates k (get_or l.table k empty)
