use Rattle.std.proofs.Common.{◌≡◌, ℕ, ◌<◌, length, get_or}
use Rattle.valuation.specs.declared.Value.TheVariants.{Unknown}
use Rattle.valuation.specs.Circuit.{reads}
use Rattle.valuation.specs.Reach.{where_marked}
use Rattle.circuit.proofs.reaching.force_marked.Given as goal

-- below the node all is done
abbrev pub invariant-loop-node : goal.invariant-loop-node
invariant-loop-node l =
    (length l.forced ≡ length l.initial.forced) ×
    ((k : ℕ) → k < l.node → get_or l.forced k Unknown ≡ where_marked l.marks (reads l.values) k)
