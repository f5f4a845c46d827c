use Rattle.std.proofs.Common.{◌-◌, ◌/◌, ◌<◌, length, get_or}
use Rattle.search.specs.declared.TheConstants.{NODES}
use Rattle.valuation.specs.Circuit.{reads}
use Rattle.circuit.specs.Gates.{pairs}
use Rattle.splitting.proofs.Marking.{Blaming}
use Rattle.splitter.proofs.blaming.Blame.mark.Given as goal

-- the next node is one of the circuit, and the nodes so far are gone through
abbrev pub invariant-loop-done : goal.invariant-loop-done
invariant-loop-done l =
    (l.done < length l.self.order.items → get_or l.self.order.items l.done 0 < length l.forced) ×
    Blaming l.circuit.first (pairs l.circuit.gates.now) (reads l.forced) (reads l.values) (l.fn.root.code / 2) l.initial.marks l.marks l.self.order.items l.done

abbrev pub decreases-loop-done : goal.decreases-loop-done
decreases-loop-done l = NODES - l.done
