use Rattle.std.proofs.Common.{◌≡◌, ◌+◌, ◌≤◌, length, take}
use Rattle.valuation.specs.Circuit.{reads}
use Rattle.valuation.specs.Sweep.{sweep}
use Rattle.valuation.specs.Reach.{leads}
use Rattle.circuit.specs.Gates.{pairs}
use Rattle.circuit.proofs.Circuit.mark_reached.Given as goal

-- the gates that are left are the first ones, and their sweep gives the same marks
abbrev pub invariant-loop-k : goal.invariant-loop-k
invariant-loop-k l =
    let left = l.k-iterator.iter.iter.rest.now in
    let L = leads l.self.first (pairs l.self.gates.now) (reads l.values) in
    (l.k-iterator.iter.count ≡ 0) ×
    (length left ≤ length l.self.gates.now) ×
    (left ≡ take (length left) l.self.gates.now) ×
    (sweep L (l.self.first + length left) l.marks ≡ sweep L (l.self.first + length l.initial.k-iterator.iter.iter.rest.now) l.initial.marks)
