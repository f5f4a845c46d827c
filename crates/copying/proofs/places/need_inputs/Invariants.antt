use Rattle.std.proofs.Common.{◌≡◌, ◌*◌, ◌≤◌, length}
use Rattle.valuation.specs.Sweep.{sweep}
use Rattle.circuit.specs.Gates.{pairs}
use Rattle.copies.specs.Make.{needs}
use Rattle.copying.specs.Places.{shown}
use Rattle.copying.proofs.places.need_inputs.Given as goal

-- what is left of the sweep gives the same marks
abbrev pub invariant-loop-number : goal.invariant-loop-number
invariant-loop-number l =
    (l.number ≤ 2 * length l.copies) ×
    (sweep (needs l.circuit.first (pairs l.circuit.gates.now)) l.number (shown l.copies) ≡ sweep (needs l.circuit.first (pairs l.circuit.gates.now)) (2 * length l.initial.copies) (shown l.initial.copies))
