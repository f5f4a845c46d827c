use Rattle.std.proofs.Common.{◌≡◌, false, map, get_or}
use Rattle.valuation.specs.Circuit.{reads}
use Rattle.valuation.specs.Sweep.{marked}
use Rattle.copies.specs.Copy.{opposite}
use Rattle.copies.specs.Make.{core_of}
use Rattle.copying.specs.Places.{shown}
use Rattle.copying.proofs.places.need_core.Given as goal

-- the core's literals of the nodes so far are needed
abbrev pub invariant-loop-node : goal.invariant-loop-node
invariant-loop-node l = shown l.copies ≡ marked (map opposite (core_of (λ n. get_or l.core n false) (reads l.values) l.node)) (shown l.initial.copies)
