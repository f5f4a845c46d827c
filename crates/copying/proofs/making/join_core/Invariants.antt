use Rattle.std.proofs.Common.{false, get_or}
use Rattle.valuation.specs.Circuit.{reads}
use Rattle.copies.specs.Make.{core_of}
use Rattle.copying.proofs.Joining.{SoFar}
use Rattle.copying.proofs.making.join_core.Given as goal

-- the core's literals of the nodes so far are joined
abbrev pub invariant-loop-node : goal.invariant-loop-node
invariant-loop-node l = SoFar l.initial.making l.making l.copies (core_of (λ n. get_or l.core n false) (reads l.values) l.node) l.joined
