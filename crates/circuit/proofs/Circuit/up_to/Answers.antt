use Rattle.std.proofs.Common.{sym, subst, arith}
use Rattle.std.proofs.lemmas.List.{length-take}
use Rattle.valuation.specs.Circuit.{Ascending}
use Rattle.valuation.proofs.Nodes.{ascending_take}
use Rattle.circuit.proofs.Records.{pairs_take}
use Rattle.circuit.proofs.Circuit.up_to.Goals as goal

pub invariant_of-result : goal.invariant_of-result
invariant_of-result c = record {
  ascending = subst (Ascending c.args.self.first) (sym (pairs_take _ c.args.self.gates.now)) (ascending_take c.args.self.first _ _ c.args.self.ascending);
  countable = simp length-take (omega arith);
}
