use Rattle.std.proofs.Common.{false, rules}
use Rattle.std.proofs.lemmas.List.{get_or-replicate}
use Rattle.circuit_tests.proofs.tests.reaching_holds.Goals as goal

pub mark_reached-requires-clause-clear : goal.mark_reached-requires-clause-clear
mark_reached-requires-clause-clear c = λ n h. get_or-replicate 40 n false false (search rules)
