use Rattle.std.proofs.Common.{◌≡◌, length}
use Rattle.circuit_tests.proofs.tests.kinds_agree.Given as goal

abbrev pub invariant-loop-case : goal.invariant-loop-case
invariant-loop-case l = length l.single ≡ 40
