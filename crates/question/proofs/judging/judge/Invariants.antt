use Rattle.std.proofs.Common.{length}
use Rattle.question.specs.Rules.{blocks_of}
use Rattle.question.proofs.Judges.{SoFar}
use Rattle.question.proofs.judging.judge.Given as goal

abbrev pub invariant-loop-block : goal.invariant-loop-block
invariant-loop-block l = SoFar l.bytes (blocks_of l.begun.prefix) l.begun.gates l.rest

abbrev pub decreases-loop-block : goal.decreases-loop-block
decreases-loop-block l = length l.rest
