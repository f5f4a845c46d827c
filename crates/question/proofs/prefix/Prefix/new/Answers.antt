use Rattle.std.proofs.Common.{refl, arith}
use Rattle.question.specs.Blocks.{total}
use Rattle.question.proofs.prefix.Prefix.new.Goals as goal

pub invariant_of-result : goal.invariant_of-result
unfolding total
invariant_of-result c = record { few = omega arith; summed = refl; small = omega arith }
