use Rattle.steps.proofs.Stepped.{move_right}
use Rattle.steps.proofs.move_right.Goals as goal

pub returns : goal.returns
returns c = move_right
