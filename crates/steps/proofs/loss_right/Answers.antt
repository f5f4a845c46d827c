use Rattle.steps.proofs.Stepped.{loss_right}
use Rattle.steps.proofs.loss_right.Goals as goal

pub returns : goal.returns
returns c = loss_right
