use Rattle.steps.proofs.Bits.{plays_set}
use Rattle.steps.proofs.plays_set.Goals as goal

pub returns : goal.returns
returns c = plays_set
