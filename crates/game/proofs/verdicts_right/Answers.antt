use Rattle.game.proofs.Claims.{verdicts_right}
use Rattle.game.proofs.verdicts_right.Goals as goal

pub returns : goal.returns
returns c = verdicts_right
