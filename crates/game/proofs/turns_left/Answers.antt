use Rattle.game.proofs.Claims.{turns_left}
use Rattle.game.proofs.turns_left.Goals as goal

pub returns : goal.returns
returns c = turns_left
