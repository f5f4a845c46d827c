use Rattle.game.proofs.Claims.{turns_counted}
use Rattle.game.proofs.turns_counted.Goals as goal

pub returns : goal.returns
returns c = turns_counted
