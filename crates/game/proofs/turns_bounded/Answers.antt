use Rattle.game.proofs.Claims.{turns_bounded}
use Rattle.game.proofs.turns_bounded.Goals as goal

pub returns : goal.returns
returns c = turns_bounded
