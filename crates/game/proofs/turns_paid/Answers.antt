use Rattle.game.proofs.Claims.{turns_paid}
use Rattle.game.proofs.turns_paid.Goals as goal

pub returns : goal.returns
returns c = turns_paid
