use Rattle.game.proofs.Claims.{grants_suffice}
use Rattle.game.proofs.grants_suffice.Goals as goal

pub returns : goal.returns
returns c = grants_suffice
