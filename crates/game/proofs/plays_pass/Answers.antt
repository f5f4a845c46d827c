use Rattle.game.proofs.Claims.{plays_pass}
use Rattle.game.proofs.plays_pass.Goals as goal

pub returns : goal.returns
returns c = plays_pass
