use Rattle.game.proofs.Prefix.{last_level}
use Rattle.game.proofs.last_level.Goals as goal

pub returns : goal.returns
returns c = last_level
