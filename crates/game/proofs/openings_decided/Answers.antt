use Rattle.game.proofs.Strategies.{openings_decided}
use Rattle.game.proofs.openings_decided.Goals as goal

pub returns : goal.returns
returns c = openings_decided
