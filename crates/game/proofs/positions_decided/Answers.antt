use Rattle.game.proofs.Strategies.{positions_decided}
use Rattle.game.proofs.positions_decided.Goals as goal

pub returns : goal.returns
returns c = positions_decided
