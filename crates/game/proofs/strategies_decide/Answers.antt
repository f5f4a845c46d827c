use Rattle.game.proofs.Strategies.{strategies_decide}
use Rattle.game.proofs.strategies_decide.Goals as goal

pub returns : goal.returns
returns c = strategies_decide
