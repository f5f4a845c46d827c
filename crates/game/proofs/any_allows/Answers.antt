use Rattle.game.proofs.Ends.{any_allows}
use Rattle.game.proofs.any_allows.Goals as goal

pub returns : goal.returns
returns c = any_allows
