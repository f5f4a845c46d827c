use Rattle.game.proofs.Claims.{rules_kept}
use Rattle.game.proofs.rules_kept.Goals as goal

pub returns : goal.returns
returns c = rules_kept
