use Rattle.game.proofs.Claims.{openings_win}
use Rattle.game.proofs.openings_win.Goals as goal

pub returns : goal.returns
returns c = openings_win
