use Rattle.game.proofs.Claims.{refutations_sound}
use Rattle.game.proofs.refutations_sound.Goals as goal

pub returns : goal.returns
returns c = refutations_sound
