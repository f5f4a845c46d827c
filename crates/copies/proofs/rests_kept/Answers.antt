use Rattle.copies.proofs.Rested.{rests_kept}
use Rattle.copies.proofs.rests_kept.Goals as goal

pub returns : goal.returns
returns c = rests_kept
