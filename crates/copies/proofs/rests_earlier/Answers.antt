use Rattle.copies.proofs.Rested.{rests_earlier}
use Rattle.copies.proofs.rests_earlier.Goals as goal

pub returns : goal.returns
returns c = rests_earlier
