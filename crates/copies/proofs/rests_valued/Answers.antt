use Rattle.copies.proofs.Rested.{rests_valued}
use Rattle.copies.proofs.rests_valued.Goals as goal

pub returns : goal.returns
returns c = rests_valued
