use Rattle.halving.proofs.Halved.{halves_keep}
use Rattle.halving.proofs.halves_keep.Goals as goal

pub returns : goal.returns
returns c = halves_keep
