use Rattle.copies.proofs.Core.{core_same}
use Rattle.copies.proofs.core_same.Goals as goal

pub returns : goal.returns
returns c = core_same
