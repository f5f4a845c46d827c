use Rattle.copies.proofs.Core.{core_marked}
use Rattle.copies.proofs.core_marked.Goals as goal

pub returns : goal.returns
returns c = core_marked
