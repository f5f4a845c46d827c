use Rattle.copies.proofs.Right.{root_value}
use Rattle.copies.proofs.root_value.Goals as goal

pub returns : goal.returns
returns c = root_value
