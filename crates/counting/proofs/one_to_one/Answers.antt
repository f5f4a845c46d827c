use Rattle.counting.proofs.Cases.{one_to_one}
use Rattle.counting.proofs.one_to_one.Goals as goal

pub returns : goal.returns
returns c = one_to_one
