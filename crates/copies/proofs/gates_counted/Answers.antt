use Rattle.copies.proofs.Counted.{gates_counted}
use Rattle.copies.proofs.gates_counted.Goals as goal

pub returns : goal.returns
returns c = gates_counted
