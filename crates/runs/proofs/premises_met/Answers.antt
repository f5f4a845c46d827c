use Rattle.runs.proofs.Premises.{premises_met}
use Rattle.runs.proofs.premises_met.Goals as goal

pub returns : goal.returns
returns c = premises_met
