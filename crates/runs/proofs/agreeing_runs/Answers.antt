use Rattle.runs.proofs.Alike.{agreeing_runs}
use Rattle.runs.proofs.agreeing_runs.Goals as goal

pub returns : goal.returns
returns c = agreeing_runs
