use Rattle.runs.proofs.Sounds.{fair_runs}
use Rattle.runs.proofs.fair_runs.Goals as goal

pub returns : goal.returns
returns c = fair_runs
