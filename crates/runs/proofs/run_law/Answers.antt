use Rattle.runs.proofs.Told.{run_law}
use Rattle.runs.proofs.run_law.Goals as goal

pub returns : goal.returns
returns c = run_law
