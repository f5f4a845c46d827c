use Rattle.runs.proofs.Ending.{runs_end}
use Rattle.runs.proofs.runs_end.Goals as goal

pub returns : goal.returns
returns c = runs_end
