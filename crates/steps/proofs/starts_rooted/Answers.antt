use Rattle.steps.proofs.Started.{starts_rooted}
use Rattle.steps.proofs.starts_rooted.Goals as goal

pub returns : goal.returns
returns c = starts_rooted
