use Rattle.search.proofs.Examples.{both_outcomes}
use Rattle.search.proofs.both_outcomes.Goals as goal

pub returns : goal.returns
returns c = both_outcomes
