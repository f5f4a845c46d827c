use Rattle.valuation.proofs.Witness.{core_more}
use Rattle.valuation.proofs.core_more.Goals as goal

pub returns : goal.returns
returns c = core_more
