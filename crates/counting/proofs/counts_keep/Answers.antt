use Rattle.counting.proofs.Kept.{counts_keep}
use Rattle.counting.proofs.counts_keep.Goals as goal

pub returns : goal.returns
returns c = counts_keep
