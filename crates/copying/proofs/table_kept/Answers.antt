use Rattle.copying.proofs.Kept.{table_kept}
use Rattle.copying.proofs.table_kept.Goals as goal

pub returns : goal.returns
returns c = table_kept
