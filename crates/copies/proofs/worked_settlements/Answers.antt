use Rattle.copies.proofs.Shortcuts.{worked_settlements}
use Rattle.copies.proofs.worked_settlements.Goals as goal

pub returns : goal.returns
returns c = worked_settlements
