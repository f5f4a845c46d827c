use Rattle.copies.proofs.Shortcuts.{ones_wrong}
use Rattle.copies.proofs.ones_wrong.Goals as goal

pub returns : goal.returns
returns c = ones_wrong
