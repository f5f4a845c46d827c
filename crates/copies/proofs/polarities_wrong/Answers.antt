use Rattle.copies.proofs.Shortcuts.{polarities_wrong}
use Rattle.copies.proofs.polarities_wrong.Goals as goal

pub returns : goal.returns
returns c = polarities_wrong
