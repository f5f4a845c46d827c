use Rattle.splitting.proofs.Trees.{splitter_keeps}
use Rattle.splitting.proofs.splitter_keeps.Goals as goal

pub returns : goal.returns
returns c = splitter_keeps
