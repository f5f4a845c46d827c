use Rattle.splitting.proofs.Blamed.{blame_keeps}
use Rattle.splitting.proofs.blame_keeps.Goals as goal

pub returns : goal.returns
returns c = blame_keeps
