use Rattle.splitting.proofs.Covers.{no_move_refutes}
use Rattle.splitting.proofs.no_move_refutes.Goals as goal

pub returns : goal.returns
returns c = no_move_refutes
