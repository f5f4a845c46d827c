use Rattle.std.proofs.Common.{length, arith}
use Rattle.splitting.proofs.Listed.{left_more, left_none}
use Rattle.splitter.proofs.blaming.forget.Goals as goal

pub loop-node-preserved : goal.loop-node-preserved
loop-node-preserved c = left_more c.loop-node.seen c.args.noted.now (length c.args.noted.now) c.loop-node.node-index c.loop-node.invariant

pub returns : goal.returns
returns c =
    left_none c.loop-node.seen c.args.noted.now (length c.args.noted.now) c.loop-node.node-index (length c.args.seen.now) (omega arith) (omega arith) c.loop-node.invariant
