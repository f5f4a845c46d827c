use Rattle.std.proofs.Common.{length}
use Rattle.splitting.proofs.Listed.{Left}
use Rattle.splitter.proofs.blaming.forget.Given as goal

-- what is still seen stands in the rest of the list
abbrev pub invariant-loop-node : goal.invariant-loop-node
invariant-loop-node l = Left l.seen l.noted (length l.noted) l.node-index
