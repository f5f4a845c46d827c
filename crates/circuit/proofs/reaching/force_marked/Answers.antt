use Rattle.std.proofs.Common.{length, arith}
use Rattle.std.proofs.lemmas.List.FromFn.{fill_by_all}
use Rattle.valuation.specs.declared.Value.TheVariants.{Unknown}
use Rattle.valuation.specs.Circuit.{reads}
use Rattle.valuation.specs.Reach.{where_marked}
use Rattle.circuit.proofs.reaching.force_marked.Goals as goal

pub returns-clause-forced : goal.returns-clause-forced
returns-clause-forced c =
    fill_by_all (where_marked c.args.marks.now (reads c.args.values.now)) c.loop-node.forced (length c.args.marks.now) Unknown (omega arith) (λ k h. c.loop-node.invariant.1 k (omega arith))
