use Rattle.std.proofs.Common.{◌∙◌, arith}
use Rattle.std.proofs.lemmas.List.{length-set}
use Rattle.valuation.specs.Three.{or_else}
use Rattle.valuation.specs.Circuit.{reads, settings_from}
use Rattle.valuation.proofs.Walked.{filled_more, filled_all}
use Rattle.circuit.proofs.walking.set_inputs_by.Goals as goal

pub loop-node-preserved : goal.loop-node-preserved
loop-node-preserved g c = (
  length-set _ _ _ ∙ c.loop-node.invariant.0,
  λ k s h r. filled_more (λ v. g.K.Kind.at v k) (λ n. or_else (reads c.args.forced.now n) (settings_from c.args.start s n)) c.loop-node.inputs c.loop-node.node c.input_value.result
      (omega arith) (c.input_value.ensures k s h r) (c.loop-node.invariant.1 k s h r),
)

pub returns : goal.returns
returns g c = λ k s h r.
    filled_all (λ v. g.K.Kind.at v k) (λ n. or_else (reads c.args.forced.now n) (settings_from c.args.start s n)) c.loop-node.inputs c.loop-node.node _
    (omega arith) (omega arith) (c.loop-node.invariant.1 k s h r)
