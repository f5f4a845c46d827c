use Rattle.valuation.specs.declared.Value.TheVariants.{Unknown}
use Rattle.std.proofs.Common.{◌≡◌, ◌+◌, length, sym, refl, ap, ◌∙◌, ap₂, arith}
use Rattle.std.proofs.lemmas.List.{length-map, get_or-take}
use Rattle.valuation.specs.Circuit.{nothing, reads, settings_from, node_values}
use Rattle.circuit.specs.Gates.{pair, pairs}
use Rattle.probe.proofs.is_sound.Goals as goal

pub returns : goal.returns
returns c = λ yes'.
    let w = c.within.ensures c.if-not-within.false in
    let count = length-map c.args.ask.gates.now pair in
    let of = c.circuit.ensures in
    let size = c.circuit.result.first + length c.circuit.result.gates.now in
    let same : length c.circuit.result.gates.now ≡ length c.args.ask.gates.now = ap length of.gates in
    let play = settings_from 1 c.args.play.now in
    record {
      few_variables = w.0;
      few_gates = omega (arith, w.1);
      ascending = c.ascends.ensures c.if-not-ascends.false;
      rooted = omega (arith, c.node.ensures, c.if-node-nodes.false);
      covered = omega (arith, c.if-forced-nodes.false);
      variable = w.2;
      inside = w.3;
      few_free = w.4;
      play = play;
      witness = record {
        constant = refl;
        unset = c.leaves_unset.ensures c.if-not-leaves_unset.false;
        gives = λ n lt known.
            ap₂ (λ k gs. reads (node_values k (pairs gs) nothing play) n) (sym of.first) (sym of.gates) ∙ sym (ap (λ xs. reads xs n) c.work_out.ensures.values)
            ∙ get_or-take size c.work_out.new.values n Unknown (omega arith) ∙ c.gives.ensures yes' n (omega arith) known;
      };
    }
