use Rattle.std.proofs.Common.{◌≤◌, length, arith}
use Rattle.valuation.specs.Circuit.{reads}
use Rattle.circuit.proofs.Stops.{length_walked, walked_up_to, literal_walked}
use Rattle.circuit.proofs.Circuit.evaluate.Goals as goal

pub returns : goal.returns
returns g c =
    let gates = c.args.self.gates.now in
    let first = c.args.self.first in
    let l = c.args.literal.code in
    let room : first ≤ length c.args.values.now = omega arith in
    let walked = rw (c.up_to.ensures.first, c.up_to.ensures.gates) at c.walk.ensures.walked in
    let long = length_walked gates first l c.requires.inside in
    record {
      value = λ k h. literal_walked gates first l c.requires.inside (λ v. g.K.Kind.at v k) (reads c.args.forced.now) c.args.values.now c.walk.new.values room
          (walked k h) (g.K.Kind.at c.literal_value.result k) (c.literal_value.ensures k h);
      walked = λ k h. walked_up_to gates first l c.requires.inside (λ v. g.K.Kind.at v k) (reads c.args.forced.now) c.args.values.now c.walk.new.values room (walked k h);
      inputs = rw c.up_to.ensures.first at c.walk.ensures.inputs;
      beyond = rw (c.up_to.ensures.first, c.up_to.ensures.gates, long) at c.walk.ensures.beyond;
    }
