use Rattle.std.proofs.Common.{◌≡◌, ◌+◌, length, take, sym, ◌∙◌, arith}
use Rattle.std.proofs.lemmas.List.{length-map, length-take}
use Rattle.std.proofs.lemmas.Slice.{drop-append-drop}
use Rattle.valuation.proofs.Played.{all}
use Rattle.circuit.specs.Gates.{pair, pairs}
use Rattle.circuit.proofs.Circuit.work_out.Goals as goal

pub returns : goal.returns
returns c =
    let first = c.args.self.first in
    let gates = c.args.self.gates.now in
    let set : length (take first c.args.values.now) ≡ first = omega (arith, length-take first c.args.values.now, c.requires.room) in
    record {
      values = all first (length (take first c.args.values.now)) (length gates) (pairs gates) c.args.play.now c.args.unforced.now c.set_inputs.new.inputs _ c.walk.new.values
          c.args.self.ascending (first + length gates) c.requires.unforced set (omega arith) (sym (length-map gates pair)) (c.set_inputs.ensures 0 (omega arith)) (c.walk.ensures.walked 0 (omega arith));
      beyond = c.walk.ensures.beyond ∙ drop-append-drop first c.args.values.now c.set_inputs.new.inputs (first + length gates) (omega arith) (omega arith);
    }
