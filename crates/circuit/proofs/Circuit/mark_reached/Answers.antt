use Rattle.std.proofs.Common.{◌≡◌, suc, ◌+◌, ◌-◌, ◌/◌, ◌≤◌, true, length, set, sym, ap, ◌∙◌, inl, inr, arith, rules}
use Rattle.std.proofs.lemmas.List.{length-set, length-take-le}
use Rattle.valuation.specs.Circuit.{reads}
use Rattle.valuation.specs.Sweep.{marked, sweep}
use Rattle.valuation.specs.Reach.{inputs_of, leads}
use Rattle.valuation.proofs.Reaching.{sweep_inputs, sweep_gate, sweep_past}
use Rattle.circuit.specs.Gates.{pair, pairs}
use Rattle.circuit.proofs.Records.{pair_at, reads_below, reach_marked, taken_back}
use Rattle.circuit.proofs.Circuit.mark_reached.Goals as goal
use Rattle.circuit.proofs.Circuit.mark_reached.Goals.{else-marks-node-via-then-marks-node+else-eq, else-marks-node-via-else-marks-node}

pub mark_inputs-requires : goal.mark_inputs-requires
mark_inputs-requires c =
    let gates = c.args.self.gates.now in
    let k = length c.next.new.self.iter.iter.rest.now in
    let s = c.in-Some.ensures.steps in
    let i = c.loop-k.invariant in
    let b = taken_back gates _ _ _ s.1.0 i.1 i.2 in
    let n : c.args.self.first + k ≤ length c.loop-k.marks = omega (arith, length-set c.args.marks.now c.node.result true) in
    let p = rw (sym b.last) at (reads_below gates c.args.self.first k _ c.in-Some.gate.now c.args.self.ascending (omega arith) n) in
    record { left = p.0; right = p.1 }

pub loop-k-preserved-then-eq : goal.loop-k-preserved-then-eq
loop-k-preserved-then-eq c =
    let gates = c.args.self.gates.now in
    let first = c.args.self.first in
    let k = length c.next.new.self.iter.iter.rest.now in
    let L = leads first (pairs gates) (reads c.args.values.now) in
    let s = c.in-Some.ensures.steps in
    let i = c.loop-k.invariant in
    let b = taken_back gates _ _ _ s.1.0 i.1 i.2 in
    let n : first + length c.loop-k.k-iterator.iter.iter.rest.now ≡ suc (first + k) = omega arith in (
      s.0 ∙ i.0,
      omega arith,
      b.kept_first,
      ap (sweep L (first + k)) (c.mark_inputs.ensures ∙ ap (λ g. marked (inputs_of g) c.loop-k.marks) (ap pair b.last ∙ sym (pair_at gates k _ (omega arith))))
          ∙ sweep_gate first (pairs gates) (reads c.args.values.now) k c.loop-k.marks _ n (let h = c.if-marks-node.true in search rules) (let h = c.if-eq.ensures in search rules)
          ∙ i.3,
    )

pub loop-k-preserved : goal.loop-k-preserved
loop-k-preserved c =
    let gates = c.args.self.gates.now in
    let first = c.args.self.first in
    let k = length c.next.new.self.iter.iter.rest.now in
    let s = c.in-Some.ensures.steps in
    let i = c.loop-k.invariant in
    let b = taken_back gates _ _ _ s.1.0 i.1 i.2 in
    let n : first + length c.loop-k.k-iterator.iter.iter.rest.now ≡ suc (first + k) = omega arith in (
      s.0 ∙ i.0,
      omega arith,
      b.kept_first,
      sweep_past first (pairs gates) (reads c.args.values.now) k c.loop-k.marks _ n
          (elim c.else-marks-node.branch [
            | else-marks-node-via-then-marks-node+else-eq w ↦ inr (let h = w.if-eq.ensures in search rules)
            | else-marks-node-via-else-marks-node w ↦ inl (let h = w.if-marks-node.false in search rules)
          ])
          ∙ i.3,
    )

pub returns : goal.returns
returns c =
    let first = c.args.self.first in
    let gates = c.args.self.gates.now in
    let L = leads first (pairs gates) (reads c.args.values.now) in
    let start = c.args.root.code / 2 + 1 - first in
    let end : first ≡ first + length c.loop-k.k-iterator.iter.iter.rest.now = omega (arith, c.in-None.ensures.steps.1) in
    sym (sweep_inputs first (pairs gates) (reads c.args.values.now) c.loop-k.marks)
    ∙ ap (λ n. sweep L n c.loop-k.marks) end
    ∙ c.loop-k.invariant.3
    ∙ ap (λ n. sweep L (first + n) (set c.args.marks.now c.node.result true)) ((search rules) ∙ length-take-le start gates (omega arith))
    ∙ ap (λ r. sweep L (first + start) (set c.args.marks.now r true)) c.node.ensures
    ∙ reach_marked first gates (reads c.args.values.now) c.args.marks.now (c.args.root.code / 2) (first + start)
    c.args.self.ascending c.requires.inside c.requires.room c.requires.clear (omega arith) (omega arith) (omega arith)
