use Rattle.std.proofs.Common.{◌≡◌, suc, ◌+◌, ◌-◌, ◌/◌, ◌<◌, true, length, set, is_some, sym, refl, ap, ◌∙◌, ap₂, arith}
use Rattle.circuit.specs.Gates.{pairs}
use Rattle.valuation.specs.Sweep.{sweep}
use Rattle.copies.specs.Make.{needs}
use Rattle.copies.proofs.Passes.{sweep_past, sweep_inputs}
use Rattle.copying.specs.Places.{shown}
use Rattle.copying.proofs.Held.{shown_read}
use Rattle.copying.proofs.Down.{right_low, both_needed}
use Rattle.copying.proofs.places.need_inputs.Goals as goal

pub need-requires-then-is_some : goal.need-requires-then-is_some
need-requires-then-is_some c =
    let x : c.flipped_by-then-is_some.result.code / 2 < c.args.circuit.first + length c.args.circuit.gates.now =
    right_low c.args.circuit.first c.args.circuit.gates.now _ c.place_at-place.result.code (c.node-then-is_some.result - c.args.circuit.first) (omega arith) (omega arith) (omega arith) c.args.circuit.ascending
    c.right.result.code c.flipped_by-then-is_some.result.code c.right.ensures c.flipped_by-then-is_some.ensures in
    omega arith

pub loop-number-preserved-then-is_some : goal.loop-number-preserved-then-is_some
loop-number-preserved-then-is_some c =
    let cs = c.loop-number.copies in
    let i = c.place_at-place.result.code in
    let s : c.loop-number.number ≡ suc i = omega arith in
    let t = sym (shown_read cs i i c.node.result (omega arith) refl c.node.ensures) ∙ ap is_some (sym c.at.ensures) ∙ sym c.is_some.ensures ∙ c.if-is_some.true in (
      omega arith,
      ap₂ (sweep (needs c.args.circuit.first (pairs c.args.circuit.gates.now))) (sym c.place_at-place.ensures)
          (c.need-then-is_some.ensures ∙ ap (λ ms. set ms c.flipped_by-then-is_some.result.code true) c.need.ensures)
          ∙ both_needed c.args.circuit.first c.args.circuit.gates.now _ i (c.node-then-is_some.result - c.args.circuit.first) (omega arith) (omega arith) (omega arith) c.args.circuit.ascending
          c.loop-number.number (shown cs) c.left.result.code c.right.result.code c.flipped_by.result.code c.flipped_by-then-is_some.result.code s
          c.left.ensures c.flipped_by.ensures c.right.ensures c.flipped_by-then-is_some.ensures t
          ∙ c.loop-number.invariant.1,
    )

pub loop-number-preserved : goal.loop-number-preserved
loop-number-preserved c =
    let cs = c.loop-number.copies in
    let i = c.place_at-place.result.code in
    let s : c.loop-number.number ≡ suc i = omega arith in
    let t = sym (shown_read cs i i c.node.result (omega arith) refl c.node.ensures) ∙ ap is_some (sym c.at.ensures) ∙ sym c.is_some.ensures ∙ c.if-is_some.false in (
      omega arith,
      ap (λ n. sweep (needs c.args.circuit.first (pairs c.args.circuit.gates.now)) n (shown cs)) (sym c.place_at-place.ensures)
          ∙ sweep_past c.args.circuit.first (pairs c.args.circuit.gates.now) i c.loop-number.number (shown cs) s t ∙ c.loop-number.invariant.1,
    )

pub returns : goal.returns
returns c = sym (sweep_inputs c.args.circuit.first (pairs c.args.circuit.gates.now) c.loop-number.number (shown c.loop-number.copies) (omega arith)) ∙ c.loop-number.invariant.1
