use Rattle.std.proofs.Common.{◌≡◌, sym, ap, ◌∙◌, arith, below_more}
use Rattle.std.proofs.lemmas.List.{length-map, get_or-map}
use Rattle.valuation.specs.Circuit.{Pair, blank, gate}
use Rattle.circuit.specs.Gates.{pair, pairs, empty}
use Rattle.probe.proofs.ascends.Goals as goal

pub loop-k-preserved : goal.loop-k-preserved
loop-k-preserved c =
    let e = get_or-map pair c.args.gates.now c.loop-k.k empty blank (omega arith) in
    let left : (gate (pairs c.args.gates.now) c.loop-k.k).left ≡ c.left.result.code = ap (λ (p : Pair). p.left) e ∙ sym c.left.ensures in
    let right : (gate (pairs c.args.gates.now) c.loop-k.k).right ≡ c.right.result.code = ap (λ (p : Pair). p.right) e ∙ sym c.right.ensures in
    below_more _ _ c.loop-k.invariant (omega arith, omega arith)

pub returns : goal.returns
returns c = λ _ k lt. c.loop-k.invariant k (omega (arith, length-map c.args.gates.now pair))
