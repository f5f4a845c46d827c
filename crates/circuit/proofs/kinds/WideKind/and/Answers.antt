use Rattle.valuation.specs.Rails.{on}
use Rattle.valuation.proofs.Masks.{on_and, on_or, and_rails, and_apart}
use Rattle.circuit.proofs.kinds.WideKind.and.Goals as goal

pub invariant_of-result : goal.invariant_of-result
invariant_of-result c =
    let a = c.args.self in
    let b = c.args.other in
    record { apart = λ k. simp (on_and, on_or) (and_apart (on a.trues k) (on a.falses k) (on b.trues k) (on b.falses k) (a.apart k) (b.apart k)) }

pub returns : goal.returns
returns c =
    let a = c.args.self in
    let b = c.args.other in
    λ k _. simp (on_and, on_or) (and_rails (on a.trues k) (on a.falses k) (on b.trues k) (on b.falses k) (a.apart k) (b.apart k))
