use Rattle.valuation.specs.Rails.{on}
use Rattle.valuation.proofs.Masks.{on_and, on_xor, known_rails, known_apart}
use Rattle.circuit.proofs.kinds.Wide.new.Goals as goal

pub invariant_of-result : goal.invariant_of-result
invariant_of-result c = record { apart = λ k. simp (on_and, on_xor) (known_apart (on c.args.bits k) (on c.args.known k)) }

pub returns : goal.returns
returns c = λ k. simp (on_and, on_xor) (known_rails (on c.args.bits k) (on c.args.known k))
