use Rattle.std.proofs.Common.{◌∙◌, cond, ap₂}
use Rattle.valuation.specs.declared.Value.TheVariants.{Unknown}
use Rattle.valuation.specs.Three.{of_bool}
use Rattle.valuation.proofs.Masks.{on_all}
use Rattle.counter.proofs.inputs.variable_in_group.Goals as goal

pub returns : goal.returns
returns c = λ i h. c.new.ensures i ∙ ap₂ (λ k b. cond k (of_bool b) Unknown) (on_all i h) (c.true_cases.ensures i h)
