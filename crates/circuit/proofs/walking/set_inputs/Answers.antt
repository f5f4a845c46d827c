use Rattle.std.proofs.Common.{rules, refl}
use Rattle.circuit.proofs.walking.set_inputs.Goals as goal

pub returns : goal.returns
returns g c = λ k h. c.set_inputs_by.ensures k c.args.settings.now h (record { counted = refl; each = λ j x i e. search rules })
