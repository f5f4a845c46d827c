-- The worked case's loss, by computation at both settings.
use Rattle.std.proofs.Common.{◌≡◌, ◌/◌, Bool, true, false, cond, eqb, List, [], ◌∷◌, length, refl, arith}
use Rattle.valuation.specs.declared.Value.TheVariants.{Unknown, False}
use Rattle.valuation.specs.Circuit.{Values, nothing, reads, node_values}
use Rattle.valuation.specs.Reach.{cut}
use Rattle.copies.specs.Claims.{value}
use Rattle.copies.specs.Worked.{first_case}
use Rattle.steps.specs.Steps.{base_of, range_of}
use Rattle.steps.specs.Worked.{lost_play, WorkedLoss}

forced : Values
forced = cut 5 first_case.gates (reads (node_values 5 first_case.gates nothing (base_of lost_play))) (14 / 2)

by_core : (s : List Bool) → length s ≡ 1 → value 5 first_case.gates (λ n. cond (eqb n 7) (forced n) Unknown) (range_of 3 s) 14 ≡ False
unfolding forced
by_core [] e = absurd (omega arith)
by_core (true ∷ []) e = refl
by_core (false ∷ []) e = refl
by_core (b ∷ c ∷ s) e = absurd (omega arith)

pub worked_loss : WorkedLoss
unfolding forced
worked_loss = record { by_cut = λ n i. refl; by_core = by_core }
