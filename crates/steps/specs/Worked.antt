-- The lost turn of the worked case: E (1, 2), A (3), E (4), all of the first two blocks played false, the core "node 7 is false".
use Rattle.std.specs.Prelude.{◌/◌, Bool, false, List, [], ◌∷◌, nat_eq}
use Rattle.valuation.specs.Circuit.{nothing, reads, node_values}
use Rattle.valuation.specs.Reach.{cut}
use Rattle.copies.specs.Worked.{first_case}
use Rattle.steps.specs.Steps.{base_of, LostTurn}

-- the play of the first two blocks
abbrev pub lost_play : List Bool
lost_play = false ∷ false ∷ false ∷ []

abbrev pub WorkedLoss : Type 0
WorkedLoss = LostTurn 5 first_case.gates 14 lost_play 1 (λ n. nat_eq n 7) (cut 5 first_case.gates (reads (node_values 5 first_case.gates nothing (base_of lost_play))) (14 / 2))
