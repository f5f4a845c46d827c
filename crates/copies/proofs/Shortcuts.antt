-- The worked settlements and the wrong shortcuts, by computation.
use Rattle.std.proofs.Common.{◌≡◌, Bool, true, false, [], ◌∷◌, ◌++◌, refl}
use Rattle.valuation.specs.declared.Value.{Value}
use Rattle.valuation.specs.declared.Value.TheVariants.{Unknown, False, True}
use Rattle.valuation.specs.Three.{of_bool}
use Rattle.valuation.specs.Circuit.{nothing, settings_from}
use Rattle.copies.specs.Claims.{value}
use Rattle.copies.specs.Worked.{case_value, by_polarities, second_case, ones_case, still_wins, WorkedSettlements, OnesWrong, PolaritiesWrong}

pub worked_settlements : WorkedSettlements
worked_settlements = record { first_core = refl; first_gates = refl; first_root = refl; second_core = refl; second_gates = refl; second_root = refl }

all_lose : (z w : Bool) → value 7 ones_case.gates nothing (settings_from 1 (ones_case.play ++ (of_bool z ∷ of_bool w ∷ []))) 26 ≡ False
all_lose true true = refl
all_lose true false = refl
all_lose false true = refl
all_lose false false = refl

each_wins : (y : Bool) → value 7 ones_case.gates nothing (settings_from 1 (still_wins ++ (of_bool y ∷ True ∷ False ∷ []))) 26 ≡ True
each_wins true = refl
each_wins false = refl

pub ones_wrong : OnesWrong
ones_wrong = record { lost = all_lose; wins = each_wins; forbidden = refl; allowed = refl; settled = refl }

none_learned : (x y z : Value) → case_value by_polarities second_case (x ∷ y ∷ z ∷ []) ≡ True
none_learned Unknown y z = refl
none_learned False y z = refl
none_learned True y z = refl

pub polarities_wrong : PolaritiesWrong
polarities_wrong = record { nothing_learned = none_learned; settled = refl }
