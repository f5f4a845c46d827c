-- The numbers of refusals, and what a refusal leaves.
use Rattle.std.specs.Prelude.{ℕ, Some, None, Ok, Err, Option, Result}
use Rattle.runs.specs.declared.Refusal.{Refusal}
use Rattle.runs.specs.declared.Refusal.TheVariants.{Short, Spent, Foreign, Grants, Full}
use Rattle.runs.specs.declared.Refused.{Refused}

abbrev pub number_of : Refusal → ℕ
number_of Short = 9
number_of Spent = 10
number_of Foreign = 11
number_of Grants = 12
number_of Full = 13

-- one of two values, the first where the call is refused
abbrev pub unless : {X : Type 0} → Option Refusal → X → X → X
unless (Some why) x y = x
unless None x y = y

-- the answer of a call, with what is given back where it is refused
abbrev pub answered : {X Y : Type 0} → Option Refusal → Y → X → Result X (Refused Y)
answered (Some why) y x = Err (record { refusal = why; paper = y })
answered None y x = Ok x

-- the answer of a call that says nothing more
abbrev pub done : Option Refusal → Result (Unit {0}) Refusal
done (Some why) = Err why
done None = Ok tt
