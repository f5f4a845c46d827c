-- What two masks say of a case: one has the cases where a value is true, the other those where it is false.
use Rattle.std.specs.Prelude.{ℕ, ◌/◌, ◌%◌, ◌^◌, Bool, true, false, ◌==◌}
use Rattle.valuation.specs.declared.Value.{Value}
use Rattle.valuation.specs.declared.Value.TheVariants.{Unknown, False, True}

-- whether bit c of x is one
abbrev pub on : ℕ → ℕ → Bool
on x c = x / 2 ^ c % 2 == 1

-- the value, by whether it is true and whether it is false
abbrev pub of_rails : Bool → Bool → Value
of_rails true f = True
of_rails false true = False
of_rails false false = Unknown

-- the value in case c, by the two masks
abbrev pub case_value : ℕ → ℕ → ℕ → Value
case_value trues falses c = of_rails (on trues c) (on falses c)

-- whether a value is false
abbrev pub is_false : Value → Bool
is_false Unknown = false
is_false False = true
is_false True = false
