-- The three values, after Kleene, and what one value keeps of another.
use Rattle.std.specs.Prelude.{◌≡◌, Bool, true, false, ◌≢◌}
use Rattle.valuation.specs.declared.Value.{Value}
use Rattle.valuation.specs.declared.Value.TheVariants.{Unknown, False, True}

-- the negation
abbrev pub not3 : Value → Value
not3 Unknown = Unknown
not3 False = True
not3 True = False

-- false if one of the two is, true if both are, else unknown
abbrev pub and3 : Value → Value → Value
and3 False y = False
and3 True y = y
and3 Unknown False = False
and3 Unknown True = Unknown
and3 Unknown Unknown = Unknown

-- the first value where it is known, else the second
abbrev pub or_else : Value → Value → Value
or_else Unknown y = y
or_else False y = False
or_else True y = True

-- a known value
abbrev pub of_bool : Bool → Value
of_bool true = True
of_bool false = False

-- what a polarity watches: positive the false, negative the true
abbrev pub watched : Bool → Value
watched true = False
watched false = True

-- where x has the value that the polarity watches, y has it too
abbrev pub Keeps : Bool → Value → Value → Type 0
Keeps p x y = x ≡ watched p → y ≡ watched p

-- the order of information: what x says, y says (unknown is below everything)
abbrev pub Below : Value → Value → Type 0
Below x y = (p : Bool) → Keeps p x y

-- where both are known they are equal
abbrev pub Agree : Value → Value → Type 0
Agree x y = x ≢ Unknown → y ≢ Unknown → x ≡ y
