-- What a list of copies by nodes has at each place. Place 2n is node n in positive polarity, place 2n + 1 the same in negative.
use Rattle.std.specs.Prelude.{ℕ, ◌*◌, ◌/◌, Bool, cond, List, [], ◌∷◌, map, length, is_some, Some, None, Option, slice_index_or, slice_set}
use Rattle.std.specs.List.{range_with_len}
use Rattle.circuit.specs.declared.Literal.{Literal}
use Rattle.valuation.specs.Circuit.{negated}
use Rattle.copying.specs.declared.places.Copies.{Copies}

-- no copies
abbrev pub none : Copies
none = record { positive = None; negative = None }

-- the copy at a place of the node
abbrev pub held_in : Copies → ℕ → Option Literal
held_in e l = cond (negated l) e.negative e.positive

-- the same with another copy at a place
abbrev pub put_in : Copies → ℕ → Literal → Copies
put_in e l c = cond (negated l) (record { positive = e.positive; negative = Some c }) (record { positive = Some c; negative = e.negative })

-- the copy at a place
abbrev pub held : List Copies → ℕ → Option Literal
held cs l = held_in (slice_index_or cs (l / 2) none) l

-- the list with another copy at a place
abbrev pub put : List Copies → ℕ → Literal → List Copies
put cs l c = slice_set cs (l / 2) (put_in (slice_index_or cs (l / 2) none) l c)

-- the code of a copy, 0 where there is none
abbrev pub code_of : Option Literal → ℕ
code_of None = 0
code_of (Some c) = c.code

abbrev pub copy_code : List Copies → ℕ → ℕ
copy_code cs l = code_of (held cs l)

-- at which places there is a copy
abbrev pub shown : List Copies → List Bool
shown cs = map (λ l. is_some (held cs l)) (range_with_len 0 (2 * length cs))

-- a literal that may be there, as a list
abbrev pub listed : Option Literal → List ℕ
listed None = []
listed (Some l) = l.code ∷ []
