-- What is reached from a root, by one sweep down, and what of it is forced.
use Rattle.std.specs.Prelude.{ℕ, ◌+◌, ◌-◌, ◌/◌, Bool, false, cond, List, [], ◌∷◌, length, ◌==◌, nat_lt, slice_index_or}
use Rattle.valuation.specs.declared.Value.{Value}
use Rattle.valuation.specs.declared.Value.TheVariants.{Unknown, False, True}
use Rattle.valuation.specs.Circuit.{Pair, gate, Values}
use Rattle.valuation.specs.Sweep.{swept}

-- the list, of an unknown value only
abbrev pub if_unknown : Value → List ℕ → List ℕ
if_unknown Unknown ns = ns
if_unknown False ns = []
if_unknown True ns = []

-- the nodes of a gate's literals
abbrev pub inputs_of : Pair → List ℕ
inputs_of g = g.left / 2 ∷ g.right / 2 ∷ []

-- the nodes that a reached node has reached too
abbrev pub leads : ℕ → List Pair → Values → ℕ → List ℕ
leads first gs v n = cond (nat_lt n first) [] (if_unknown (v n) (inputs_of (gate gs (n - first))))

-- which nodes are reached from the root
abbrev pub reach : ℕ → List Pair → Values → ℕ → List Bool
reach first gs v root = swept (leads first gs v) (first + length gs) (root ∷ [])

-- the values of the marked nodes, but for node 0
abbrev pub where_marked : List Bool → Values → Values
where_marked ms v n = cond (n == 0) Unknown (cond (slice_index_or ms n false) (v n) Unknown)

-- what is forced of the values v: the reached nodes that are known, but for node 0
abbrev pub cut : ℕ → List Pair → Values → ℕ → Values
cut first gs v root = where_marked (reach first gs v root) v
