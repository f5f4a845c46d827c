-- A circuit: the nodes below `first` are its inputs (node 0 is the constant false), gate k is node first + k.
-- A literal is twice a node, one more where it is negated.
use Rattle.std.specs.Prelude.{◌≡◌, ℕ, ◌+◌, ◌-◌, ◌*◌, ◌/◌, ◌%◌, ◌<◌, Bool, cond, List, [], ◌∷◌, ◌++◌, map, length, ◌==◌, nat_lt, slice_index_or}
use Rattle.std.specs.List.{range_with_len}
use Rattle.valuation.specs.declared.Value.{Value}
use Rattle.valuation.specs.declared.Value.TheVariants.{Unknown, False}
use Rattle.valuation.specs.Three.{not3, and3, or_else}

-- the two literals of a gate, which is their and
pub record Pair : Type 0 where
  pub left : ℕ
  pub right : ℕ

-- a gate that is not there
abbrev pub blank : Pair
blank = record { left = 0; right = 0 }

-- gate k
abbrev pub gate : List Pair → ℕ → Pair
gate gs k = slice_index_or gs k blank

-- each gate reads nodes below its own
abbrev pub Ascending : ℕ → List Pair → Type 0
Ascending first gs = (k : ℕ) → k < length gs → ((gate gs k).left < 2 * (first + k)) × ((gate gs k).right < 2 * (first + k))

-- values of nodes: what is forced, what is set, or what comes of it
abbrev pub Values : Type 0
Values = ℕ → Value

-- nothing forced
abbrev pub nothing : Values
nothing n = Unknown

-- whether a literal is negated
abbrev pub negated : ℕ → Bool
negated l = l % 2 == 1

-- a value, or its negation
abbrev pub signed : Bool → Value → Value
signed neg x = cond neg (not3 x) x

-- the value of a literal
abbrev pub lit : Values → ℕ → Value
lit v l = signed (negated l) (v (l / 2))

-- the value of an unforced gate
abbrev pub both : Values → Pair → Value
both v g = and3 (lit v g.left) (lit v g.right)

-- The equation of each node: its forced value if it is forced, else its setting (an input) or the `and` of its literals (a gate).
pub record Valuation (first : ℕ) (gs : List Pair) (forced base v : Values) : Type 0 where
  pub inputs : (n : ℕ) → n < first → v n ≡ or_else (forced n) (base n)
  pub gates : (k : ℕ) → k < length gs → v (first + k) ≡ or_else (forced (first + k)) (both v (gate gs k))

-- a list of values, by nodes; there is nothing beyond it
abbrev pub reads : List Value → Values
reads vs n = slice_index_or vs n Unknown

-- the values of the nodes so far, and one more for each gate
abbrev pub values_of : List Pair → Values → List Value → List Value
values_of [] forced vs = vs
values_of (g ∷ gs) forced vs = values_of gs forced (vs ++ (or_else (forced (length vs)) (both (reads vs) g) ∷ []))

-- the values of the inputs
abbrev pub input_values : ℕ → Values → Values → List Value
input_values first forced base = map (λ n. or_else (forced n) (base n)) (range_with_len 0 first)

-- settings of the inputs: node 0 is false, the nodes from `start` on are set by a list, and no other is set
abbrev pub settings_from : ℕ → List Value → Values
settings_from start ss n = cond (n == 0) False (cond (nat_lt n start) Unknown (reads ss (n - start)))

-- the values of all nodes
abbrev pub node_values : ℕ → List Pair → Values → Values → List Value
node_values first gs forced base = values_of gs forced (input_values first forced base)

-- `Reached .. root n`: n is the root, or an input of a reached gate whose value is unknown
pub data Reached (first : ℕ) (gs : List Pair) (v : Values) (root : ℕ) : ℕ → Type 0 where
  at_root : Reached first gs v root root
  by_left : (k : ℕ) → k < length gs → v (first + k) ≡ Unknown → Reached first gs v root (first + k) → Reached first gs v root ((gate gs k).left / 2)
  by_right : (k : ℕ) → k < length gs → v (first + k) ≡ Unknown → Reached first gs v root (first + k) → Reached first gs v root ((gate gs k).right / 2)
