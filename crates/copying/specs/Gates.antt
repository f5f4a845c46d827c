-- What is made at one place.
use Rattle.std.specs.Prelude.{◌≡◌, ℕ, ◌+◌, ◌*◌, ◌/◌, Bool, cond, ◌&&◌, List, [], ◌∷◌, map, length, take, Some, None, Option, ◌==◌}
use Rattle.std.specs.List.{range_with_len}
use Rattle.circuit.specs.declared.Literal.{Literal}
use Rattle.circuit.specs.Gates.{pairs}
use Rattle.valuation.specs.declared.Value.{Value}
use Rattle.valuation.specs.Circuit.{Pair, settings_from}
use Rattle.copies.specs.Copy.{Part, like, copied}
use Rattle.copies.specs.Make.{part_by, gate_at, Made, make, Join, join}
use Rattle.copying.specs.declared.places.Copies.{Copies}
use Rattle.copying.specs.declared.Bounds.{Bounds}
use Rattle.copying.specs.declared.guard.Making.{Making}
use Rattle.copying.specs.Guard.{Grown, Stopped}
use Rattle.copying.specs.Places.{copy_code, shown}

-- what becomes of each input
abbrev pub part_in : Bounds → List Value → ℕ → Part
part_in b play = part_by (record { start = b.below; stop = b.mine }) (record { start = b.mine; stop = b.end }) (settings_from 1 play)

-- the gate of a place, in a guard's table
abbrev pub gate_in : Making → ℕ → Pair
gate_in m l = gate_at m.first (pairs m.gates.now) l

-- the copy of the gate g at a place
abbrev pub copy_at : Pair → List Copies → ℕ → Pair
copy_at g cs l = copied g (copy_code cs (like l g.left)) (copy_code cs (like l g.right))

-- whether the gate stands for itself there
abbrev pub stands : Pair → List Copies → ℕ → Bool
stands g cs l = (copy_at g cs l).left == g.left && (copy_at g cs l).right == g.right

-- the gates made for it
abbrev pub gates_for : Pair → List Copies → ℕ → List Pair
gates_for g cs l = cond (stands g cs l) [] (copy_at g cs l ∷ [])

-- c is the copy of the gate at a place: a guard m has made it, unless the gate stands for itself
pub record GateCopied (m m' : Making) (cs : List Copies) (l : ℕ) (c : Literal) : Type 0 where
  pub grown : Grown m m' (gates_for (gate_in m l) cs l)
  pub literal : c.code ≡ cond (stands (gate_in m l) cs l) (2 * (l / 2)) (2 * (m.first + m.used + m.made))

-- the gates in use, in a guard's table
abbrev pub olds : Making → List Pair
olds m = take m.used (pairs m.gates.now)

-- the copies at all places
abbrev pub codes : List Copies → List ℕ
codes cs = map (copy_code cs) (range_with_len 0 (2 * length cs))

-- what is made of the needed places
abbrev pub all_made : Making → Bounds → List Value → List Copies → Made
all_made m b play cs = make m.first (olds m) (part_in b play) (shown cs) (2 * length cs)

-- a guard m' that has made all copies that are needed after m, and the list of them
pub record AllCopied (m m' : Making) (b : Bounds) (play : List Value) (cs cs' : List Copies) : Type 0 where
  pub grown : Grown m m' (all_made m b play cs).gates
  pub copies : codes cs' ≡ (all_made m b play cs).copies

-- the gates that join one more copy
abbrev pub join_gates : Option Literal → Literal → List Pair
join_gates None c = []
join_gates (Some e) c = record { left = e.code; right = c.code } ∷ []

-- the literal of what is joined then
abbrev pub join_code : Making → Option Literal → Literal → ℕ
join_code m None c = c.code
join_code m (Some e) c = 2 * (m.first + m.used + m.made)

-- a guard m' that has joined one more copy after m
pub record OneJoined (m m' : Making) (e : Option Literal) (c l : Literal) : Type 0 where
  pub grown : Grown m m' (join_gates e c)
  pub literal : l.code ≡ join_code m e c

-- a core's copies joined: after the gates hs that a guard m₀ has made
abbrev pub all_joined : Making → List Copies → List ℕ → List Pair → Join
all_joined m₀ cs core hs = join m₀.first (olds m₀) (codes cs) core hs

-- m' is m with a core's copies joined to l, whatever was made before ..
abbrev pub CoreJoined : Making → Making → List Copies → List ℕ → Literal → Type 0
CoreJoined m m' cs core l = (m₀ : Making) (hs : List Pair) → m₀.made ≡ 0 → Grown m₀ m hs → Grown m₀ m' (all_joined m₀ cs core hs).gates × (l.code ≡ (all_joined m₀ cs core hs).literal)

-- .. or stopped before
abbrev pub CoreStopped : Making → Making → List Copies → List ℕ → Type 0
CoreStopped m m' cs core = (m₀ : Making) (hs : List Pair) → m₀.made ≡ 0 → Grown m₀ m hs → Stopped m₀ m' (length (all_joined m₀ cs core hs).gates)
