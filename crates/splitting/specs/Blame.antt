-- What a refuted branch blames, from the root down. A forced node is not entered. A false gate passes the blame to its left input if that
-- is false, else to its right; a true gate passes it to both.
use Rattle.std.specs.Prelude.{ℕ, ◌+◌, ◌-◌, ◌/◌, Bool, cond, List, [], ◌∷◌, length, nat_lt}
use Rattle.valuation.specs.declared.Value.{Value}
use Rattle.valuation.specs.declared.Value.TheVariants.{Unknown, False, True}
use Rattle.valuation.specs.Circuit.{Pair, gate, Values, lit}
use Rattle.valuation.specs.Sweep.{swept}
use Rattle.valuation.specs.Reach.{if_unknown, inputs_of}
use Rattle.search.specs.Answers.{forced_of}

-- the input that makes a gate false, by its left literal's value
abbrev pub cause : Value → Pair → ℕ
cause False g = g.left / 2
cause Unknown g = g.right / 2
cause True g = g.right / 2

-- where a gate that is not forced passes the blame, by its value and its left literal's
abbrev pub passes : Value → Value → Pair → List ℕ
passes Unknown l g = []
passes False l g = cause l g ∷ []
passes True l g = inputs_of g

-- where a blamed node passes the blame: F is forced, v the values
abbrev pub blames : ℕ → List Pair → Values → Values → ℕ → List ℕ
blames first gs F v n = cond (nat_lt n first) [] (if_unknown (F n) (passes (v n) (lit v (gate gs (n - first)).left) (gate gs (n - first))))

-- which nodes are blamed for the root's value
abbrev pub blamed : ℕ → List Pair → Values → Values → ℕ → List Bool
blamed first gs F v root = swept (blames first gs F v) (first + length gs) (root ∷ [])

-- the core of a refuted branch: the forced nodes that are blamed
abbrev pub core : ℕ → List Pair → Values → Values → ℕ → List Bool
core first gs F v root = forced_of (blamed first gs F v root) F (first + length gs)
