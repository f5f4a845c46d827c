-- What a step of the splitter does to replies and lists.
use Rattle.std.specs.Prelude.{◌≡◌, ℕ, ◌+◌, ◌-◌, Bool, true, false, List, map, take, drop}
use Rattle.valuation.specs.declared.Value.{Value}
use Rattle.valuation.specs.declared.Value.TheVariants.{Unknown, False, True}
use Rattle.valuation.specs.Three.{of_bool}
use Rattle.valuation.specs.Circuit.{reads, input_values, settings_from}
use Rattle.search.specs.declared.Ask.{Ask}
use Rattle.search.specs.Queries.{Query}
use Rattle.search.specs.Asking.{asked}
use Rattle.search.specs.Answers.{Answer}
use Rattle.splitting.specs.Tree.{tree}

-- a variable's value in a move: false if it is unset
abbrev pub settled : Value → Value
settled Unknown = False
settled False = False
settled True = True

-- the values of the inputs at a node of the tree
abbrev pub inputs_at : Query → List Bool → List Value
inputs_at q s = input_values (1 + q.variables) (reads q.forced) (settings_from q.start (map of_bool s))

-- a list of values by node has the inputs of a node of the tree
abbrev pub Stands : Query → List Bool → List Value → Type 0
Stands q s values = take (1 + q.variables) values ≡ inputs_at q s

abbrev pub is_true : Value → Bool
is_true Unknown = false
is_true False = false
is_true True = true

-- how the first d variables from node `start` on are set, by the values of the nodes
abbrev pub settings_at : ℕ → ℕ → List Value → List Bool
settings_at start d values = map is_true (take d (drop start values))

-- the answer at the node of the tree that the values of the inputs have, with `unset` of the `free` variables unset
abbrev pub answer_at : Ask → List Value → ℕ → ℕ → List Value → Answer
answer_at ask forced free unset values = tree (asked ask forced free) unset (settings_at ask.start (free - unset) values)
