-- What a searcher is asked.
use Rattle.std.specs.Prelude.{◌≡◌, ℕ, ◌+◌, ◌/◌, ◌<◌, ◌≤◌, Bool, ◌≢◌, List, map, length}
use Rattle.valuation.specs.declared.Value.{Value}
use Rattle.valuation.specs.declared.Value.TheVariants.{Unknown, False}
use Rattle.valuation.specs.Three.{of_bool}
use Rattle.valuation.specs.Circuit.{Pair, Ascending, Values, nothing, lit, reads, settings_from, node_values}

-- the variables of the circuit, the gates in use, the root literal, the node of the first free variable, the forced values by node
-- (unknown: not forced), how many variables are free
pub record Query : Type 0 where
  pub variables : ℕ
  pub gates : List Pair
  pub root : ℕ
  pub start : ℕ
  pub forced : List Value
  pub free : ℕ

-- the nodes of a query: 0, the variables and the gates in use
abbrev pub nodes : Query → ℕ
nodes q = 1 + q.variables + length q.gates

-- the values with these nodes forced and the range set so; unknown entries of the setting are unset
abbrev pub values_under : Query → Values → List Value → Values
values_under q F s = reads (node_values (1 + q.variables) q.gates F (settings_from q.start s))

-- the value of the root then
abbrev pub root_under : Query → Values → List Value → Value
root_under q F s = lit (values_under q F s) q.root

-- a setting is refuted, with these nodes forced, if the root is false under it
abbrev pub Refuted : Query → Values → List Bool → Type 0
Refuted q F s = root_under q F (map of_bool s) ≡ False

-- a play of the other variables, the range unset, that gives the forced nodes their values
pub record Witness (q : Query) (play : Values) : Type 0 where
  pub constant : play 0 ≡ False
  pub unset : (k : ℕ) → k < q.free → play (q.start + k) ≡ Unknown
  pub gives : (n : ℕ) → n < nodes q → reads q.forced n ≢ Unknown → reads (node_values (1 + q.variables) q.gates nothing play) n ≡ reads q.forced n

-- a query that may be asked
pub record Sound (q : Query) : Type 0 where
  pub few_variables : q.variables ≤ 128
  pub few_gates : length q.gates ≤ 8000
  pub ascending : Ascending (1 + q.variables) q.gates
  pub rooted : q.root / 2 < nodes q
  pub covered : length q.forced ≡ nodes q
  pub variable : 1 ≤ q.start
  pub inside : q.start + q.free ≤ 1 + q.variables
  pub few_free : q.free ≤ 40
  pub play : Values
  pub witness : Witness q play
