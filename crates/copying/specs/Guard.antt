-- The guard over the entries being made.
use Rattle.std.specs.Prelude.{◌≡◌, ℕ, ◌+◌, ◌<◌, ◌≤◌, List, length}
use Rattle.circuit.specs.Gates.{pairs}
use Rattle.valuation.specs.Circuit.{Pair}
use Rattle.copying.specs.declared.guard.Making.{Making}
use Rattle.copying.specs.Table.{written}

-- a guard m' that has made the gates hs after those of m
pub record Grown (m m' : Making) (hs : List Pair) : Type 0 where
  pub first_is : m'.first ≡ m.first
  pub used_is : m'.used ≡ m.used
  pub made_is : m'.made ≡ m.made + length hs
  pub name_is : m'.gates.ghost_name ≡ m.gates.ghost_name
  pub gates_are : pairs m'.gates.now ≡ written (pairs m.gates.now) (m.used + m.made) hs
  pub room : m.used + m.made + length hs ≤ length m.gates.now

-- a guard m' that has stopped after some gates, since n gates after those of m do not fit
pub record Stopped (m m' : Making) (n : ℕ) : Type 0 where
  pub made : List Pair
  pub grown : Grown m m' made
  pub full : length m.gates.now < m.used + m.made + n
