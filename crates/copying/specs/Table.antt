-- A gate table, seen as its gates' pairs of literals.
use Rattle.std.specs.Prelude.{◌≡◌, ℕ, ◌-◌, List, length, drop, replicate}
use Rattle.std.proofs.Math.Seq.{paste}
use Rattle.valuation.specs.Circuit.{Pair, blank}

-- a table with the gates hs from an entry on
abbrev pub written : List Pair → ℕ → List Pair → List Pair
written table from hs = paste table from hs (length hs)

-- the entries from `from` on are blank
abbrev pub BlankFrom : List Pair → ℕ → Type 0
BlankFrom table from = drop from table ≡ replicate (length table - from) blank
