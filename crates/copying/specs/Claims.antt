-- What a table keeps over a settlement that fits.
use Rattle.std.specs.Prelude.{◌≡◌, ℕ, ◌+◌, ◌/◌, ◌<◌, ◌≤◌, true, List, ◌++◌, length, take}
use Rattle.valuation.specs.Circuit.{Pair, Ascending}
use Rattle.copying.specs.declared.lost.Lost.{Lost}
use Rattle.copying.specs.Settle.{new_gates, fits, table_after}
use Rattle.copying.specs.Table.{BlankFrom}

-- The gates in use are then the old ones and the new ones, they ascend, and the entries after them are blank.
pub record Kept (first : ℕ) (table : List Pair) (used n : ℕ) (t : Lost) : Type 0 where
  pub in_use : take (used + n) (table_after first table used t) ≡ take used table ++ new_gates first (take used table) t
  pub ascending : Ascending first (take (used + n) (table_after first table used t))
  pub blank : BlankFrom (table_after first table used t) (used + n)
  pub long : length (table_after first table used t) ≡ length table

abbrev pub TableKept : Type 0
TableKept = (first : ℕ) (table : List Pair) (used : ℕ) (t : Lost) → 0 < first → used ≤ length table → Ascending first (take used table) → BlankFrom table used →
    t.root.code / 2 < first + used → fits table used (new_gates first (take used table) t) ≡ true →
    Kept first table used (length (new_gates first (take used table) t)) t
