-- A settlement's answer and table, by the values of the nodes.
use Rattle.std.proofs.Common.{ℕ, ◌+◌, Bool, false, cond, List, length, get_or, take, Ok, Err, Result}
use Rattle.valuation.specs.declared.Value.{Value}
use Rattle.valuation.specs.Circuit.{Pair, reads}
use Rattle.copies.specs.Copy.{Part}
use Rattle.copies.specs.Make.{core_of, settle_gates, settle_root}
use Rattle.copying.specs.declared.Full.{Full}
use Rattle.copying.specs.declared.Settled.{Settled}
use Rattle.copying.specs.Settle.{fits}
use Rattle.copying.specs.Table.{written}

module _ (first : ℕ) (table : List Pair) (used : ℕ) (part : ℕ → Part) (marks : List Bool) (root : ℕ) where
  abbrev gates_by : List Value → List Pair
  gates_by vs = settle_gates first (take used table) part (core_of (λ n. get_or marks n false) (reads vs) (first + length (take used table))) root

  abbrev pub answer_by : List Value → Result Settled Full
  answer_by vs =
      cond (fits table used (gates_by vs))
      (Ok (record { root = record { code = settle_root first (take used table) part (core_of (λ n. get_or marks n false) (reads vs) (first + length (take used table))) }; made = length (gates_by vs) }))
      (Err (record {}))

  abbrev pub table_by : List Value → List Pair
  table_by vs = cond (fits table used (gates_by vs)) (written table used (gates_by vs)) table
