-- What settling a lost level answers and leaves.
use Rattle.std.specs.Prelude.{ℕ, ◌+◌, false, cond, List, length, take, Ok, Err, Result, slice_index_or}
use Rattle.valuation.specs.Circuit.{Pair, reads}
use Rattle.copies.specs.Make.{core_of, settle_gates, settle_root}
use Rattle.copying.specs.declared.Full.{Full}
use Rattle.copying.specs.declared.Settled.{Settled}
use Rattle.copying.specs.Gates.{part_in}
use Rattle.copying.specs.Settle.{fits}
use Rattle.copying.specs.Table.{written}
use Rattle.runs.specs.Turn.{values_under}
use Rattle.asking.specs.declared.Loss.{Loss}

-- the core's literals
abbrev pub loss_core : ℕ → List Pair → Loss → List ℕ
loss_core first old l = core_of (λ n. slice_index_or l.core.now n false) (reads (values_under first old l.play.now)) (first + length old)

-- the gates that are made after `old`, and the new root
abbrev pub loss_gates : ℕ → List Pair → Loss → List Pair
loss_gates first old l = settle_gates first old (part_in l.bounds l.play.now) (loss_core first old l) l.root.code

abbrev pub loss_root : ℕ → List Pair → Loss → ℕ
loss_root first old l = settle_root first old (part_in l.bounds l.play.now) (loss_core first old l)

-- the new root and the number of gates, or full
abbrev pub settle_answer : ℕ → List Pair → ℕ → Loss → Result Settled Full
settle_answer first table used l =
    cond (fits table used (loss_gates first (take used table) l))
    (Ok (record { root = record { code = loss_root first (take used table) l }; made = length (loss_gates first (take used table) l) }))
    (Err (record {}))

-- the table after it: as it was, if the gates do not fit
abbrev pub settle_table : ℕ → List Pair → ℕ → Loss → List Pair
settle_table first table used l = cond (fits table used (loss_gates first (take used table) l)) (written table used (loss_gates first (take used table) l)) table
