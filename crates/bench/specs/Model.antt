-- What a bench and its tables stand for: ghost fields and a list's place in memory are left out.
use Rattle.std.specs.Prelude.{ℕ, ◌-◌, false, ◌++◌, length, take, replicate, None, vec_items}
use Rattle.valuation.specs.declared.Value.TheVariants.{Unknown}
use Rattle.circuit.specs.Gates.{pairs}
use Rattle.copying.specs.Places.{none}
use Rattle.question.specs.declared.frame.Frame.{Frame}
use Rattle.question.specs.Rules.{blocks_of}
use Rattle.runs.specs.declared.Desk.{Desk}
use Rattle.runs.specs.State.{GateSheet, Sheet, Sheets, State}
use Rattle.bench.specs.declared.GateTable.{GateTable}
use Rattle.bench.specs.declared.Table.{Table}
use Rattle.bench.specs.declared.Lists.{Lists}
use Rattle.bench.specs.declared.Bench.{Bench}

-- a table's bound, its entries and how many of them are in use
abbrev pub sheet_of : {X : Type 0} {most : ℕ} {b : _} → Table X most b → Sheet X
sheet_of t = record { bound = t.bound; used = t.used; entries = vec_items t.entries }

abbrev pub gate_sheet : GateTable → GateSheet
gate_sheet g = record { bound = g.table.bound; first = g.first; used = g.table.used; entries = pairs (vec_items g.table.entries) }

abbrev pub sheets_of : Lists → Sheets
sheets_of t = record { play = sheet_of t.play; values = sheet_of t.values; forced = sheet_of t.forced; marks = sheet_of t.marks; copies = sheet_of t.copies }

-- the entries from a place on out of use
abbrev pub cut_to : {X : Type 0} → X → ℕ → Sheet X → Sheet X
cut_to zero n t = record { bound = t.bound; used = n; entries = take n t.entries ++ replicate (length t.entries - n) zero }

-- a table that is free, with so many zeros
abbrev pub new_sheet : {X : Type 0} → X → ℕ → Sheet X
new_sheet zero n = record { bound = None; used = 0; entries = replicate n zero }

-- free lists for so many variables and nodes
abbrev pub new_sheets : ℕ → ℕ → Sheets
new_sheets variables nodes =
    record { play = new_sheet Unknown variables; values = new_sheet Unknown nodes; forced = new_sheet Unknown nodes; marks = new_sheet false nodes; copies = new_sheet none nodes }

-- a bench's frame and numbers with some tables
abbrev pub state_of : Frame → Desk → GateSheet → Sheets → State
state_of f d g t = record { blocks = blocks_of f.prefix; count = f.gates; output = f.output.code; desk = d; gates = g; sheets = t }

-- a bench with its tables
abbrev pub model : {S : Type 0} → Bench S → GateTable → Lists → State
model b g l = state_of b.frame b.desk (gate_sheet g) (sheets_of l)
