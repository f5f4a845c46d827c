-- A settlement: what a lost turn makes of a bench.
use Rattle.std.specs.Prelude.{ℕ, zero, suc, ◌+◌, ◌-◌, Bool, true, false, cond, not, ◌&&◌, List, ◌++◌, length, take, replicate, Some, None, Option, slice_index_or, slice_set}
use Rattle.valuation.specs.declared.Value.{Value}
use Rattle.valuation.specs.declared.Value.TheVariants.{Unknown}
use Rattle.valuation.specs.Circuit.{Pair, reads, settings_from}
use Rattle.copies.specs.Copy.{Part}
use Rattle.copies.specs.Make.{Nodes, part_by, core_of, settle_gates, settle_root}
use Rattle.copying.specs.Settle.{fits}
use Rattle.copying.specs.Table.{written}
use Rattle.question.specs.declared.prefix.Quantifier.{Quantifier}
use Rattle.question.specs.declared.prefix.Quantifier.TheVariants.{Existential, Universal}
use Rattle.question.specs.declared.prefix.Block.{Block}
use Rattle.question.specs.Blocks.{block_at}
use Rattle.runs.specs.declared.Phase.TheVariants.{Playing, Over}
use Rattle.runs.specs.declared.Desk.{Desk}
use Rattle.runs.specs.declared.Stub.{Stub}
use Rattle.runs.specs.declared.Place.{Place}
use Rattle.runs.specs.declared.Verdict.{Verdict}
use Rattle.runs.specs.declared.Refusal.{Refusal}
use Rattle.runs.specs.declared.Refusal.TheVariants.{Foreign, Full}
use Rattle.runs.specs.Refusals.{unless}
use Rattle.runs.specs.State.{GateSheet, Sheet, State, before, width, first_node, root_at, in_use, own}
use Rattle.runs.specs.Papers.{slip_present}
use Rattle.runs.specs.Turn.{values_under}
use Rattle.runs.specs.Ends.{literal, zeroed}

-- the nodes of block d + 1
abbrev pub nodes_of : List Block → ℕ → Nodes
nodes_of bs d = record { start = 1 + before bs d; stop = 1 + before bs (suc d) }

-- what a settlement after a loss at level d + 3 makes of each input: the lost block, the one below it, and the others
abbrev pub parts_of : List Block → ℕ → List Value → ℕ → Part
parts_of bs d play = part_by (nodes_of bs (suc d)) (nodes_of bs (suc (suc d))) (settings_from 1 play)

-- the literals of the marked core
abbrev pub core_now : State → List ℕ
core_now s =
    core_of (λ n. slice_index_or s.sheets.marks.entries n false) (reads (values_under (first_node s.blocks) (in_use s.gates) s.sheets.play.entries)) (first_node s.blocks + length (in_use s.gates))

-- the gates that it makes, and level d + 1's new root
abbrev pub new_gates : ℕ → State → List Pair
new_gates d s = settle_gates (first_node s.blocks) (in_use s.gates) (parts_of s.blocks d s.sheets.play.entries) (core_now s) (root_at s.desk (suc d))

abbrev pub new_root : ℕ → State → ℕ
new_root d s = settle_root (first_node s.blocks) (in_use s.gates) (parts_of s.blocks d s.sheets.play.entries) (core_now s)

-- a bench's numbers at level d + 1 again, with so many more gates
abbrev pub back_desk : ℕ → ℕ → ℕ → Desk → Desk
back_desk d made root k =
    record {
      stamp = k.stamp;
      phase = Playing;
      depth = d;
      gates = k.gates + made;
      roots = slice_set k.roots (suc d) (literal root);
      turns = k.turns;
      settlements = k.settlements + 1;
      purse = k.purse;
      steps = k.steps;
      grants = k.grants;
    }

-- the gate table with more gates in use
abbrev pub grown : List Pair → GateSheet → GateSheet
grown new g = record { bound = g.bound; first = g.first; used = g.used + length new; entries = written g.entries g.used new }

-- the play of the first so many variables, the others unset
abbrev pub unset_from : ℕ → Sheet Value → Sheet Value
unset_from n t = record { bound = t.bound; used = n; entries = take n t.entries ++ replicate (length t.entries - n) Unknown }

-- a bench after a settlement: level d + 1's root is the new one, the play of the levels from there up is taken back
abbrev pub gone_back : ℕ → State → State
gone_back d s =
    record {
      blocks = s.blocks;
      count = s.count;
      output = s.output;
      desk = back_desk d (length (new_gates d s)) (new_root d s) s.desk;
      gates = grown (new_gates d s) s.gates;
      sheets = record {
        play = unset_from (before s.blocks d) s.sheets.play;
        values = s.sheets.values;
        forced = s.sheets.forced;
        marks = zeroed false s.sheets.marks.bound s.sheets.marks;
        copies = s.sheets.copies;
      };
    }

-- a bench's numbers after the verdict
abbrev pub over_desk : Desk → Desk
over_desk k =
    record {
      stamp = k.stamp;
      phase = Over;
      depth = k.depth;
      gates = k.gates;
      roots = k.roots;
      turns = k.turns;
      settlements = k.settlements;
      purse = k.purse;
      steps = k.steps;
      grants = k.grants;
    }

-- a bench after the verdict: the marks are cleared, block 1's play stays
abbrev pub concluded : State → State
concluded s =
    record {
      blocks = s.blocks;
      count = s.count;
      output = s.output;
      desk = over_desk s.desk;
      gates = s.gates;
      sheets = record {
        play = s.sheets.play;
        values = s.sheets.values;
        forced = s.sheets.forced;
        marks = zeroed false s.sheets.marks.bound s.sheets.marks;
        copies = s.sheets.copies;
      };
    }

-- after a loss at a depth: the verdict at level 1 or 2, else a settlement
abbrev pub settle_at : ℕ → State → State
settle_at zero s = concluded s
settle_at (suc zero) s = concluded s
settle_at (suc (suc d)) s = gone_back d s

-- refused as full where the gates exceed the free entries
abbrev pub full_at : ℕ → State → Option Refusal
full_at zero s = None
full_at (suc zero) s = None
full_at (suc (suc d)) s = cond (fits s.gates.entries s.gates.used (new_gates d s)) None (Some Full)

-- whether a settlement is refused, by the slip
abbrev pub settle_refusal : Stub → State → Option Refusal
settle_refusal p s = cond (slip_present s.desk p && own s) (full_at s.desk.depth s) (Some Foreign)

-- the bench and the tables after it
abbrev pub settled : Stub → State → State
settled p s = unless (settle_refusal p s) s (settle_at s.desk.depth s)

-- whether a quantifier is universal
abbrev pub is_universal : Quantifier → Bool
is_universal Existential = false
is_universal Universal = true

-- whether level d + 1 is universal: levels alternate, the one past the last block too
abbrev pub universal_at : List Block → ℕ → Bool
universal_at bs zero = is_universal (block_at bs 0).quantifier
universal_at bs (suc d) = not (universal_at bs d)

-- where the opening stands: block 1's place in the play, after a loss at level 2
abbrev pub opening_at : List Block → ℕ → Option Place
opening_at bs zero = None
opening_at bs (suc d) = Some (record { from = 0; to = width bs 0 })

-- the verdict of a bench whose level has lost
abbrev pub verdict_of : State → Verdict
verdict_of s =
    record { word = universal_at s.blocks s.desk.depth; turns = s.desk.turns; steps = s.desk.steps; opening = opening_at s.blocks s.desk.depth }

-- whether a settlement at a depth gives the verdict
abbrev pub concludes : ℕ → Bool
concludes zero = true
concludes (suc zero) = true
concludes (suc (suc d)) = false
