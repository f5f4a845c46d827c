-- Opening a bench and closing it.
use Rattle.std.specs.Prelude.{ℕ, suc, pred, ◌-◌, Bool, false, cond, ◌&&◌, List, ◌++◌, length, take, replicate, Some, None, Option, slice_set}
use Rattle.valuation.specs.declared.Value.TheVariants.{Unknown}
use Rattle.valuation.specs.Circuit.{Pair, blank}
use Rattle.circuit.specs.declared.Literal.{Literal}
use Rattle.copies.specs.Copy.{opposite}
use Rattle.copying.specs.Places.{none}
use Rattle.question.specs.declared.prefix.Quantifier.{Quantifier}
use Rattle.question.specs.declared.prefix.Quantifier.TheVariants.{Existential, Universal}
use Rattle.question.specs.declared.prefix.Block.{Block}
use Rattle.question.specs.Blocks.{block_at}
use Rattle.question.specs.Formula.{Formula}
use Rattle.runs.specs.declared.Phase.TheVariants.{Playing}
use Rattle.runs.specs.declared.Desk.{Desk}
use Rattle.runs.specs.declared.Refusal.{Refusal}
use Rattle.runs.specs.declared.Refusal.TheVariants.{Short, Foreign}
use Rattle.runs.specs.State.{Sheet, Sheets, State, first_node, roomy, own}

-- a literal by its code
abbrev pub literal : ℕ → Literal
literal n = record { code = n }

-- the last block's root: the output for an existential block, else its negation
abbrev pub last_root : Quantifier → ℕ → ℕ
last_root Existential out = out
last_root Universal out = opposite out

-- the roots at the start: literal 1, but for the last block's, and for the level past it the negation of that
abbrev pub start_roots : List Block → ℕ → List Literal
start_roots bs out =
    let last = last_root (block_at bs (pred (length bs))).quantifier out in
    slice_set (slice_set (replicate 18 (literal 1)) (length bs) (literal last)) (suc (length bs)) (literal (opposite last))

-- a bench's numbers at the start, with so many gates in use
abbrev pub start_desk : List Block → ℕ → ℕ → ℕ → ℕ → Desk
start_desk bs count out stamp grant =
    record {
      stamp = stamp;
      phase = Playing;
      depth = 0;
      gates = count;
      roots = start_roots bs out;
      turns = 0;
      settlements = 0;
      purse = grant;
      steps = 0;
      grants = grant;
    }

-- a table with all entries zero
abbrev pub zeroed : {X : Type 0} → X → Option ℕ → Sheet X → Sheet X
zeroed x bound t = record { bound = bound; used = 0; entries = replicate (length t.entries) x }

-- all tables but the gates' with all entries zero
abbrev pub all_zeroed : Option ℕ → Sheets → Sheets
all_zeroed bound t =
    record {
      play = zeroed Unknown bound t.play;
      values = zeroed Unknown bound t.values;
      forced = zeroed Unknown bound t.forced;
      marks = zeroed false bound t.marks;
      copies = zeroed none bound t.copies;
    }

-- refused where the play or a work list is too short for the question and its gate table
abbrev pub open_refusal : ℕ → ℕ → Sheets → Option Refusal
open_refusal variables entries t = cond (roomy variables entries t) None (Some Short)

-- A bench that was opened on a formula, whose gates stand at the front of a table of so many entries, with zeros after them.
abbrev pub opened : Formula → ℕ → Sheets → ℕ → ℕ → State
opened f entries t stamp grant =
    record {
      blocks = f.blocks;
      count = length f.gates;
      output = f.output;
      desk = start_desk f.blocks (length f.gates) f.output stamp grant;
      gates = record { bound = Some stamp; first = first_node f.blocks; used = length f.gates; entries = f.gates ++ replicate (entries - length f.gates) blank };
      sheets = all_zeroed (Some stamp) t;
    }

-- refused without the present paper where one is due, or with other tables
abbrev pub close_refusal : Bool → State → Option Refusal
close_refusal present s = cond (present && own s) None (Some Foreign)

-- the formula of a closed bench: the question's gates are the first of the table
abbrev pub closed_formula : State → Formula
closed_formula s = record { blocks = s.blocks; gates = take s.count s.gates.entries; output = s.output }

-- the gate table after close: every working gate is zero
abbrev pub closed_table : State → List Pair
closed_table s = take s.count s.gates.entries ++ replicate (length s.gates.entries - s.count) blank
