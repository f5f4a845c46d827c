-- What a loaded question stands for.
use Rattle.std.specs.Prelude.{List, take, vec_items}
use Rattle.circuit.specs.declared.Gate.{Gate}
use Rattle.circuit.specs.Gates.{pairs}
use Rattle.question.specs.declared.question.Question.{Question}
use Rattle.question.specs.Formula.{Formula, WellFormed, formula_of}
use Rattle.question.specs.Rules.{blocks_of}

-- the records of its gates
abbrev pub gates_of : Question → List Gate
gates_of q = take q.frame.gates (vec_items q.table)

-- its formula
abbrev pub formula : Question → Formula
formula q = formula_of (blocks_of q.frame.prefix) (pairs (vec_items q.table)) q.frame.gates q.frame.output.code

-- whatever takes a question need not check it again
abbrev pub AlwaysWellFormed : Type 0
AlwaysWellFormed = (q : Question) → WellFormed (formula q)
