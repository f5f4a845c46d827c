use Rattle.std.proofs.Common.{vec_items, sym, ap, ◌∙◌}
use Rattle.std.proofs.lemmas.List.{take-map}
use Rattle.circuit.specs.Gates.{pair, pairs}
use Rattle.question.proofs.question.Question.gates.Goals as goal

pub returns : goal.returns
returns c =
    let q = c.args.self.now in
    record { records = c.records.ensures; literals = ap pairs c.records.ensures ∙ sym (take-map pair q.frame.gates (vec_items q.table)) }
