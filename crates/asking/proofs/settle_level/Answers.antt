use Rattle.std.proofs.Common.{◌≡◌, ◌+◌, List, length, take, replicate, sym, refl, ap, ◌∙◌, subst, arith}
use Rattle.std.proofs.lemmas.List.{length-take-le, take-map, take_all}
use Rattle.valuation.specs.declared.Value.TheVariants.{Unknown}
use Rattle.valuation.specs.Circuit.{Pair, Ascending}
use Rattle.circuit.specs.Gates.{pair, pairs}
use Rattle.copying.specs.Gates.{part_in}
use Rattle.copying.specs.Places.{none}
use Rattle.runs.specs.Turn.{values_under}
use Rattle.asking.proofs.Fronts.{front_zero, zero_front}
use Rattle.asking.proofs.Settles.{answer_by, table_by}
use Rattle.asking.proofs.settle_level.Goals as goal

pub invariant_of-circuit : goal.invariant_of-circuit
invariant_of-circuit c =
    record {
      ascending = subst (Ascending c.args.first) (take-map pair c.args.used c.args.gates.now) c.requires.ascending;
      countable = omega (arith, length-take-le c.args.used c.args.gates.now (omega (arith, c.requires.used)), c.requires.small);
    }

pub work_out-requires-clause-unforced : goal.work_out-requires-clause-unforced
work_out-requires-clause-unforced c =
    let n = c.args.first + c.args.used in
    let long = length-take-le c.args.used c.args.gates.now (omega (arith, c.requires.used)) in
    front_zero Unknown n _ c.args.unforced.now c.requires.unforced (omega (arith, long)) ∙ ap (λ j. replicate j Unknown) (let e : n ≡ c.args.first + length (take c.args.used c.args.gates.now) = omega (arith, long) in e)

pub settle-settled-requires-clause-clear : goal.settle-settled-requires-clause-clear
settle-settled-requires-clause-clear c = front_zero none _ _ c.args.copies.now c.requires.copies refl

pub returns : goal.returns
returns c =
    let used = c.args.used in
    let n = c.args.first + used in
    let k = c.nodes-nodes.result in
    let gs = pairs c.args.gates.now in
    let l = c.args.loss in
    let count = length-take-le used c.args.gates.now (omega (arith, c.requires.used)) in
    let long : length c.work_out.new.values ≡ n = c.work_out.auto.values ∙ length-take-le k c.args.values.now (omega (arith, count, c.requires.values.long)) ∙ omega (arith, count) in
    let vs =
    sym (take_all (c.args.first + length (take used c.args.gates.now)) c.work_out.new.values (omega (arith, long, count))) ∙ c.work_out.ensures.values
    ∙ ap (λ (xs : List Pair). values_under c.args.first xs l.play.now) (sym (take-map pair used c.args.gates.now)) in
    let part = part_in l.bounds l.play.now in
    record {
      answer = c.settle-settled.ensures.answer ∙ ap (answer_by c.args.first gs used part l.core.now l.root.code) vs;
      table = c.settle-settled.ensures.table ∙ ap (table_by c.args.first gs used part l.core.now l.root.code) vs;
      values = zero_front Unknown n k c.args.values.now c.fill.new.self c.requires.values (omega (arith, count)) (c.fill.ensures.after (λ y h. h) ∙ ap (λ j. replicate j Unknown) long);
      copies = c.settle-settled.ensures.work;
    }
