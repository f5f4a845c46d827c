use Rattle.std.proofs.Common.{Ok, sym, refl, ap, ◌∙◌}
use Rattle.std.proofs.lemmas.List.{take_rest}
use Rattle.std.proofs.lemmas.Result.{err_from_is_err_and}
use Rattle.question.specs.Rules.{blocks_of}
use Rattle.question.proofs.Judges.{begin, step_block, step_gate, ends, stops}
use Rattle.question.proofs.judging.judge.Goals as goal

pub loop-block-init : goal.loop-block-init
loop-block-init c = rw (c.new-begun.ensures.blocks, c.new-begun.ensures.gates) (begin c.args.bytes.now)

pub returns-in_err-block : goal.returns-in_err-block
returns-in_err-block c =
    let p = err_from_is_err_and c.from_residual.result c.from_residual.ensures.1 in
    let l = c.loop-block in
    rw (p.1, p.2) (stops _ _ _ _ l.invariant _ c.next.ensures.value c.next.ensures.front c.in_err-block.field-0.0 c.in_err-block.was)

pub loop-block-preserved-in-Block : goal.loop-block-preserved-in-Block
loop-block-preserved-in-Block c =
    let l = c.loop-block in
    rw (c.add_block.ensures.blocks, c.add_block.ensures.gates, take_rest l.rest.now 7)
    (step_block _ _ _ _ l.invariant _ c.next.ensures.value c.next.ensures.front c.in-Block.block (c.in_ok-block.was ∙ ap Ok c.in-Block.is))

pub loop-block-preserved : goal.loop-block-preserved
loop-block-preserved c =
    let l = c.loop-block in
    rw (c.add_gate.ensures.blocks, c.add_gate.ensures.gates, take_rest l.rest.now 8)
    (step_gate _ _ _ _ l.invariant _ c.next.ensures.value c.next.ensures.front c.in-Gate.field-0 c.in-Gate.field-1 (c.in_ok-block.was ∙ ap Ok c.in-Gate.is))

pub returns-in-Output : goal.returns-in-Output
returns-in-Output c =
    let l = c.loop-block in
    let e = ends _ _ _ _ l.invariant _ c.next.ensures.value c.next.ensures.front c.in-Output.output (c.in_ok-block.was ∙ ap Ok c.in-Output.is) in
    record {
      formula = record { blocks = blocks_of l.begun.prefix; gates = l.invariant.gates; output = c.in-Output.output.code };
      judgement = e.0;
      right = e.1;
      blocks = refl;
      gates = sym l.invariant.counted;
      output = refl;
    }
