use Rattle.std.proofs.Common.{◌+◌, ◌<◌, length, sym, ap, ◌∙◌, arith}
use Rattle.std.proofs.lemmas.List.{take_more_set, length-take-le}
use Rattle.question.specs.Blocks.{total}
use Rattle.question.proofs.Totals.{total_push}
use Rattle.question.proofs.prefix.Prefix.push.Goals as goal

pub invariant_of-self : goal.invariant_of-self
invariant_of-self c =
    let p = c.args.self.now in
    let long = length-take-le p.count p.blocks (omega arith) in
    let inside : p.count < length p.blocks = omega arith in
    record {
      few = omega arith;
      summed = ap (λ n. n + c.args.block.size) p.summed ∙ sym (ap total (take_more_set p.blocks p.count c.args.block inside) ∙ total_push _ c.args.block);
      small = omega arith;
    }
