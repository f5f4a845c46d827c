use Rattle.std.proofs.Common.{sym, ◌∙◌}
use Rattle.valuation.proofs.Masks.{on_all}
use Rattle.counting.proofs.Digits.{few_bits, all_count}
use Rattle.counter.proofs.inputs.cases_that_count.Goals as goal

pub returns-then-free-lt6 : goal.returns-then-free-lt6
returns-then-free-lt6 c = λ k h. few_bits c.args.free k c.if-free-lt6.true h

pub returns-else-free-lt6 : goal.returns-else-free-lt6
returns-else-free-lt6 c = λ k h. on_all k h ∙ sym (all_count c.args.free k c.if-free-lt6.false h)
