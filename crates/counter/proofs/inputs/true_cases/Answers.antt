use Rattle.std.proofs.Common.{sym, ◌∙◌}
use Rattle.valuation.proofs.Masks.{on_all, on_none}
use Rattle.counting.proofs.Digits.{pattern_bits, on_low, group_on, group_off}
use Rattle.counter.proofs.inputs.true_cases.Goals as goal

pub returns-then-k-lt6 : goal.returns-then-k-lt6
returns-then-k-lt6 c = λ i h. pattern_bits c.args.k i c.if-k-lt6.true h ∙ sym (on_low c.args.group i c.args.k c.if-k-lt6.true)

pub returns-then-group-k-eq1 : goal.returns-then-group-k-eq1
returns-then-group-k-eq1 c = λ i h. on_all i h ∙ sym (group_on c.args.group i c.args.k c.if-k-lt6.false h c.if-group-k-eq1.true)

pub returns-else-group-k-eq1 : goal.returns-else-group-k-eq1
returns-else-group-k-eq1 c = λ i h. on_none i ∙ sym (group_off c.args.group i c.args.k c.if-k-lt6.false h c.if-group-k-eq1.false)
