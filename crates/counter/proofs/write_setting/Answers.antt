use Rattle.std.proofs.Common.{arith}
use Rattle.counting.proofs.Inputs.{setting_written}
use Rattle.counter.proofs.write_setting.Goals as goal

pub returns : goal.returns
returns c = setting_written _ c.args.case c.loop-k.range c.loop-k.auto.range (λ i h. c.loop-k.invariant i (omega arith))
