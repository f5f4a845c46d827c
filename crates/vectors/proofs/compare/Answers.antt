use Rattle.std.proofs.Common.{of_calls}
use Rattle.vectors.proofs.Tallied.{one_more}
use Rattle.vectors.proofs.compare.Goals as goal

pub loop-line-preserved : goal.loop-line-preserved
loop-line-preserved g c = (
  search of_calls,
  search of_calls,
  search of_calls,
  one_more _ _ _ _ _ _ _ c.in-Some.line c.in_ok-same.same c.loop-line.invariant.3 (c.in_ok-line.line, c.in_ok-line.was, c.as_str.result, c.as_str.ensures.value, c.in_ok-same.ensures) c.add.ensures.agree c.add.ensures.differ,
)
