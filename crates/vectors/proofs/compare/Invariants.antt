use Rattle.vectors.specs.Tallies.{Answers, Counts}
use Rattle.vectors.proofs.compare.Given as goal

abbrev pub invariant-loop-line : goal.invariant-loop-line
invariant-loop-line g l =
    (goal.iterator-loop-line g).can_next l.line-iterator
    × (goal.iterator-loop-line g).is_finite l.line-iterator
    × goal.F-IsAlwaysCallable g l.agrees
    × Counts (Answers (goal.F-step g)) l.fn.agrees l.agrees l.yielded l.tally
