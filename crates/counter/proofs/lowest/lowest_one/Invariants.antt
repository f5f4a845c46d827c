use Rattle.std.proofs.Common.{◌≡◌, ◌+◌, ◌-◌, ◌%◌, ◌≤◌}
use Rattle.counting.specs.Lowest.{lowest}
use Rattle.counter.proofs.lowest.lowest_one.Given as goal

-- the bits below the base are zero
abbrev pub invariant-loop-base : goal.invariant-loop-base
invariant-loop-base l = (l.base ≤ 64) × (l.base % 8 ≡ 0) × (lowest 64 l.word ≡ l.base + lowest (64 - l.base) l.rest)

abbrev pub decreases-loop-base : goal.decreases-loop-base
decreases-loop-base l = 64 - l.base
