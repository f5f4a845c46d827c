use Rattle.std.proofs.Common.{◌≡◌, ◌≤◌, length}
use Rattle.search.specs.Asking.{asked}
use Rattle.counting.proofs.Groups.{Tried}
use Rattle.counter.proofs.CounterSearcher.query.Given as goal

-- the groups so far are paid for, all of their cases are refuted, and nothing is written
abbrev pub invariant-loop-group : goal.invariant-loop-group
invariant-loop-group l = (l.group ≤ l.ask.allowance) × Tried (asked l.ask l.forced (length l.initial.range)) l.group × (l.range ≡ l.initial.range) × (l.group ≤ l.groups)
