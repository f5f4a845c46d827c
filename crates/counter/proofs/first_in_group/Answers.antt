use Rattle.search.specs.Asking.{asked}
use Rattle.counting.specs.Counting.{refutes}
use Rattle.counting.proofs.Groups.{open_some, open_none}
use Rattle.counter.proofs.first_in_group.Goals as goal

pub returns-then-place-lt64 : goal.returns-then-place-lt64
returns-then-place-lt64 c =
    open_some (refutes (asked c.args.ask c.args.forced.now c.args.free)) c.args.group c.args.free c.open_cases.result c.open_cases.ensures c.lowest_one-place.result c.lowest_one-place.ensures c.if-place-lt64.true

pub returns-else-place-lt64 : goal.returns-else-place-lt64
returns-else-place-lt64 c =
    open_none (refutes (asked c.args.ask c.args.forced.now c.args.free)) c.args.group c.args.free c.open_cases.result c.open_cases.ensures c.lowest_one-place.result c.lowest_one-place.ensures c.if-place-lt64.false
