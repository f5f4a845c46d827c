use Rattle.counting.proofs.Groups.{groups_few, groups_many}
use Rattle.counter.proofs.group_count.Goals as goal

pub returns-then-free-lt6 : goal.returns-then-free-lt6
returns-then-free-lt6 c = groups_few c.args.free c.if-free-lt6.true

pub returns-else-free-lt6 : goal.returns-else-free-lt6
returns-else-free-lt6 c = groups_many c.args.free c.if-free-lt6.false c.requires
