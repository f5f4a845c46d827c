use Rattle.splitter.proofs.Splitter.+branch.Given as goal

abbrev pub decreases-branch : goal.decreases-branch
decreases-branch l = l.unset
