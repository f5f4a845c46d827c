use Rattle.std.proofs.Common.{◌≡◌, ℕ, ◌<◌, ◌≤◌, false, ◌&&◌, get_or}
use Rattle.valuation.specs.Circuit.{reads}
use Rattle.search.specs.Answers.{is_known}
use Rattle.counter.proofs.keep_forced.Given as goal

-- below the node all is done, and from it on no mark has changed
abbrev pub invariant-loop-node : goal.invariant-loop-node
invariant-loop-node l =
    ((k : ℕ) → k < l.node → get_or l.marks k false ≡ (get_or l.initial.marks k false && is_known (reads l.forced k))) ×
    ((k : ℕ) → l.node ≤ k → get_or l.marks k false ≡ get_or l.initial.marks k false)
