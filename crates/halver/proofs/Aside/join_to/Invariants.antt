use Rattle.std.proofs.Common.{◌≡◌, ℕ, ◌<◌, ◌≤◌, false, ◌||◌, get_or}
use Rattle.halver.proofs.Aside.join_to.Given as goal

-- below n the marks are joined, and from it on they are as they were
abbrev pub invariant-loop-n : goal.invariant-loop-n
invariant-loop-n l =
    ((k : ℕ) → k < l.n → get_or l.marks k false ≡ (get_or l.core k false || get_or l.initial.marks k false)) ×
    ((k : ℕ) → l.n ≤ k → get_or l.marks k false ≡ get_or l.initial.marks k false)
