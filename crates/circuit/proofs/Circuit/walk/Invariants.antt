use Rattle.std.proofs.Common.{◌≡◌, ℕ, ◌+◌, ◌<◌, map, length, take, drop}
use Rattle.valuation.specs.Circuit.{reads, values_of}
use Rattle.circuit.specs.Gates.{pairs}
use Rattle.circuit.proofs.Circuit.walk.Given as goal

-- what is left of the gates gives the same values, and nothing beyond them has changed
abbrev pub invariant-loop-k : goal.invariant-loop-k
invariant-loop-k g l =
    (length l.values ≡ length l.initial.values) ×
    ((c : ℕ) → c < g.K.Kind.CASES →
    values_of (drop l.k (pairs l.self.gates.now)) (reads l.forced) (map (λ v. g.K.Kind.at v c) (take (l.self.first + l.k) l.values))
    ≡ values_of (pairs l.self.gates.now) (reads l.forced) (map (λ v. g.K.Kind.at v c) (take l.self.first l.initial.values))) ×
    (drop (l.self.first + length l.self.gates.now) l.values ≡ drop (l.self.first + length l.self.gates.now) l.initial.values) ×
    (take l.self.first l.values ≡ take l.self.first l.initial.values)
