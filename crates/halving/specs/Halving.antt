-- A halver stands over a searcher of some meaning, and asks it twice: with the first free variable forced false, and then true.
use Rattle.std.specs.Prelude.{ℕ, ◌+◌, ◌-◌, Bool, true, false, cond, ◌||◌, List, ◌∷◌, map, length, ◌==◌, slice_index_or, slice_set}
use Rattle.std.specs.List.{range_with_len}
use Rattle.valuation.specs.Three.{of_bool}
use Rattle.search.specs.Queries.{Query}
use Rattle.search.specs.Answers.{Outcome, moves, loses, Answer, Keeps}

-- the query of the other free variables, the first one forced
abbrev pub under : Query → Bool → Query
under q b = record { variables = q.variables; gates = q.gates; root = q.root; start = q.start + 1; forced = slice_set q.forced q.start (of_bool b); free = q.free - 1 }

-- a setting gets the first variable's value, and a core stays
abbrev pub with_first : Bool → Outcome → Outcome
with_first b (moves s) = moves (b ∷ s)
with_first b (loses core) = loses core

-- one half: what the searcher below answers with the first variable forced
abbrev pub half : (Query → Answer) → Query → Bool → Answer
half m q b = record { outcome = with_first b (m (under q b)).outcome; need = (m (under q b)).need }

-- two cores joined, without a node
abbrev pub joined : ℕ → List Bool → List Bool → List Bool
joined node first second = slice_set (map (λ n. slice_index_or first n false || slice_index_or second n false) (range_with_len 0 (length second))) node false

-- no move in the first half: a move of the second counts, and else both cores
abbrev pub after_loss : ℕ → List Bool → Outcome → Outcome
after_loss node first (moves s) = moves s
after_loss node first (loses second) = loses (joined node first second)

-- the second half counts only after no move
abbrev pub either : ℕ → Outcome → ℕ → Answer → Answer
either node (moves s) need second = record { outcome = moves s; need = 1 + need }
either node (loses core) need second = record { outcome = after_loss node core second.outcome; need = 1 + need + second.need }

-- what a halver answers: with no free variable the query is passed on
abbrev pub halves : (Query → Answer) → Query → Answer
halves m q = cond (q.free == 0) (m q) (either q.start (half m q false).outcome (half m q false).need (half m q true))

-- over a meaning that keeps what every searcher keeps, the halver's keeps it too
abbrev pub HalvesKeep : Type 0
HalvesKeep = (m : Query → Answer) → Keeps m → Keeps (halves m)
