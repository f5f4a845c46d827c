-- The splitter's meaning. A node of its tree is a front part of a setting, with the variables after it unset: a step works out the root
-- there once. If the root is false, the branch is refuted; if it is true, or no variable is unset, the setting is the move, with unset
-- variables false; otherwise the next variable is set, first false, then true.
use Rattle.std.specs.Prelude.{ℕ, zero, suc, ◌+◌, ◌/◌, Bool, true, false, ◌||◌, List, [], ◌∷◌, ◌++◌, map, replicate}
use Rattle.valuation.specs.declared.Value.{Value}
use Rattle.valuation.specs.declared.Value.TheVariants.{Unknown, False, True}
use Rattle.valuation.specs.Three.{of_bool}
use Rattle.valuation.specs.Circuit.{reads}
use Rattle.search.specs.Queries.{Query, values_under, root_under}
use Rattle.search.specs.Answers.{Outcome, moves, loses, Answer}
use Rattle.splitting.specs.Blame.{core}

-- the value of the root at a node of the tree
abbrev pub root_at : Query → List Bool → Value
root_at q s = root_under q (reads q.forced) (map of_bool s)

-- the core of a branch that is refuted there
abbrev pub core_at : Query → List Bool → List Bool
core_at q s = core (1 + q.variables) q.gates (reads q.forced) (values_under q (reads q.forced) (map of_bool s)) (q.root / 2)

abbrev pub answer : Outcome → ℕ → Answer
answer o n = record { outcome = o; need = n }

-- the answer of a node, by the root's value there: if the branch is refuted, if it is a move, and by the two ways on
abbrev pub by_root : Value → Answer → Answer → Answer → Answer
by_root False lost moved split = lost
by_root True lost moved split = moved
by_root Unknown lost moved split = split

-- two cores joined
abbrev pub join : List Bool → List Bool → List Bool
join [] ds = []
join (c ∷ cs) [] = c ∷ cs
join (c ∷ cs) (d ∷ ds) = (c || d) ∷ join cs ds

-- the second way, after the first had no move, a core and a need
abbrev pub second : List Bool → ℕ → Outcome → ℕ → Answer
second c m (moves s) n = answer (moves s) (1 + m + n)
second c m (loses d) n = answer (loses (join c d)) (1 + m + n)

-- both ways and the node's own step; the second only after no move
abbrev pub ways : Outcome → ℕ → Answer → Answer
ways (moves s) m b = answer (moves s) (1 + m)
ways (loses c) m b = second c m b.outcome b.need

abbrev pub lost_at : Query → List Bool → Answer
lost_at q s = answer (loses (core_at q s)) 1

-- k variables are unset
abbrev pub moved_at : ℕ → List Bool → Answer
moved_at k s = answer (moves (s ++ replicate k false)) 1

-- the answer at a node of the tree with k variables unset, and the number of nodes visited from there on
unfoldable pub tree : Query → ℕ → List Bool → Answer
tree q zero s = by_root (root_at q s) (lost_at q s) (moved_at 0 s) (moved_at 0 s)
tree q (suc k) s =
    let a = tree q k (s ++ (false ∷ [])) in
    by_root (root_at q s) (lost_at q s) (moved_at (suc k) s) (ways a.outcome a.need (tree q k (s ++ (true ∷ []))))

abbrev pub splits : Query → Answer
splits q = tree q q.free []
