-- A counter tries every setting of the range, case by case, in groups of 64.
use Rattle.std.specs.Prelude.{◌≡◌, ℕ, zero, suc, ◌+◌, ◌*◌, ◌/◌, ◌^◌, ◌<◌, min, Bool, cond, List, [], ◌∷◌, map, length, Some, None, Option}
use Rattle.std.specs.List.{range_with_len}
use Rattle.valuation.specs.Three.{of_bool}
use Rattle.valuation.specs.Rails.{on, is_false}
use Rattle.valuation.specs.Circuit.{reads}
use Rattle.valuation.specs.Reach.{reach}
use Rattle.search.specs.Queries.{Query, root_under}
use Rattle.search.specs.Answers.{moves, loses, Answer, forced_of, Keeps}

-- case t gives the k-th of f variables bit k of t
abbrev pub setting : ℕ → ℕ → List Bool
setting f t = map (on t) (range_with_len 0 f)

-- the case of a setting
abbrev pub case_of : List Bool → ℕ
case_of [] = 0
case_of (b ∷ s) = cond b 1 0 + 2 * case_of s

-- whether the setting of case t is refuted
abbrev pub refutes : Query → ℕ → Bool
refutes q t = is_false (root_under q (reads q.forced) (map of_bool (setting q.free t)))

-- the first of n cases, from t on, that is not refuted
unfoldable pub first_open : (ℕ → Bool) → ℕ → ℕ → Option ℕ
first_open refuted t zero = None
first_open refuted t (suc n) = cond (refuted t) (first_open refuted (suc t) n) (Some t)

-- the group of a case
abbrev pub group_of : ℕ → ℕ
group_of t = t / 64

-- how many groups the cases of f variables have: with f below 6 a part of one
abbrev pub groups : ℕ → ℕ
groups f = group_of (2 ^ f + 63)

-- how many cases of a group count
abbrev pub group_size : ℕ → ℕ
group_size f = min 64 (2 ^ f)

-- The core: every forced node that is reached. The root's node is reached, and so are the inputs of a reached gate that is not forced.
abbrev pub core : Query → List Bool
core q = forced_of (reach (1 + q.variables) q.gates (reads q.forced) (q.root / 2)) (reads q.forced) (length q.forced)

-- the steps are the groups that were tried
abbrev pub counted : Query → Option ℕ → Answer
counted q (Some t) = record { outcome = moves (setting q.free t); need = group_of t + 1 }
counted q None = record { outcome = loses (core q); need = groups q.free }

-- what the counter answers
abbrev pub counts : Query → Answer
counts q = counted q (first_open (refutes q) 0 (2 ^ q.free))

-- cases and settings correspond one to one: each setting of f variables is that of one case below 2 ^ f, and no two cases have one
abbrev pub OneToOne : Type 0
OneToOne = ((s : List Bool) → (case_of s < 2 ^ length s) × (setting (length s) (case_of s) ≡ s))
    × ((f t : ℕ) → t < 2 ^ f → case_of (setting f t) ≡ t)

-- the counter keeps what every searcher keeps
abbrev pub CountsKeep : Type 0
CountsKeep = Keeps counts
