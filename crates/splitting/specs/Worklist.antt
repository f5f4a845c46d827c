-- A worklist: places to go through, each once, in a list as they were found, with a flag for each place that is found.
use Rattle.std.specs.Prelude.{ℕ, ◌+◌, Bool, false, cond, ◌||◌, List, [], ◌∷◌, ◌++◌, ◌==◌}

-- whether a place stands in a list
abbrev pub holds : List ℕ → ℕ → Bool
holds [] n = false
holds (m ∷ ms) n = m == n || holds ms n

-- a list with some places noted at its end, but for those that stand in it
abbrev pub noted : List ℕ → List ℕ → List ℕ
noted [] order = order
noted (n ∷ ns) order = noted ns (cond (holds order n) order (order ++ (n ∷ [])))

-- how many flags are set
abbrev pub flag_count : List Bool → ℕ
flag_count [] = 0
flag_count (b ∷ bs) = cond b 1 0 + flag_count bs
