-- One pass down that marks all that is reached: each marked place, from the highest, marks the lower places that it leads to.
use Rattle.std.specs.Prelude.{◌≡◌, ℕ, zero, suc, Bool, true, false, cond, ◌⊎◌, List, [], ◌∷◌, replicate, slice_index_or, slice_set}

-- the marks, with those of some places added
abbrev pub marked : List ℕ → List Bool → List Bool
marked [] ms = ms
marked (j ∷ js) ms = marked js (slice_set ms j true)

-- the places below a bound, done from the highest down
abbrev pub sweep : (ℕ → List ℕ) → ℕ → List Bool → List Bool
sweep next zero ms = ms
sweep next (suc i) ms = sweep next i (cond (slice_index_or ms i false) (marked (next i) ms) ms)

-- what one pass marks from some starting places
abbrev pub swept : (ℕ → List ℕ) → ℕ → List ℕ → List Bool
swept next size start = sweep next size (marked start (replicate size false))

-- a place is one of a list
abbrev pub In : ℕ → List ℕ → Type 0
In i [] = ⊥
In i (j ∷ js) = (i ≡ j) ⊎ In i js

-- what some way leads to
pub data From (next : ℕ → List ℕ) (start : List ℕ) : ℕ → Type 0 where
  begin : (i : ℕ) → In i start → From next start i
  go : (i j : ℕ) → From next start i → In j (next i) → From next start j
