-- Sound queries, small ones: the variables are 1 and 2, gate 3 is variable 1 twice and is forced, gate 4 joins it with variable 2, which is free.
use Rattle.std.specs.Prelude.{◌≡◌, ◌≤◌, Bool, true, false, List, [], ◌∷◌, length}
use Rattle.valuation.specs.declared.Value.TheVariants.{Unknown}
use Rattle.valuation.specs.Three.{of_bool}
use Rattle.valuation.specs.Circuit.{reads}
use Rattle.search.specs.Queries.{Query, Sound, Refuted}

-- gate 3 is forced to v
abbrev pub example : Bool → Query
example v = record {
  variables = 2;
  gates = record { left = 2; right = 2 } ∷ record { left = 6; right = 4 } ∷ [];
  root = 8;
  start = 2;
  forced = Unknown ∷ Unknown ∷ Unknown ∷ of_bool v ∷ Unknown ∷ [];
  free = 1;
}

-- sound queries with a free variable and a forced gate exist, one with a move, and one in which every setting is refuted
pub record BothOutcomes : Type 0 where
  pub sound : (v : Bool) → Sound (example v)
  pub forced : (v : Bool) → reads (example v).forced 3 ≡ of_bool v
  pub free : (v : Bool) → 1 ≤ (example v).free
  pub move : Refuted (example true) (reads (example true).forced) (true ∷ []) → ⊥
  pub refuted : (s : List Bool) → length s ≡ 1 → Refuted (example false) (reads (example false).forced) s
