-- What a rule gives for the settings of some inputs.
use Rattle.std.specs.Prelude.{◌≡◌, ℕ, ◌<◌, List, length, slice_index_or}
use Rattle.valuation.specs.declared.Value.{Value}
use Rattle.valuation.specs.declared.Value.TheVariants.{Unknown}

-- seen in one case, the results of a rule at 0, 1 .. are these settings
pub record GivesIn {X : Type 0} (seen : X → Value) (gives : ℕ → X → Type 0) (count : ℕ) (settings : List Value) : Type 0 where
  pub counted : length settings ≡ count
  pub each : (k : ℕ) (x : X) → k < count → gives k x → seen x ≡ slice_index_or settings k Unknown
