-- The inputs of a circuit in one case.
use Rattle.std.proofs.Common.{◌≡◌, ℕ, ◌<◌, false, List, map, length, get_or, sym, ap, ◌∙◌, arith}
use Rattle.std.proofs.lemmas.List.{ext_get_or, get_or-map, length-map}
use Rattle.std.proofs.lemmas.List.FromFn.{get_or-map-range_with_len}
use Rattle.valuation.specs.declared.Value.{Value}
use Rattle.valuation.specs.declared.Value.TheVariants.{Unknown}
use Rattle.valuation.specs.Three.{of_bool}
use Rattle.valuation.specs.Rails.{on}
use Rattle.valuation.specs.Circuit.{reads}
use Rattle.counting.specs.Counting.{setting}
use Rattle.counting.proofs.Cases.{length_setting}

-- the range has the bits of the case
pub setting_at : (f t k : ℕ) → k < f → reads (map of_bool (setting f t)) k ≡ of_bool (on t k)
setting_at f t k h = get_or-map of_bool (setting f t) k false Unknown (omega (arith, length_setting f t)) ∙ ap of_bool (get_or-map-range_with_len (on t) 0 f k k false h (omega arith))

-- a setting, written place by place
pub setting_written : (f t : ℕ) (xs : List Value) → length xs ≡ f → ((k : ℕ) → k < f → get_or xs k Unknown ≡ of_bool (on t k)) → xs ≡ map of_bool (setting f t)
setting_written f t xs long each =
    ext_get_or Unknown xs (map of_bool (setting f t)) (long ∙ sym (length-map (setting f t) of_bool ∙ length_setting f t))
    (λ k h. let i : k < f = omega arith in each k i ∙ sym (setting_at f t k i))
