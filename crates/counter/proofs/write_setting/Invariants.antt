use Rattle.std.proofs.Common.{◌≡◌, ℕ, ◌<◌, get_or}
use Rattle.valuation.specs.declared.Value.TheVariants.{Unknown}
use Rattle.valuation.specs.Rails.{on}
use Rattle.valuation.specs.Three.{of_bool}
use Rattle.counter.proofs.write_setting.Given as goal

-- the variables so far have their bits
abbrev pub invariant-loop-k : goal.invariant-loop-k
invariant-loop-k l = (i : ℕ) → i < l.k → get_or l.range i Unknown ≡ of_bool (on l.case i)
