-- What cannot be. Assumes nothing.
use Rattle.std.proofs.Common.{◌≡◌, ℕ, arith}

pub impossible : {X : Type 0} → ◌≡◌ {A = ℕ} 0 1 → X
impossible e = absurd (let none : ⊥ = omega arith in none)
