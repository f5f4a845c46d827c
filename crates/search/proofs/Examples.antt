-- The small sound queries. Assumes nothing.
use Rattle.std.proofs.Common.{◌≡◌, ℕ, zero, suc, ◌+◌, ◌<◌, Bool, true, false, ◌≢◌, List, [], ◌∷◌, length, refl, ap, arith}
use Rattle.valuation.specs.declared.Value.TheVariants.{Unknown, False}
use Rattle.valuation.specs.Three.{of_bool}
use Rattle.valuation.specs.Circuit.{Ascending, Values, nothing, reads, node_values}
use Rattle.valuation.proofs.Order.{True≢False}
use Rattle.search.specs.Queries.{Sound, Refuted}
use Rattle.search.specs.Examples.{example, BothOutcomes}

play : Bool → Values
play v zero = False
play v (suc zero) = of_bool v
play v (suc (suc n)) = Unknown

-- only node 3 is forced, and the play gives it that value
given : (v : Bool) (n : ℕ) → n < 5 → reads (example v).forced n ≢ Unknown → reads (node_values 3 (example v).gates nothing (play v)) n ≡ reads (example v).forced n
unfolding play
given v zero lt known = absurd (known refl)
given v (suc zero) lt known = absurd (known refl)
given v (suc (suc zero)) lt known = absurd (known refl)
given true (suc (suc (suc zero))) lt known = refl
given false (suc (suc (suc zero))) lt known = refl
given v (suc (suc (suc (suc zero)))) lt known = absurd (known refl)
given v (suc (suc (suc (suc (suc n))))) lt known = absurd (omega arith)

ascending : (v : Bool) → Ascending 3 (example v).gates
ascending v zero lt = (omega arith, omega arith)
ascending v (suc zero) lt = (omega arith, omega arith)
ascending v (suc (suc k)) lt = absurd (omega arith)

is_sound : (v : Bool) → Sound (example v)
unfolding play
is_sound v =
    record {
      few_variables = omega arith;
      few_gates = omega arith;
      ascending = ascending v;
      rooted = omega arith;
      covered = refl;
      variable = omega arith;
      inside = omega arith;
      few_free = omega arith;
      play = play v;
      witness = record { constant = refl; unset = λ k lt. ap (play v) (let e : 2 + k ≡ 2 = omega arith in e); gives = given v };
    }

all_refuted : (s : List Bool) → length s ≡ 1 → Refuted (example false) (reads (example false).forced) s
all_refuted [] e = absurd (omega arith)
all_refuted (true ∷ []) e = refl
all_refuted (false ∷ []) e = refl
all_refuted (b ∷ c ∷ s) e = absurd (omega arith)

pub both_outcomes : BothOutcomes
both_outcomes =
    record {
      sound = is_sound;
      forced = λ v. refl;
      free = λ v. omega arith;
      move = λ e. True≢False e;
      refuted = all_refuted;
    }
