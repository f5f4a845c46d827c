-- Bits of masks, and how two masks carry `not` and `and`.
use Rattle.std.proofs.Common.{◌≡◌, ℕ, zero, suc, ◌/◌, ◌%◌, ◌^◌, ◌<◌, Bool, true, false, cond, not, ◌&&◌, ◌||◌, eqb, refl, ap, ◌∙◌, arith, rules}
use lib.Bits.{bit_and, bit_or, bit_xor, and_shr, and_mod, or_shr, or_mod, xor_shr, xor_mod}
use Rattle.std.proofs.lemmas.Nat.{mod_below}
use Rattle.std.proofs.lemmas.Bool.Decides.{Decides-below_and}
use Rattle.valuation.specs.declared.Value.TheVariants.{Unknown}
use Rattle.valuation.specs.Three.{and3, of_bool}
use Rattle.valuation.specs.Rails.{on, of_rails}

-- an operation that works on each digit, and what it does to one
module _ (op : ℕ → ℕ → ℕ) (p : Bool → Bool → Bool)
    (shr : (a b k : ℕ) → op a b / 2 ^ k ≡ op (a / 2 ^ k) (b / 2 ^ k)) (rest : (a b k : ℕ) → op a b % 2 ^ k ≡ op (a % 2 ^ k) (b % 2 ^ k))
    (zero_zero : eqb (op 0 0) 1 ≡ p false false) (zero_one : eqb (op 0 1) 1 ≡ p false true)
    (one_zero : eqb (op 1 0) 1 ≡ p true false) (one_one : eqb (op 1 1) 1 ≡ p true true) where
  digit : (u v : ℕ) → u < 2 → v < 2 → eqb (op u v) 1 ≡ p (eqb u 1) (eqb v 1)
  digit zero zero h k = zero_zero
  digit zero (suc zero) h k = zero_one
  digit (suc zero) zero h k = one_zero
  digit (suc zero) (suc zero) h k = one_one
  digit zero (suc (suc v)) h k = absurd (omega arith)
  digit (suc zero) (suc (suc v)) h k = absurd (omega arith)
  digit (suc (suc u)) v h k = absurd (omega arith)

  on_each : (a b c : ℕ) → on (op a b) c ≡ p (on a c) (on b c)
  on_each a b c =
      ap (λ n. eqb (n % 2) 1) (shr a b c) ∙ ap (λ n. eqb n 1) (rest (a / 2 ^ c) (b / 2 ^ c) 1)
      ∙ digit _ _ (mod_below (a / 2 ^ c) 2 (omega arith)) (mod_below (b / 2 ^ c) 2 (omega arith))

pub on_and : (a b c : ℕ) → on (bit_and a b) c ≡ (on a c && on b c)
on_and = on_each bit_and ◌&&◌ and_shr and_mod refl refl refl refl

pub on_or : (a b c : ℕ) → on (bit_or a b) c ≡ (on a c || on b c)
on_or = on_each bit_or ◌||◌ or_shr or_mod refl refl refl refl

pub on_xor : (a b c : ℕ) → on (bit_xor a b) c ≡ cond (on a c) (not (on b c)) (on b c)
on_xor = on_each bit_xor (λ x y. cond x (not y) y) xor_shr xor_mod refl refl refl refl

pub on_none : (c : ℕ) → on 0 c ≡ false
on_none c = search rules

-- every bit of the full mask is on: 64 tests, computed
abbrev all_on : ℕ → Bool
all_on zero = true
all_on (suc n) = on 0xffff_ffff_ffff_ffff n && all_on n

pub on_all : (c : ℕ) → c < 64 → on 0xffff_ffff_ffff_ffff c ≡ true
on_all = (Decides-below_and (on 0xffff_ffff_ffff_ffff) (λ k. on 0xffff_ffff_ffff_ffff k ≡ true) all_on (λ k. (λ h. h, λ h. h)) refl (λ _. refl) 64).0 refl

-- `and`, case by case
pub and_rails : (p q r s : Bool) → (p && q) ≡ false → (r && s) ≡ false → of_rails (p && r) (q || s) ≡ and3 (of_rails p q) (of_rails r s)
and_rails true true r s h k = cc
and_rails true false true true h k = cc
and_rails true false true false h k = refl
and_rails true false false s h k = refl
and_rails false true r s h k = refl
and_rails false false true true h k = cc
and_rails false false true false h k = refl
and_rails false false false true h k = refl
and_rails false false false false h k = refl

pub and_apart : (p q r s : Bool) → (p && q) ≡ false → (r && s) ≡ false → ((p && r) && (q || s)) ≡ false
and_apart true true r s h k = cc
and_apart true false true true h k = cc
and_apart true false true false h k = refl
and_apart true false false s h k = refl
and_apart false q r s h k = refl

-- a bit b that is known where k is
pub known_rails : (b k : Bool) → of_rails (b && k) (cond (b && k) (not k) k) ≡ cond k (of_bool b) Unknown
known_rails true true = refl
known_rails true false = refl
known_rails false true = refl
known_rails false false = refl

pub known_apart : (b k : Bool) → ((b && k) && cond (b && k) (not k) k) ≡ false
known_apart true true = refl
known_apart true false = refl
known_apart false k = refl
