-- Bits of numbers, and of the number of a case in a group of 64.
use Rattle.std.proofs.Common.{◌≡◌, ℕ, zero, suc, ◌+◌, ◌-◌, ◌*◌, ◌/◌, ◌%◌, ◌^◌, ◌<◌, ◌≤◌, Bool, true, false, cond, not, ◌&&◌, eqb, ltb, List, [], ◌∷◌, get_or, sym, refl, ap, ◌∙◌, ap₂, div-one, one-add, arith}
use native.Mathlib.Decide.{ℕ_discrete}
use lib.Bits.{bit_and}
use Rattle.std.proofs.lemmas.Nat.{and_mask, shr-shr, pow-add, pow_pos}
use Rattle.std.proofs.lemmas.Bool.{and_parts, lt-ltb, eq-eqb, ne_eqb, false≢true}
use Rattle.valuation.specs.Rails.{on}
use Rattle.valuation.proofs.Masks.{on_and}

pub on_zero : (x : ℕ) → on x 0 ≡ eqb (x % 2) 1
on_zero x = ap (λ n. eqb (n % 2) 1) (div-one x)

pub on_suc : (x k : ℕ) → on x (suc k) ≡ on (x / 2) k
on_suc x k = ap (λ n. eqb (n % 2) 1) (ap (λ n. x / 2 ^ n) (sym (one-add k)) ∙ sym (shr-shr x 1 k))

pub pow_suc : (f : ℕ) → 2 ^ suc f ≡ 2 * 2 ^ f
pow_suc f = ap (λ n. 2 ^ n) (sym (one-add f)) ∙ pow-add 2 1 f

-- the low six bits of a case are those of its place in the group ..
pub on_low : (g c k : ℕ) → k < 6 → on (64 * g + c) k ≡ on c k
on_low g c zero h = ap (λ n. eqb n 1) (omega arith)
on_low g c (suc zero) h = ap (λ n. eqb n 1) (omega arith)
on_low g c (suc (suc zero)) h = ap (λ n. eqb n 1) (omega arith)
on_low g c (suc (suc (suc zero))) h = ap (λ n. eqb n 1) (omega arith)
on_low g c (suc (suc (suc (suc zero)))) h = ap (λ n. eqb n 1) (omega arith)
on_low g c (suc (suc (suc (suc (suc zero))))) h = ap (λ n. eqb n 1) (omega arith)
on_low g c (suc (suc (suc (suc (suc (suc k)))))) h = absurd (omega arith)

-- .. and the others those of the group
pub on_high : (g c k n : ℕ) → c < 64 → n ≡ 6 + k → on (64 * g + c) n ≡ on g k
on_high g c k n h e =
    let whole : (64 * g + c) / 64 ≡ g = omega arith in
    ap (λ i. eqb ((64 * g + c) / 2 ^ i % 2) 1) e ∙ ap (λ i. eqb (i % 2) 1) (sym (shr-shr (64 * g + c) 6 k) ∙ ap (λ i. i / 2 ^ k) whole)

-- a test of each number below a bound
abbrev pub each : ℕ → (ℕ → Bool) → Bool
each zero test = true
each (suc n) test = test n && each n test

pub each_below : (n : ℕ) (test : ℕ → Bool) → each n test ≡ true → (k : ℕ) → k < n → test k ≡ true
each_below zero test e k h = absurd (omega arith)
each_below (suc n) test e k h =
    let p = and_parts (test n) (each n test) e in
    elim (ℕ_discrete k n) [
      | yes s ↦ ap test s ∙ p.0
      | no s ↦ each_below n test p.1 k (omega arith)
    ]

-- whether two bits are equal
abbrev pub alike : Bool → Bool → Bool
alike a b = cond a b (not b)

alike_is : (a b : Bool) → alike a b ≡ true → a ≡ b
alike_is true true e = refl
alike_is true false e = absurd (false≢true e)
alike_is false true e = absurd (false≢true e)
alike_is false false e = refl

-- a row of words whose 64 bits are computed
rows_are : (rows : List ℕ) (n : ℕ) (p : ℕ → ℕ → Bool) → each n (λ k. each 64 (λ c. alike (on (get_or rows k 0) c) (p k c))) ≡ true → (k c : ℕ) → k < n → c < 64 → on (get_or rows k 0) c ≡ p k c
rows_are rows n p e k c h l =
    alike_is (on (get_or rows k 0) c) (p k c) (each_below 64 (λ i. alike (on (get_or rows k 0) i) (p k i)) (each_below n (λ j. each 64 (λ i. alike (on (get_or rows j 0) i) (p j i))) e k h) c l)

-- the cases of a group that have bit k of their number
abbrev pub patterns : List ℕ
patterns = 0xaaaa_aaaa_aaaa_aaaa ∷ 0xcccc_cccc_cccc_cccc ∷ 0xf0f0_f0f0_f0f0_f0f0 ∷ 0xff00_ff00_ff00_ff00 ∷ 0xffff_0000_ffff_0000 ∷ 0xffff_ffff_0000_0000 ∷ []

pub pattern_bits : (k c : ℕ) → k < 6 → c < 64 → on (get_or patterns k 0) c ≡ on c k
pattern_bits = rows_are patterns 6 (λ k c. on c k) refl

-- the cases that count, of f variables below 6
abbrev pub few_cases : List ℕ
few_cases = 0x1 ∷ 0x3 ∷ 0xf ∷ 0xff ∷ 0xffff ∷ 0xffff_ffff ∷ []

pub few_bits : (f c : ℕ) → f < 6 → c < 64 → on (get_or few_cases f 0) c ≡ ltb c (2 ^ f)
few_bits = rows_are few_cases 6 (λ f c. ltb c (2 ^ f)) refl

-- with six variables or more, all 64 count
pub all_count : (f c : ℕ) → 6 ≤ f → c < 64 → ltb c (2 ^ f) ≡ true
all_count f c h l =
    let e : 2 ^ f ≡ 64 * 2 ^ (f - 6) = ap (λ n. 2 ^ n) (omega arith) ∙ pow-add 2 6 (f - 6) in
    lt-ltb c (2 ^ f) (omega (arith, pow_pos (f - 6)))

-- a bit, as a shift and a mask find it ..
module _ (x k : ℕ) where
  last_bit : bit_and (x / 2 ^ k) 1 ≡ x / 2 ^ k % 2
  last_bit = and_mask (x / 2 ^ k) 1

  pub bit_on : bit_and (x / 2 ^ k) 1 ≡ 1 → on x k ≡ true
  bit_on e = eq-eqb _ 1 (sym last_bit ∙ e)

  pub bit_off : (bit_and (x / 2 ^ k) 1 ≡ 1 → ⊥) → on x k ≡ false
  bit_off e = ne_eqb _ 1 (λ o. e (last_bit ∙ o))

-- .. and bit k of a case in the group's number
module _ (g c k : ℕ) (high : 6 ≤ k) (within : c < 64) where
  pub group_on : bit_and (g / 2 ^ (k - 6)) 1 ≡ 1 → on (64 * g + c) k ≡ true
  group_on e = on_high g c (k - 6) k within (omega arith) ∙ bit_on g (k - 6) e

  pub group_off : (bit_and (g / 2 ^ (k - 6)) 1 ≡ 1 → ⊥) → on (64 * g + c) k ≡ false
  group_off e = on_high g c (k - 6) k within (omega arith) ∙ bit_off g (k - 6) e

-- the other bits
pub on_not : (w x c : ℕ) → x < 2 ^ w → c < w → on (2 ^ w - 1 - x) c ≡ not (on x c)
on_not zero x c h l = absurd (omega arith)
on_not (suc w) x zero h l = on_zero (2 ^ suc w - 1 - x) ∙ other (2 ^ suc w - 1 - x) x (omega (arith, pow_suc w)) ∙ ap not (sym (on_zero x))
  where
    other : (y x : ℕ) → y % 2 + x % 2 ≡ 1 → eqb (y % 2) 1 ≡ not (eqb (x % 2) 1)
    other y x e =
        elim (ℕ_discrete (x % 2) 1) [
          | yes o ↦ ne_eqb (y % 2) 1 (λ i. omega arith) ∙ sym (ap not (eq-eqb (x % 2) 1 o))
          | no o ↦ eq-eqb (y % 2) 1 (omega arith) ∙ sym (ap not (ne_eqb (x % 2) 1 o))
        ]
on_not (suc w) x (suc c) h l =
    let half : (2 ^ suc w - 1 - x) / 2 ≡ 2 ^ w - 1 - x / 2 = omega (arith, pow_suc w) in
    on_suc (2 ^ suc w - 1 - x) c ∙ ap (λ y. on y c) half ∙ on_not w (x / 2) c (omega (arith, pow_suc w)) (omega arith) ∙ ap not (sym (on_suc x c))

-- the bits of one word that another has not
pub on_without : (a b c : ℕ) (p q : Bool) → b < 2 ^ 64 → c < 64 → on a c ≡ p → on b c ≡ q → on (bit_and a (2 ^ 64 - 1 - b)) c ≡ (p && not q)
on_without a b c p q h l e o = on_and a (2 ^ 64 - 1 - b) c ∙ ap₂ ◌&&◌ e (on_not 64 b c h l ∙ ap not o)
