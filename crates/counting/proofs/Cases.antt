-- Cases and settings, and the first case that is not refuted.
use Rattle.std.proofs.Common.{◌≡◌, ℕ, zero, suc, ◌+◌, ◌*◌, ◌/◌, ◌%◌, ◌^◌, ◌<◌, ◌≤◌, Bool, true, false, cond, eqb, List, [], ◌∷◌, map, length, Some, None, Option, sym, refl, ap, ◌∙◌, subst, ap₂, inl, inr, add-one, arith}
use Rattle.std.specs.List.{range_with_len}
use Rattle.std.proofs.lemmas.List.FromFn.{length-map-range_with_len}
use Rattle.std.proofs.lemmas.Bool.{cases_eq, cases_Bool, cond-true, cond-false, eq-eqb, ne_eqb, eqb-true, eqb-false}
use Rattle.valuation.specs.Rails.{on}
use Rattle.counting.specs.Counting.{setting, case_of, first_open, OneToOne}
use Rattle.counting.proofs.Digits.{on_zero, on_suc, pow_suc}

-- the first bit, and the others
shift : (f a t : ℕ) → map (on t) (range_with_len (a + 1) f) ≡ map (on (t / 2)) (range_with_len a f)
shift zero a t = refl
shift (suc f) a t = ap₂ (λ b s. b ∷ s) (ap (on t) (add-one a) ∙ on_suc t a) (shift f (a + 1) t)

setting_suc : (f t : ℕ) → setting (suc f) t ≡ eqb (t % 2) 1 ∷ setting f (t / 2)
setting_suc f t = ap₂ (λ b s. b ∷ s) (on_zero t) (shift f 0 t)

pub length_setting : (f t : ℕ) → length (setting f t) ≡ f
length_setting f t = length-map-range_with_len (on t) 0 f

-- b + 2 n
digit_first : (b : Bool) (n : ℕ) → eqb ((cond b 1 0 + 2 * n) % 2) 1 ≡ b
digit_first true n = eq-eqb _ 1 (omega arith)
digit_first false n = ne_eqb _ 1 (λ e. omega arith)

digit_rest : (b : Bool) (n : ℕ) → (cond b 1 0 + 2 * n) / 2 ≡ n
digit_rest true n = omega arith
digit_rest false n = omega arith

digit_most : (b : Bool) (n m : ℕ) → n < m → cond b 1 0 + 2 * n < 2 * m
digit_most true n m h = omega arith
digit_most false n m h = omega arith

digits_join : (t : ℕ) (b : Bool) → eqb (t % 2) 1 ≡ b → cond b 1 0 + 2 * (t / 2) ≡ t
digits_join t true e = omega (arith, eqb-true (t % 2) 1 e)
digits_join t false e = let h = eqb-false (t % 2) 1 e in elim (cases_eq (t % 2) 1) [ inl o ↦ absurd (h o) | inr o ↦ omega arith ]

case_most : (s : List Bool) → case_of s < 2 ^ length s
case_most [] = omega arith
case_most (b ∷ s) = rw pow_suc (digit_most b (case_of s) (2 ^ length s) (case_most s))

setting_case : (s : List Bool) → setting (length s) (case_of s) ≡ s
setting_case [] = refl
setting_case (b ∷ s) =
    setting_suc (length s) (case_of (b ∷ s)) ∙ ap₂ (λ c u. c ∷ u) (digit_first b (case_of s)) (ap (setting (length s)) (digit_rest b (case_of s)) ∙ setting_case s)

case_setting : (f t : ℕ) → t < 2 ^ f → case_of (setting f t) ≡ t
case_setting zero t h = omega arith
case_setting (suc f) t h =
    ap case_of (setting_suc f t) ∙ ap (λ n. cond (eqb (t % 2) 1) 1 0 + 2 * n) (case_setting f (t / 2) (omega (arith, pow_suc f))) ∙ digits_join t (eqb (t % 2) 1) refl

pub one_to_one : OneToOne
one_to_one = (λ s. (case_most s, setting_case s), case_setting)

-- the first case that is not refuted
module _ (refuted : ℕ → Bool) where
  pub first_some : (t n k : ℕ) → t ≤ k → k < t + n → ((j : ℕ) → t ≤ j → j < k → refuted j ≡ true) → refuted k ≡ false → first_open refuted t n ≡ Some k
  unfolding first_open
  first_some t zero k l h before here = absurd (omega arith)
  first_some t (suc n) k l h before here =
      elim (cases_eq t k) [
        | inl e ↦ cond-false (refuted t) _ _ (ap refuted e ∙ here) ∙ ap Some e
        | inr e ↦ cond-true (refuted t) _ _ (before t (omega arith) (omega arith)) ∙ first_some (suc t) n k (omega arith) (omega arith) (λ j a b. before j (omega arith) b) here
      ]

  pub first_none : (t n : ℕ) → ((j : ℕ) → t ≤ j → j < t + n → refuted j ≡ true) → first_open refuted t n ≡ None
  unfolding first_open
  first_none t zero all = refl
  first_none t (suc n) all = cond-true (refuted t) _ _ (all t (omega arith) (omega arith)) ∙ first_none (suc t) n (λ j a b. all j (omega arith) (omega arith))

  -- what it says
  abbrev pub Says : ℕ → ℕ → Option ℕ → Type 0
  Says t n (Some k) = (t ≤ k) × (k < t + n) × (refuted k ≡ false) × ((j : ℕ) → t ≤ j → j < k → refuted j ≡ true)
  Says t n None = (j : ℕ) → t ≤ j → j < t + n → refuted j ≡ true

  says_on : (t n : ℕ) → refuted t ≡ true → (o : Option ℕ) → Says (suc t) n o → Says t (suc n) o
  says_on t n here (Some k) h = (omega (arith, h.0), omega (arith, h.1), h.2, λ j a b. elim (cases_eq j t) [ inl e ↦ ap refuted e ∙ here | inr e ↦ h.3 j (omega arith) b ])
  says_on t n here None h = λ j a b. elim (cases_eq j t) [ inl e ↦ ap refuted e ∙ here | inr e ↦ h j (omega arith) (omega arith) ]

  pub first_says : (t n : ℕ) → Says t n (first_open refuted t n)
  unfolding first_open
  first_says t zero = λ j a b. absurd (omega arith)
  first_says t (suc n) =
      elim (cases_Bool (refuted t)) [
        | inl e ↦ subst (Says t (suc n)) (sym (cond-true (refuted t) _ _ e)) (says_on t n e (first_open refuted (suc t) n) (first_says (suc t) n))
        | inr e ↦ subst (Says t (suc n)) (sym (cond-false (refuted t) _ _ e)) (omega arith, omega arith, e, λ j a b. absurd (omega arith))
      ]
