-- The lowest one bit, byte by byte.
use Rattle.std.proofs.Common.{◌≡◌, ℕ, zero, suc, ◌+◌, ◌-◌, ◌/◌, ◌%◌, ◌^◌, ◌<◌, ◌≤◌, Bool, true, false, cond, eqb, ◌⊎◌, List, get_or, sym, refl, ap, ◌∙◌, subst, inl, inr, zero-add, div-one, add-one, one-add, arith}
use lib.Bits.{bit_and}
use lib.Pow.{mod-mod-pow}
use Rattle.std.proofs.lemmas.Nat.{and_mask, shr-shr, field_of}
use Rattle.std.proofs.lemmas.Bool.{eqb-true, cases_Bool, cond-true, cond-false}
use Rattle.valuation.specs.Rails.{on}
use Rattle.counting.specs.Lowest.{lowest}
use Rattle.counting.proofs.Digits.{on_zero, on_suc, each, each_below}

-- n is m, below a; or m is a, and n is k further on
abbrev pub Parts : ℕ → ℕ → ℕ → ℕ → Type 0
Parts a m n k = ((m < a) × (n ≡ m)) ⊎ ((m ≡ a) × (n ≡ a + k))

parts_more : (t : Bool) (a m n k : ℕ) → Parts a m n k → Parts (suc a) (cond t 0 (suc m)) (cond t 0 (suc n)) k
parts_more true a m n k h = inl (omega arith, refl)
parts_more false a m n k h = elim h [ inl p ↦ inl (omega arith, ap suc p.1) | inr p ↦ inr (ap suc p.0, omega arith) ]

-- the lowest one of a + b bits is that of the first a, or of the others
lowest_parts : (a b n x : ℕ) → n ≡ a + b → Parts a (lowest a x) (lowest n x) (lowest b (x / 2 ^ a))
unfolding lowest
lowest_parts zero b n x e = inr (refl, ap (λ m. lowest m x) (omega arith) ∙ ap (lowest b) (sym (div-one x)) ∙ sym (zero-add _))
lowest_parts (suc a) b zero x e = absurd (let z : ⊥ = omega arith in z)
lowest_parts (suc a) b (suc n) x e =
    let halved : x / 2 / 2 ^ a ≡ x / 2 ^ suc a = shr-shr x 1 a ∙ ap (λ k. x / 2 ^ k) (one-add a) in
    rw halved at (parts_more (eqb (x % 2) 1) a _ _ (lowest b (x / 2 / 2 ^ a)) (lowest_parts a b n (x / 2) (omega arith)))

-- the bits above the first w do not matter
lowest_mod : (w x : ℕ) → lowest w (x % 2 ^ w) ≡ lowest w x
unfolding lowest
lowest_mod zero x = refl
lowest_mod (suc w) x =
    let bit : x % 2 ^ suc w % 2 ≡ x % 2 = ap (λ k. x % 2 ^ k % 2) (sym (add-one w)) ∙ mod-mod-pow x w 1 in
    let half : x % 2 ^ suc w / 2 ≡ x / 2 % 2 ^ w = ap (λ k. x % 2 ^ k / 2) (sym (add-one w)) ∙ field_of x w 1 in
    rw (bit, half, lowest_mod w (x / 2))

-- one byte on: b is what the table gives
pub one_byte : (base rest b : ℕ) → base + 8 ≤ 64 → b ≡ lowest 8 (bit_and rest 255) → Parts 8 b (lowest (64 - base) rest) (lowest (64 - (base + 8)) (rest / 256))
one_byte base rest b h e =
    let whole : b ≡ lowest 8 rest = e ∙ ap (lowest 8) (and_mask rest 8) ∙ lowest_mod 8 rest in
    subst (λ (n : ℕ). Parts 8 n (lowest (64 - base) rest) (lowest (64 - (base + 8)) (rest / 256))) (sym whole) (lowest_parts 8 (64 - (base + 8)) (64 - base) rest (omega arith))

pub none_left : (n x : ℕ) → n ≡ 0 → lowest n x ≡ 0
unfolding lowest
none_left n x e = ap (λ m. lowest m x) e

-- below the lowest one every bit is zero ..
pub lowest_clear : (w x k : ℕ) → k < lowest w x → on x k ≡ false
unfolding lowest
lowest_clear zero x k h = absurd (omega arith)
lowest_clear (suc w) x k h = elim (cases_Bool (eqb (x % 2) 1)) [
  | inl e ↦ absurd (let z : k < 0 = rw (cond-true (eqb (x % 2) 1) 0 (suc (lowest w (x / 2))) e) at h in omega arith)
  | inr e ↦ below k e (rw (cond-false (eqb (x % 2) 1) 0 (suc (lowest w (x / 2))) e) at h) (lowest_clear w (x / 2))
]
  where
    below : (k : ℕ) → eqb (x % 2) 1 ≡ false → k < suc (lowest w (x / 2)) → ((i : ℕ) → i < lowest w (x / 2) → on (x / 2) i ≡ false) → on x k ≡ false
    below zero e h rest = on_zero x ∙ e
    below (suc k) e h rest = on_suc x k ∙ rest k (omega arith)

-- .. and it is one
pub lowest_here : (w x : ℕ) → lowest w x < w → on x (lowest w x) ≡ true
unfolding lowest
lowest_here zero x h = absurd (omega arith)
lowest_here (suc w) x h = elim (cases_Bool (eqb (x % 2) 1)) [
  | inl e ↦ ap (on x) (cond-true (eqb (x % 2) 1) 0 (suc (lowest w (x / 2))) e) ∙ on_zero x ∙ e
  | inr e ↦
      let is = cond-false (eqb (x % 2) 1) 0 (suc (lowest w (x / 2))) e in
      ap (on x) is ∙ on_suc x (lowest w (x / 2)) ∙ lowest_here w (x / 2) (omega (arith, is))
]

-- a table of the lowest ones of bytes, tested at all of its entries
pub table_rule : (entries : List ℕ) → each 256 (λ k. eqb (get_or entries k 0) (lowest 8 k)) ≡ true → (x : ℕ) → x < 256 → get_or entries x 0 ≡ lowest 8 x
table_rule entries e x h = eqb-true (get_or entries x 0) (lowest 8 x) (each_below 256 (λ k. eqb (get_or entries k 0) (lowest 8 k)) e x h)
