-- Settings that plays give.
use Rattle.std.proofs.Common.{◌≡◌, ℕ, zero, suc, ◌+◌, ◌-◌, ◌<◌, ◌≤◌, Bool, true, false, cond, eqb, ltb, List, ◌++◌, map, length, get_or, take, drop, replicate, sym, refl, ap, ◌∙◌, subst, ap₂, inl, inr, arith}
use Rattle.std.proofs.lemmas.List.{length-append, length-drop, length-map, length-replicate, length-take-le, get_or_append_left, get_or-append_right, get_or-drop, get_or-map, get_or_past, get_or-replicate, get_or-take}
use Rattle.std.proofs.lemmas.Bool.{cases_lt, cond-false, ne_eqb, lt-ltb, le-ltb, le-leb, lt-leb, and_from, and_left, and_right}
use Rattle.valuation.specs.declared.Value.{Value}
use Rattle.valuation.specs.declared.Value.TheVariants.{Unknown, False}
use Rattle.valuation.specs.Three.{of_bool, Below}
use Rattle.valuation.specs.Circuit.{reads, settings_from}
use Rattle.valuation.proofs.Order.{unknown≢watched, below_same}
use Rattle.copies.specs.Copy.{Part, stays, played, lost, Agrees, Unset}
use Rattle.copies.specs.Make.{Nodes, inside, by_value, part_by}
use Rattle.steps.specs.Steps.{base_of, range_of, PlaysSet}

-- bit n of a play
abbrev bit : List Bool → ℕ → Value
bit t n = reads (map of_bool t) n

pub bit_in : (t : List Bool) (n : ℕ) → n < length t → bit t n ≡ of_bool (get_or t n false)
bit_in t n h = get_or-map of_bool t n false Unknown h

bit_out : (t : List Bool) (n : ℕ) → length t ≤ n → bit t n ≡ Unknown
bit_out t n h = get_or_past (map of_bool t) n Unknown (omega (arith, length-map t of_bool))

bit_left : (t s : List Bool) (n : ℕ) → n < length t → bit (t ++ s) n ≡ bit t n
bit_left t s n h = bit_in (t ++ s) n (omega (arith, length-append t s)) ∙ ap of_bool (get_or_append_left t s false n h) ∙ sym (bit_in t n h)

bit_right : (t s : List Bool) (n : ℕ) → length t ≤ n → bit (t ++ s) n ≡ bit s (n - length t)
bit_right t s n h =
    elim (cases_lt (n - length t) (length s)) [
      | inl i ↦ bit_in (t ++ s) n (omega (arith, length-append t s)) ∙ ap of_bool (get_or-append_right t s (length t) n false refl h) ∙ sym (bit_in s (n - length t) i)
      | inr i ↦ bit_out (t ++ s) n (omega (arith, length-append t s)) ∙ sym (bit_out s (n - length t) i)
    ]

bit_drop : (k : ℕ) (t : List Bool) (n : ℕ) → n < length t - k → bit (drop k t) n ≡ of_bool (get_or t (k + n) false)
bit_drop k t n h = bit_in (drop k t) n (omega (arith, length-drop k t)) ∙ ap of_bool (get_or-drop k t n false)

bit_take : (k : ℕ) (t : List Bool) (n : ℕ) → n < k → k ≤ length t → bit t n ≡ bit (take k t) n
bit_take k t n h l =
    let e : length (take k t) ≡ k = length-take-le k t l in
    bit_in t n (omega arith) ∙ ap of_bool (sym (get_or-take k t n false h)) ∙ sym (bit_in (take k t) n (omega arith))

-- a play's settings, and a range's
setting_at : (start : ℕ) (ss : List Value) (n : ℕ) → settings_from start ss (suc n) ≡ cond (ltb (suc n) start) Unknown (reads ss (suc n - start))
setting_at start ss n = cond-false (eqb (suc n) 0) False _ (ne_eqb (suc n) 0 (omega arith))

base_bit : (t : List Bool) (n : ℕ) → base_of t (suc n) ≡ bit t n
base_bit t n = setting_at 1 (map of_bool t) n ∙ ap₂ (λ b m. cond b Unknown (bit t m)) (le-ltb (suc n) 1 (omega arith)) (let e : suc n - 1 ≡ n = omega arith in e)

pub base_in : (t : List Bool) (n : ℕ) → n < length t → base_of t (suc n) ≡ of_bool (get_or t n false)
base_in t n h = base_bit t n ∙ bit_in t n h

range_bit : (k : ℕ) (s : List Bool) (n : ℕ) → k ≤ n → range_of k s (suc n) ≡ bit s (n - k)
range_bit k s n h = setting_at (suc k) (map of_bool s) n ∙ ap₂ (λ b m. cond b Unknown (bit s m)) (le-ltb (suc n) (suc k) (omega arith)) (let e : suc n - suc k ≡ n - k = omega arith in e)

range_none : (k : ℕ) (s : List Bool) (n : ℕ) → n < k → range_of k s (suc n) ≡ Unknown
range_none k s n h = setting_at (suc k) (map of_bool s) n ∙ ap (λ b. cond b Unknown (bit s (suc n - suc k))) (lt-ltb (suc n) (suc k) (omega arith))

below_unknown : (x y : Value) → x ≡ Unknown → Below x y
below_unknown x y u p e = absurd (unknown≢watched p (sym u ∙ e))

-- a longer play
pub play_more : (p s : List Bool) (n : ℕ) → Below (base_of p n) (base_of (p ++ s) n)
play_more p s zero = below_same False False refl
play_more p s (suc n) =
    elim (cases_lt n (length p)) [
      | inl i ↦ below_same _ _ (base_bit (p ++ s) n ∙ bit_left p s n i ∙ sym (base_bit p n))
      | inr i ↦ below_unknown _ _ (base_bit p n ∙ bit_out p n i)
    ]

pub range_play : (p s : List Bool) (n : ℕ) → base_of p n ≡ Unknown → range_of (length p) s n ≡ base_of (p ++ s) n
range_play p s zero e = refl
range_play p s (suc n) e =
    elim (cases_lt n (length p)) [
      | inl i ↦ range_none (length p) s n i ∙ sym e ∙ base_bit p n ∙ sym (bit_left p s n i) ∙ sym (base_bit (p ++ s) n)
      | inr i ↦ range_bit (length p) s n i ∙ sym (bit_right p s n i) ∙ sym (base_bit (p ++ s) n)
    ]

pub range_below : (k : ℕ) (q s : List Bool) → length q ≡ k → (n : ℕ) → Below (range_of k s n) (base_of (q ++ s) n)
range_below k q s l zero = below_same False False refl
range_below k q s l (suc n) =
    elim (cases_lt n k) [
      | inl i ↦ below_unknown _ _ (range_none k s n i)
      | inr i ↦ below_same _ _ (base_bit (q ++ s) n ∙ bit_right q s n (omega arith) ∙ ap (λ j. bit s (n - j)) l ∙ sym (range_bit k s n i))
    ]

-- a play as a list of values, with entries that are not set after it
base_unset : (p : List Bool) (k n : ℕ) → settings_from 1 (map of_bool p ++ replicate k Unknown) n ≡ base_of p n
base_unset p k zero = refl
base_unset p k (suc n) = setting_at 1 (map of_bool p ++ replicate k Unknown) n ∙ ap (λ x. cond (ltb (suc n) 1) Unknown x) (at (suc n - 1)) ∙ sym (setting_at 1 (map of_bool p) n)
  where
    at : (m : ℕ) → reads (map of_bool p ++ replicate k Unknown) m ≡ reads (map of_bool p) m
    at m =
        elim (cases_lt m (length p)) [
          | inl i ↦ get_or_append_left (map of_bool p) (replicate k Unknown) Unknown m (omega (arith, length-map p of_bool))
          | inr i ↦ get_or-append_right (map of_bool p) (replicate k Unknown) (length p) m Unknown (length-map p of_bool) i ∙ unset (m - length p) ∙ sym (bit_out p m i)
        ]
      where
        unset : (j : ℕ) → reads (replicate k Unknown) j ≡ Unknown
        unset j =
            elim (cases_lt j k) [
              | inl i ↦ get_or-replicate k j Unknown Unknown i
              | inr i ↦ get_or_past (replicate k Unknown) j Unknown (omega (arith, length-replicate k Unknown))
            ]

pub plays_set : PlaysSet
plays_set p k i n = base_unset p k n i

of_played : (b : Bool) → by_value (of_bool b) ≡ played b
of_played true = refl
of_played false = refl

abbrev kind : Part → ℕ
kind stays = 0
kind (played b) = 1
kind lost = 2

within : (r : Nodes) (n : ℕ) → r.start ≤ n → n < r.stop → inside r n ≡ true
within r n a b = and_from _ _ (le-leb r.start n a) (lt-ltb n r.stop b)

before : (r : Nodes) (n : ℕ) → n < r.start → inside r n ≡ false
before r n h = and_left _ _ (lt-leb r.start n h)

past : (r : Nodes) (n : ℕ) → r.stop ≤ n → inside r n ≡ false
past r n h = and_right _ _ (le-ltb n r.stop h)

-- What becomes of the inputs in a settlement: the variables from lo to mid were played, those from mid to hi are lost.
module _ (lo mid hi : ℕ) (p : List Bool) (lm : lo ≤ mid) (mh : mid ≤ hi) (long : length p ≡ mid) where
  abbrev below : Nodes
  below = record { start = suc lo; stop = suc mid }

  abbrev mine : Nodes
  mine = record { start = suc mid; stop = suc hi }

  -- by where a variable stands
  parts : (P : Part → Type 0) (n : ℕ) → (n < lo → P stays) → (lo ≤ n → n < mid → P (played (get_or p n false))) → (mid ≤ n → n < hi → P lost) → (hi ≤ n → P stays) →
      P (part_by below mine (base_of p) (suc n))
  parts P n a b c d =
      elim (cases_lt n mid) [
        | inl m ↦ elim (cases_lt n lo) [
          | inl i ↦ subst P (sym (by false false (before mine (suc n) (omega arith)) (before below (suc n) (omega arith)))) (a i)
          | inr i ↦ subst P (sym (by false true (before mine (suc n) (omega arith)) (within below (suc n) (omega arith) (omega arith)) ∙ ap by_value (base_in p n (omega arith)) ∙ of_played (get_or p n false))) (b i m)
        ]
        | inr m ↦ elim (cases_lt n hi) [
          | inl i ↦ subst P (sym (by true (inside below (suc n)) (within mine (suc n) (omega arith) (omega arith)) refl)) (c m i)
          | inr i ↦ subst P (sym (by false false (past mine (suc n) (omega arith)) (past below (suc n) (omega arith)))) (d i)
        ]
      ]
    where
      by : (x y : Bool) → inside mine (suc n) ≡ x → inside below (suc n) ≡ y → part_by below mine (base_of p) (suc n) ≡ cond x lost (cond y (by_value (base_of p (suc n))) stays)
      by x y e f = ap₂ (λ u v. cond u lost (cond v (by_value (base_of p (suc n))) stays)) e f

  zero_stays : part_by below mine (base_of p) 0 ≡ stays
  zero_stays = ap₂ (λ u v. cond u lost (cond v (by_value (base_of p 0)) stays)) (before mine 0 (omega arith)) (before below 0 (omega arith))

  pub agrees : (t s : List Bool) → length t ≡ lo → length s ≡ hi - mid → (n : ℕ) → Agrees (part_by below mine (base_of p) n) (base_of t n) (base_of ((t ++ drop lo p) ++ s) n)
  agrees t s lt ls zero = rw zero_stays refl
  agrees t s lt ls (suc n) =
      let q = t ++ drop lo p in
      let lq : length q ≡ mid = omega (arith, length-append t (drop lo p), length-drop lo p) in
      let at_t = base_bit t n in
      let at_q = base_bit (q ++ s) n in
      parts (λ a. Agrees a (base_of t (suc n)) (base_of (q ++ s) (suc n))) n
      (λ h. at_q ∙ bit_left q s n (omega arith) ∙ bit_left t (drop lo p) n (omega arith) ∙ sym at_t)
      (λ h i. at_q ∙ bit_left q s n (omega arith) ∙ bit_right t (drop lo p) n (omega arith) ∙ bit_drop lo p (n - length t) (omega arith) ∙ ap (λ k. of_bool (get_or p k false)) (let e : lo + (n - length t) ≡ n = omega arith in e))
      (λ h i. tt)
      (λ h. at_q ∙ bit_out (q ++ s) n (omega (arith, length-append q s)) ∙ sym (bit_out t n (omega arith)) ∙ sym at_t)

  pub unsets : (n : ℕ) → Unset (part_by below mine (base_of p) n) (base_of (take lo p) n) (base_of p n)
  unsets zero = rw zero_stays refl
  unsets (suc n) =
      let lt : length (take lo p) ≡ lo = length-take-le lo p (omega arith) in
      let at_t = base_bit (take lo p) n in
      let at_p = base_bit p n in
      parts (λ a. Unset a (base_of (take lo p) (suc n)) (base_of p (suc n))) n
      (λ h. at_p ∙ bit_take lo p n h (omega arith) ∙ sym at_t)
      (λ h i. at_p ∙ bit_in p n (omega arith))
      (λ h i. at_p ∙ bit_out p n (omega arith))
      (λ h. at_p ∙ bit_out p n (omega arith) ∙ sym (bit_out (take lo p) n (omega arith)) ∙ sym at_t)

  -- of the variables below hi only those below lo stay
  pub stay_low : (n : ℕ) → n < suc hi → part_by below mine (base_of p) n ≡ stays → n < suc lo
  stay_low zero h e = omega arith
  stay_low (suc n) h e =
      parts (λ a. a ≡ stays → suc n < suc lo) n (λ i e. omega arith) (λ i j e. absurd (omega (arith, ap kind e))) (λ i j e. absurd (omega (arith, ap kind e))) (λ i e. absurd (omega arith)) e
