-- Groups of 64 cases, tried one after the other.
use Rattle.std.proofs.Common.{◌≡◌, ℕ, ◌+◌, ◌-◌, ◌*◌, ◌%◌, ◌^◌, ◌<◌, ◌≤◌, Bool, true, false, not, ◌&&◌, ltb, map, replicate, Some, None, Option, sym, ap, ◌∙◌, subst, inl, inr, arith}
use Rattle.std.proofs.lemmas.Nat.{pow-add, pow_pos, pow_below, one_shl}
use Rattle.std.proofs.lemmas.Bool.{cases_lt, and_cases, and_parts, ltb-true, lt-ltb, not-true, not-false, false≢true}
use Rattle.valuation.specs.declared.Value.TheVariants.{Unknown}
use Rattle.valuation.specs.Three.{of_bool}
use Rattle.valuation.specs.Rails.{on}
use Rattle.search.specs.declared.Reply.TheVariants.{Move, NoMove, Spent}
use Rattle.search.specs.Queries.{Query}
use Rattle.search.specs.Answers.{Answered}
use Rattle.search.proofs.Shown.{spent, enough}
use Rattle.counting.specs.Lowest.{lowest}
use Rattle.counting.specs.Counting.{setting, refutes, first_open, group_of, groups, group_size, core, counted, counts}
use Rattle.counting.proofs.Lowest.{lowest_clear, lowest_here}
use Rattle.counting.proofs.Cases.{Says, first_says, first_some, first_none}

-- the open cases of a group as a word: those that count and are not refuted
module _ (refuted : ℕ → Bool) (g f word : ℕ) (bits : (c : ℕ) → c < 64 → on word c ≡ (ltb c (2 ^ f) && not (refuted (64 * g + c)))) where
  shut : (j c : ℕ) → j ≡ 64 * g + c → c < 64 → c < 2 ^ f → on word c ≡ false → refuted j ≡ true
  shut j c e h l o =
      elim (and_cases (ltb c (2 ^ f)) (not (refuted (64 * g + c))) (sym (bits c h) ∙ o)) [
        | inl n ↦ absurd (false≢true (sym n ∙ lt-ltb c (2 ^ f) l))
        | inr n ↦ ap refuted e ∙ not-false (refuted (64 * g + c)) n
      ]

  pub open_some : (place : ℕ) → place ≡ lowest 64 word → place < 64 → Some (64 * g + place) ≡ first_open refuted (64 * g) (group_size f)
  open_some place is h =
      let p = and_parts (ltb place (2 ^ f)) (not (refuted (64 * g + place))) (sym (bits place h) ∙ ap (on word) is ∙ lowest_here 64 word (omega arith)) in
      let l = ltb-true place (2 ^ f) p.0 in
      sym (first_some refuted (64 * g) (group_size f) (64 * g + place) (omega arith) (omega arith)
      (λ j a b. shut j (j - 64 * g) (omega arith) (omega arith) (omega arith) (lowest_clear 64 word (j - 64 * g) (omega arith))) (not-true _ p.1))

  pub open_none : (place : ℕ) → place ≡ lowest 64 word → 64 ≤ place → None ≡ first_open refuted (64 * g) (group_size f)
  open_none place is h =
      sym (first_none refuted (64 * g) (group_size f) (λ j a b. shut j (j - 64 * g) (omega arith) (omega arith) (omega arith) (lowest_clear 64 word (j - 64 * g) (omega arith))))

-- whole groups, or a part of one
groups_fit : (f g : ℕ) → g < groups f → 64 * g + group_size f ≤ 2 ^ f
groups_fit f g h =
    elim (cases_lt f 6) [
      | inl few ↦ omega (arith, pow_below f 6 few)
      | inr many ↦ let e : 2 ^ f ≡ 64 * 2 ^ (f - 6) = ap (λ n. 2 ^ n) (omega arith) ∙ pow-add 2 6 (f - 6) in omega arith
    ]

pub groups_few : (f : ℕ) → f < 6 → 1 ≡ groups f
groups_few f h = omega (arith, pow_below f 6 h, pow_pos f)

pub groups_many : (f : ℕ) → 6 ≤ f → f ≤ 40 → (1 * 2 ^ (f - 6)) % 2 ^ 64 ≡ groups f
groups_many f h l =
    let e : 2 ^ f ≡ 64 * 2 ^ (f - 6) = ap (λ n. 2 ^ n) (omega arith) ∙ pow-add 2 6 (f - 6) in
    one_shl (f - 6) 64 (omega arith) ∙ omega arith

module _ (q : Query) where
  -- every case of the first g groups is refuted
  abbrev pub Tried : ℕ → Type 0
  Tried g = (t : ℕ) → t < 64 * g → t < 2 ^ q.free → refutes q t ≡ true

  pub tried_more : (g : ℕ) → Tried g → first_open (refutes q) (64 * g) (group_size q.free) ≡ None → Tried (g + 1)
  tried_more g before e t h l =
      let here : Says (refutes q) (64 * g) (group_size q.free) None = subst (Says (refutes q) (64 * g) (group_size q.free)) e (first_says (refutes q) (64 * g) (group_size q.free)) in
      elim (cases_lt t (64 * g)) [
        | inl low ↦ before t low l
        | inr high ↦ here t high (omega arith)
      ]

  found : (g t : ℕ) → g < groups q.free → Tried g → first_open (refutes q) (64 * g) (group_size q.free) ≡ Some t →
      (first_open (refutes q) 0 (2 ^ q.free) ≡ Some t) × (group_of t ≡ g)
  found g t h before e =
      let here : Says (refutes q) (64 * g) (group_size q.free) (Some t) = subst (Says (refutes q) (64 * g) (group_size q.free)) e (first_says (refutes q) (64 * g) (group_size q.free)) in
      let low = here.0 in
      let high = here.1 in
      let fit = groups_fit q.free g h in (
        first_some (refutes q) 0 (2 ^ q.free) t (omega arith) (omega arith) (λ j a b. elim (cases_lt j (64 * g)) [ inl below ↦ before j below (omega arith) | inr above ↦ here.3 j above b ]) here.2,
        omega arith,
      )

  none : Tried (groups q.free) → first_open (refutes q) 0 (2 ^ q.free) ≡ None
  none before = first_none (refutes q) 0 (2 ^ q.free) (λ j a b. before j (omega arith) (omega arith))

  -- with g groups tried in vain, g steps do not suffice
  short : (g : ℕ) → g < groups q.free → Tried g → (o : Option ℕ) → Says (refutes q) 0 (2 ^ q.free) o → g < (counted q o).need
  short g h before (Some t) s =
      elim (cases_lt t (64 * g)) [
        | inl low ↦ absurd (false≢true (sym s.2 ∙ before t low (omega (arith, s.1))))
        | inr high ↦ omega arith
      ]
  short g h before None s = h

  module _ (allowance nodes g : ℕ) (before : Tried g) where
    pub counts_spent : g ≡ allowance → g < groups q.free → Answered (counts q) allowance nodes q.free (replicate q.free Unknown) (replicate nodes false) Spent
    counts_spent e h = spent (counts q) allowance nodes q.free (omega (arith, short g h before (first_open (refutes q) 0 (2 ^ q.free)) (first_says (refutes q) 0 (2 ^ q.free))))

    pub counts_moves : (t : ℕ) → g < allowance → g < groups q.free → first_open (refutes q) (64 * g) (group_size q.free) ≡ Some t →
        Answered (counts q) allowance nodes q.free (map of_bool (setting q.free t)) (replicate nodes false) (Move (g + 1))
    counts_moves t l h e =
        let is = found g t h before e in
        subst (λ k. Answered (counts q) allowance nodes q.free (map of_bool (setting q.free t)) (replicate nodes false) (Move (k + 1))) is.1
        (subst (λ o. Answered (counted q o) allowance nodes q.free (map of_bool (setting q.free t)) (replicate nodes false) (Move (group_of t + 1))) (sym is.0) (enough (counted q (Some t)) allowance nodes q.free (omega (arith, is.1))))

    pub counts_loses : g ≤ allowance → g ≡ groups q.free → Answered (counts q) allowance nodes q.free (replicate q.free Unknown) (core q) (NoMove (groups q.free))
    counts_loses l e =
        subst (λ o. Answered (counted q o) allowance nodes q.free (replicate q.free Unknown) (core q) (NoMove (groups q.free))) (sym (none (λ t a b. before t (omega arith) b)))
        (enough (counted q None) allowance nodes q.free (omega arith))
