-- What a list of copies has at each place after one was written.
use Rattle.std.proofs.Common.{◌≡◌, ℕ, ◌*◌, ◌/◌, ◌%◌, ◌<◌, Bool, true, false, cond, ◌≢◌, List, length, get_or, set, replicate, is_some, Some, sym, refl, ap, ◌∙◌, ap₂, inl, inr, arith}
use native.Mathlib.Decide.{ℕ_discrete}
use Rattle.std.proofs.lemmas.List.FromFn.{length-map-range_with_len, get_or-map-range_with_len}
use Rattle.std.proofs.lemmas.List.{length-set, get_or-set_same, get_or-set_other, get_or-replicate, length-replicate, ext_get_or}
use Rattle.std.proofs.lemmas.Bool.{cases_Bool, eqb-true, eqb-false}
use Rattle.circuit.specs.declared.Literal.{Literal}
use Rattle.valuation.specs.Circuit.{negated}
use Rattle.copying.specs.declared.places.Copies.{Copies}
use Rattle.copying.specs.Places.{none, held_in, put_in, held, put, shown}

-- the copies of one node
put_same : (e : Copies) (l : ℕ) (c : Literal) → held_in (put_in e l c) l ≡ Some c
put_same e l c =
    elim (cases_Bool (negated l)) [
      | inl t ↦ rw t refl
      | inr t ↦ rw t refl
    ]

put_other : (e : Copies) (l i : ℕ) (c : Literal) → l / 2 ≡ i / 2 → i ≢ l → held_in (put_in e l c) i ≡ held_in e i
put_other e l i c h d =
    elim (cases_Bool (negated l)) [
      | inl t ↦ elim (cases_Bool (negated i)) [
        | inl u ↦ absurd (d (omega (arith, eqb-true (l % 2) 1 t, eqb-true (i % 2) 1 u)))
        | inr u ↦ rw (t, u) refl
      ]
      | inr t ↦ elim (cases_Bool (negated i)) [
        | inl u ↦ rw (t, u) refl
        | inr u ↦ absurd (d (omega (arith, eqb-false (l % 2) 1 t, eqb-false (i % 2) 1 u)))
      ]
    ]

module _ (cs : List Copies) (l : ℕ) (c : Literal) (within : l / 2 < length cs) where
  pub held_same : held (put cs l c) l ≡ Some c
  held_same = ap (λ e. held_in e l) (get_or-set_same cs (l / 2) (put_in (get_or cs (l / 2) none) l c) none within) ∙ put_same (get_or cs (l / 2) none) l c

  pub held_other : (i : ℕ) → i ≢ l → held (put cs l c) i ≡ held cs i
  held_other i d =
      elim (ℕ_discrete (i / 2) (l / 2)) [
        | yes e ↦ ap (λ n. held_in (get_or (put cs l c) n none) i) e
            ∙ ap (λ x. held_in x i) (get_or-set_same cs (l / 2) (put_in (get_or cs (l / 2) none) l c) none within)
            ∙ put_other (get_or cs (l / 2) none) l i c (sym e) d ∙ ap (λ n. held_in (get_or cs n none) i) (sym e)
        | no e ↦ ap (λ x. held_in x i) (get_or-set_other cs (l / 2) (i / 2) (put_in (get_or cs (l / 2) none) l c) none e)
      ]

-- at which places there is a copy
pub length_shown : (cs : List Copies) → length (shown cs) ≡ 2 * length cs
length_shown cs = length-map-range_with_len (λ l. is_some (held cs l)) 0 (2 * length cs)

pub shown_at : (cs : List Copies) (i : ℕ) → i < 2 * length cs → get_or (shown cs) i false ≡ is_some (held cs i)
shown_at cs i h = get_or-map-range_with_len (λ l. is_some (held cs l)) 0 (2 * length cs) i i false h (omega arith)

pub shown_put : (cs : List Copies) (l : ℕ) (c : Literal) → l / 2 < length cs → shown (put cs l c) ≡ set (shown cs) l true
shown_put cs l c h =
    let p = put cs l c in
    let lp : length p ≡ length cs = length-set cs (l / 2) (put_in (get_or cs (l / 2) none) l c) in
    ext_get_or false (shown p) (set (shown cs) l true) (length_shown p ∙ ap (λ n. 2 * n) lp ∙ sym (length_shown cs) ∙ sym (length-set (shown cs) l true))
    (λ i b. let k : i < 2 * length cs = omega (arith, length_shown p) in
    elim (ℕ_discrete i l) [
      | yes e ↦ shown_at p i (omega arith) ∙ ap (λ j. is_some (held p j)) e ∙ ap is_some (held_same cs l c h)
          ∙ sym (get_or-set_same (shown cs) l true false (omega (arith, length_shown cs))) ∙ ap (λ j. get_or (set (shown cs) l true) j false) (sym e)
      | no e ↦ shown_at p i (omega arith) ∙ ap is_some (held_other cs l c h i e) ∙ sym (shown_at cs i k) ∙ sym (get_or-set_other (shown cs) l i true false e)
    ])

-- the same, read by the place's node
pub shown_read : (cs : List Copies) (i l n : ℕ) → i < 2 * length cs → l ≡ i → n ≡ l / 2 → is_some (held_in (get_or cs n none) l) ≡ get_or (shown cs) i false
shown_read cs i l n h a b = ap₂ (λ m j. is_some (held_in (get_or cs m none) j)) (b ∙ ap (λ j. j / 2) a) a ∙ sym (shown_at cs i h)

-- an empty list
pub none_shown : (cs : List Copies) (n : ℕ) → cs ≡ replicate n none → shown cs ≡ replicate (2 * n) false
none_shown cs n e =
    let l : length cs ≡ n = ap length e ∙ length-replicate n none in
    ext_get_or false (shown cs) (replicate (2 * n) false) (length_shown cs ∙ ap (λ k. 2 * k) l ∙ sym (length-replicate (2 * n) false))
    (λ i b. let k : i < 2 * n = omega (arith, length_shown cs) in
    shown_at cs i (omega arith) ∙ ap (λ ds. is_some (held ds i)) e ∙ ap (λ x. is_some (held_in x i)) (get_or-replicate n (i / 2) none none (omega arith)) ∙ never (negated i) ∙ sym (get_or-replicate (2 * n) i false false k))
  where
    never : (b : Bool) → is_some (cond b none.negative none.positive) ≡ false
    never true = refl
    never false = refl
