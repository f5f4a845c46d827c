-- A worklist's flags and its list, as a place is noted and as the flags are taken away.
use Rattle.std.proofs.Common.{◌≡◌, ℕ, zero, suc, ◌+◌, ◌-◌, ◌<◌, ◌≤◌, Bool, true, false, ◌||◌, eqb, ◌≢◌, List, [], ◌∷◌, ◌++◌, length, get_or, set, replicate, sym, refl, ap, ◌∙◌, inl, inr, arith}
use Rattle.std.proofs.lemmas.List.{ext_get_or, get_or-set_same, get_or-set_other, get_or_append_left, get_or-append_right, get_or_past, get_or-replicate, length-append, length-set, length-replicate}
use Rattle.std.proofs.lemmas.Bool.{cases_eq, cases_lt, cases_Bool, eq-eqb, ne_eqb, or_right, true≢false}
use Rattle.splitting.specs.Worklist.{holds, flag_count}
use Rattle.splitting.proofs.Working.{on, holds_at, holds_end}

pub flag_count_le : (ms : List Bool) → flag_count ms ≤ length ms
flag_count_le [] = omega arith
flag_count_le (true ∷ ms) = omega (arith, flag_count_le ms)
flag_count_le (false ∷ ms) = omega (arith, flag_count_le ms)

-- no flag is set
pub flag_count_none : (n : ℕ) → flag_count (replicate n false) ≡ 0
flag_count_none zero = refl
flag_count_none (suc n) = omega (arith, flag_count_none n)

pub none_set : (n k : ℕ) → get_or (replicate n false) k false ≡ false
none_set zero k = refl
none_set (suc n) zero = refl
none_set (suc n) (suc k) = none_set n k

-- one more
pub flag_count_set : (ms : List Bool) (n : ℕ) → n < length ms → get_or ms n false ≡ false → flag_count (set ms n true) ≡ flag_count ms + 1
flag_count_set [] n h e = absurd (omega arith)
flag_count_set (b ∷ ms) zero h e = rw e (omega arith)
flag_count_set (b ∷ ms) (suc n) h e = omega (arith, flag_count_set ms n (omega arith) e)

-- each place stands once
abbrev pub Once : List ℕ → Type 0
Once order = (i j : ℕ) → i < j → j < length order → get_or order i 0 ≢ get_or order j 0

end_is : (xs : List ℕ) (n i : ℕ) → i ≡ length xs → get_or (xs ++ (n ∷ [])) i 0 ≡ n
end_is xs n i e = ap (λ k. get_or (xs ++ (n ∷ [])) k 0) e ∙ get_or-append_right xs (n ∷ []) (length xs) (length xs) 0 refl (omega arith) ∙ ap (λ k. get_or (n ∷ []) k 0) (let z : length xs - length xs ≡ 0 = omega arith in z)

module _ (seen : List Bool) (order : List ℕ) (node : ℕ) (listed : (n : ℕ) → get_or seen n false ≡ holds order n) where
  module _ (inside : node < length seen) (new : get_or seen node false ≡ false) where
    pub listed_more : (n : ℕ) → get_or (set seen node true) n false ≡ holds (order ++ (node ∷ [])) n
    listed_more n =
        elim (cases_eq n node) [
          | inl e ↦ rw e (get_or-set_same seen node true false inside ∙ sym (holds_end order node node ∙ or_right (holds order node) (eqb node node) (eq-eqb node node refl)))
          | inr e ↦ get_or-set_other seen node n true false e ∙ listed n ∙ sym (holds_end order node n ∙ ap (λ b. holds order n || b) (ne_eqb node n (λ z. e (sym z))) ∙ no_more (holds order n))
        ]
      where
        no_more : (b : Bool) → (b || false) ≡ b
        no_more true = refl
        no_more false = refl

    pub once_more : Once order → Once (order ++ (node ∷ []))
    once_more once i j h l e =
        let long = length-append order (node ∷ []) in
        let low : get_or (order ++ (node ∷ [])) i 0 ≡ get_or order i 0 = get_or_append_left order (node ∷ []) 0 i (omega arith) in
        elim (cases_lt j (length order)) [
          | inl k ↦ once i j h k (sym low ∙ e ∙ get_or_append_left order (node ∷ []) 0 j k)
          | inr k ↦ true≢false (sym (holds_at order i (omega arith)) ∙ ap (holds order) (sym low ∙ e ∙ end_is order node j (omega arith)) ∙ sym (listed node) ∙ new)
        ]

-- what is still seen stands in the list, from place i on
abbrev pub Left : List Bool → List ℕ → ℕ → ℕ → Type 0
Left seen order count i = (n : ℕ) → on seen n → (k : ℕ) × ((i ≤ k) × (k < count) × (get_or order k 0 ≡ n))

pub left_more : (seen : List Bool) (order : List ℕ) (count i : ℕ) → Left seen order count i → Left (set seen (get_or order i 0) false) order count (i + 1)
left_more seen order count i left n o =
    elim (cases_eq n (get_or order i 0)) [
      | inl e ↦ absurd (cleared e)
      | inr e ↦
          let k = left n (sym (get_or-set_other seen (get_or order i 0) n false false e) ∙ o) in
          let later : i ≢ k.0 = λ s. e (sym k.1.2 ∙ ap (λ m. get_or order m 0) (sym s)) in
          (k.0, (omega (arith, k.1.0), k.1.1, k.1.2))
    ]
  where
    cleared : n ≡ get_or order i 0 → ⊥
    cleared e =
        elim (cases_lt n (length seen)) [
          | inl h ↦ true≢false (sym o ∙ rw e (get_or-set_same seen (get_or order i 0) false false (omega arith)))
          | inr h ↦ true≢false (sym o ∙ get_or_past (set seen (get_or order i 0) false) n false (omega (arith, length-set seen (get_or order i 0) false)))
        ]

pub left_none : (seen : List Bool) (order : List ℕ) (count i size : ℕ) → count ≤ i → length seen ≡ size → Left seen order count i → seen ≡ replicate size false
left_none seen order count i size all long left =
    ext_get_or false seen (replicate size false) (long ∙ sym (length-replicate size false))
    (λ n h. elim (cases_Bool (get_or seen n false)) [
      | inl o ↦ absurd (let k = left n o in omega (arith, k.1.0, k.1.1))
      | inr o ↦ o ∙ sym (get_or-replicate size n false false (omega arith))
    ])
