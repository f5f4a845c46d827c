-- Laws of valuations, from the equations alone, by induction on the nodes.
use Rattle.std.proofs.Common.{◌≡◌, ℕ, zero, suc, ◌+◌, ◌-◌, ◌*◌, ◌/◌, ◌<◌, min, ◌≢◌, ◌⊎◌, List, ◌++◌, length, take, sym, refl, ap, ◌∙◌, subst, ap₂, inl, inr, arith, length-append, length-take}
use native.Mathlib.Decide.{ℕ_discrete}
use Rattle.std.proofs.lemmas.List.{get_or_append_left, get_or-take}
use Rattle.std.proofs.lemmas.Bool.{cases_lt}
use Rattle.valuation.specs.declared.Value.{Value}
use Rattle.valuation.specs.declared.Value.TheVariants.{Unknown}
use Rattle.valuation.specs.Three.{and3, or_else, Below}
use Rattle.valuation.specs.Circuit.{Pair, blank, gate, Ascending, Values, nothing, negated, signed, both, Valuation, Reached, by_left, by_right}
use Rattle.valuation.specs.Claims.{EquationsDetermine, MoreKnown, UnforcedMore, SettingsMore, AllKnown, AppendingKeeps, CutExact}
use Rattle.valuation.proofs.Order.{known, below_same, below_signed, below_and, below_known, signed_known, and_known, forced_known, forced_unknown}

module _ (first : ℕ) (gs : List Pair) where
  -- induction on the nodes: inputs, and gates after all nodes below them
  module _ (P : ℕ → Type 0) (input : (n : ℕ) → n < first → P n) (step : (k : ℕ) → k < length gs → ((m : ℕ) → m < first + k → P m) → P (first + k)) where
    up_to : (bound n : ℕ) → n < bound → n < first + length gs → P n
    up_to zero n l h = absurd (omega arith)
    up_to (suc bound) n l h =
        elim (cases_lt n first) [
          | inl i ↦ input n i
          | inr i ↦ subst P (let e : first + (n - first) ≡ n = omega arith in e) (step (n - first) (omega arith) (λ m s. up_to bound m (omega arith) (omega arith)))
        ]

    pub nodes : (n : ℕ) → n < first + length gs → P n
    nodes n h = up_to (suc n) n (omega arith) h

pub ascending_take : (first n : ℕ) (gs : List Pair) → Ascending first gs → Ascending first (take n gs)
ascending_take first n gs asc k h =
    let i : k < min n (length gs) = rw length-take at h in
    rw (get_or-take n gs k blank (let j : k < n = omega arith in j)) (asc k (omega arith))

pub half : (l n : ℕ) → l < 2 * n → l / 2 < n
half l n h = omega arith

-- values of a gate's literals
module _ (v w : Values) (g : Pair) where
  pub both_same : v (g.left / 2) ≡ w (g.left / 2) → v (g.right / 2) ≡ w (g.right / 2) → both v g ≡ both w g
  both_same l r = ap₂ and3 (ap (signed (negated g.left)) l) (ap (signed (negated g.right)) r)

  pub both_below : Below (v (g.left / 2)) (w (g.left / 2)) → Below (v (g.right / 2)) (w (g.right / 2)) → Below (both v g) (both w g)
  both_below l r = below_and _ _ _ _ (below_signed _ _ _ l) (below_signed _ _ _ r)

pub equations_determine : EquationsDetermine
equations_determine first gs F b v w asc V W =
    nodes first gs (λ n. v n ≡ w n)
    (λ n i. V.inputs n i ∙ sym (W.inputs n i))
    (λ k i h. V.gates k i ∙ ap (or_else (F (first + k))) (both_same v w (gate gs k) (h _ (half _ _ (asc k i).0)) (h _ (half _ _ (asc k i).1))) ∙ sym (W.gates k i))

pub forced_value : (first : ℕ) (gs : List Pair) (F b v : Values) → Valuation first gs F b v → (n : ℕ) → n < first + length gs → F n ≢ Unknown → v n ≡ F n
forced_value first gs F b v V =
    nodes first gs (λ n. F n ≢ Unknown → v n ≡ F n) (λ n i k. V.inputs n i ∙ forced_known _ _ k) (λ k i h f. V.gates k i ∙ forced_known _ _ f)

-- if each node is below already or forced in neither, each is below
pub more : (first : ℕ) (gs : List Pair) (F G b c x y : Values) → Ascending first gs →
    Valuation first gs F b x → Valuation first gs G c y →
    ((n : ℕ) → n < first → Below (b n) (c n)) →
    ((n : ℕ) → n < first + length gs → Below (x n) (y n) ⊎ ((F n ≡ Unknown) × (G n ≡ Unknown))) →
    (n : ℕ) → n < first + length gs → Below (x n) (y n)
more first gs F G b c x y asc X Y bs either =
    nodes first gs (λ n. Below (x n) (y n))
    (λ n i. one n (b n) (c n) (omega arith) (X.inputs n i) (Y.inputs n i) (bs n i))
    (λ k i h. one (first + k) _ _ (omega arith) (X.gates k i) (Y.gates k i) (both_below x y (gate gs k) (h _ (half _ _ (asc k i).0)) (h _ (half _ _ (asc k i).1))))
  where
    one : (n : ℕ) (p q : Value) → n < first + length gs → x n ≡ or_else (F n) p → y n ≡ or_else (G n) q → Below p q → Below (x n) (y n)
    one n p q i e f h =
        elim (either n i) [
          | inl d ↦ d
          | inr u ↦ λ s t. f ∙ forced_unknown (G n) q u.1 ∙ h s (sym (forced_unknown (F n) p u.0) ∙ sym e ∙ t)
        ]

pub more_known : MoreKnown
more_known first gs F G b c x y asc X Y bs sound less =
    more first gs F G b c x y asc X Y bs (λ n i. elim (known (F n)) [
      | inl u ↦ inr (u, less n i u)
      | inr k ↦ inl (below_same (x n) (y n) (sound n i k ∙ sym (forced_value first gs F b x X n i k)))
    ])

pub unforced_more : UnforcedMore
unforced_more first gs F b c x y asc X Y bs sound = more_known first gs F nothing b c x y asc X Y bs sound (λ n i e. refl)

pub settings_more : SettingsMore
settings_more first gs F b c x y asc X Y bs = more_known first gs F F b c x y asc X Y bs (forced_value first gs F c y Y) (λ n i e. e)

pub all_known : AllKnown
all_known first gs b v asc V bs l i =
    signed_known (negated l) (v (l / 2)) (nodes first gs (λ n. v n ≢ Unknown) (λ n i e. bs n i (sym (V.inputs n i) ∙ e))
    (λ k i h e. and_known _ _ (signed_known _ _ (h _ (half _ _ (asc k i).0))) (signed_known _ _ (h _ (half _ _ (asc k i).1))) (sym (V.gates k i) ∙ e)) (l / 2) i)

-- a valuation of more gates is one of the first of them
pub shorter : (first : ℕ) (gs hs : List Pair) (F b v : Values) → Valuation first (gs ++ hs) F b v → Valuation first gs F b v
shorter first gs hs F b v V = record {
  inputs = V.inputs;
  gates = λ k i. V.gates k (simp length-append (omega arith)) ∙ ap (λ g. or_else (F (first + k)) (both v g)) (get_or_append_left gs hs blank k i);
}

pub appending_keeps : AppendingKeeps
appending_keeps first gs hs F b v w asc V W = equations_determine first gs F b w v asc (shorter first gs hs F b w W) V

pub cut_exact : CutExact
cut_exact first gs root F b₀ b c x y z asc Z Y X bs cs f₀ c₀ pos forces =
    nodes first gs (λ n. Reached first gs z root n → x n ≡ y n)
    (λ n i r. elim (ℕ_discrete n 0) [
      | yes e ↦ (rw e (X.inputs 0 pos ∙ forced_unknown (F 0) (c 0) f₀ ∙ c₀ ∙ sym (Y.inputs 0 pos)))
      | no e ↦ one n (c n) (b n) (omega arith) r e (X.inputs n i) (Y.inputs n i) (λ u. cs n i (sym (Z.inputs n i) ∙ u))
    ])
    (λ k i h r. one (first + k) _ _ (omega arith) r (omega arith) (X.gates k i) (Y.gates k i)
    (λ u. both_same x y (gate gs k) (h _ (half _ _ (asc k i).0) (by_left k i u r)) (h _ (half _ _ (asc k i).1) (by_right k i u r))))
  where
    more : (n : ℕ) → n < first + length gs → Below (z n) (y n)
    more = unforced_more first gs nothing b₀ b z y asc Z Y bs (λ n i k. absurd (k refl))

    -- a known node by its forced value, any other by its own
    one : (n : ℕ) (p q : Value) → n < first + length gs → Reached first gs z root n → n ≢ 0 → x n ≡ or_else (F n) p → y n ≡ q → (z n ≡ Unknown → p ≡ q) → x n ≡ y n
    one n p q i r nz e f h =
        elim (known (z n)) [
          | inl u ↦ e ∙ forced_unknown (F n) p (forces n r nz ∙ u) ∙ h u ∙ sym f
          | inr k ↦ e ∙ ap (λ v. or_else v p) (forces n r nz) ∙ forced_known (z n) p k ∙ sym (below_known (z n) (y n) (more n i) k)
        ]
