-- Blame: where it goes, and that what is blamed keeps its value with only the core forced.
use Rattle.std.proofs.Common.{◌≡◌, ℕ, ◌+◌, ◌-◌, ◌/◌, ◌<◌, ◌≤◌, Bool, true, false, cond, ◌&&◌, ltb, ◌≢◌, ◌⊎◌, List, [], ◌∷◌, length, get_or, sym, refl, ap, ◌∙◌, subst, ap₂, inl, inr, arith}
use Rattle.std.proofs.lemmas.List.{get_or_past}
use Rattle.std.proofs.lemmas.List.FromFn.{length-map-range_with_len, get_or-map-range_with_len}
use Rattle.std.proofs.lemmas.Bool.{cases_lt, le-ltb, ltb-false, true≢false}
use Rattle.valuation.specs.declared.Value.{Value}
use Rattle.valuation.specs.declared.Value.TheVariants.{Unknown, False, True}
use Rattle.valuation.specs.Three.{and3, or_else, Below}
use Rattle.valuation.specs.Circuit.{Pair, gate, Ascending, Values, negated, signed, lit, both, Valuation}
use Rattle.valuation.specs.Sweep.{In, From, begin, go}
use Rattle.valuation.specs.Reach.{if_unknown}
use Rattle.valuation.proofs.Order.{known, unknown≢watched, some_false, left_false, right_false, both_true, below_same, forced_known, forced_unknown}
use Rattle.valuation.proofs.Nodes.{nodes, half}
use Rattle.valuation.proofs.Cut.{gate_low, if_unknown_in}
use Rattle.valuation.proofs.Swept.{from_fits, sweep_exact}
use Rattle.search.specs.Answers.{only}
use Rattle.search.specs.Answers.{is_known}
use Rattle.splitting.specs.Blame.{cause, passes, blames, blamed, core}
use Rattle.splitting.specs.Claims.{BlameKeeps}

False≢Unknown : False ≢ Unknown
False≢Unknown e = unknown≢watched true (sym e)

True≢Unknown : True ≢ Unknown
True≢Unknown e = unknown≢watched false (sym e)

unknown_signed : (b : Bool) → signed b Unknown ≡ Unknown
unknown_signed true = refl
unknown_signed false = refl

-- a false gate: its cause is a false input
module _ (P : ℕ → Type 0) (g : Pair) (r : Value) where
  cause_false : (l : Value) → False ≡ and3 l r → (l ≡ False → P (g.left / 2)) → (r ≡ False → P (g.right / 2)) → P (cause l g)
  cause_false False e p q = p refl
  cause_false True e p q = q (sym e)
  cause_false Unknown e p q = elim (some_false Unknown r (sym e)) [ inl u ↦ absurd (unknown≢watched true u) | inr f ↦ q f ]

  -- the blame goes to inputs that are known
  passes_known : (x l : Value) → x ≡ and3 l r → (l ≢ Unknown → P (g.left / 2)) → (r ≢ Unknown → P (g.right / 2)) → (j : ℕ) → In j (passes x l g) → P j
  passes_known Unknown l e p q j m = absurd m
  passes_known False l e p q j (inl i) =
      subst P (sym i) (cause_false l e (λ f. p (λ u. False≢Unknown (sym f ∙ u))) (λ f. q (λ u. False≢Unknown (sym f ∙ u))))
  passes_known False l e p q j (inr m) = absurd m
  passes_known True l e p q j (inl i) = subst P (sym i) (p (λ u. True≢Unknown (sym (both_true l r (sym e)).0 ∙ u)))
  passes_known True l e p q j (inr (inl i)) = subst P (sym i) (q (λ u. True≢Unknown (sym (both_true l r (sym e)).1 ∙ u)))
  passes_known True l e p q j (inr (inr m)) = absurd m

-- to inputs of the gate
pub passes_inputs : (x l : Value) (g : Pair) (j : ℕ) → In j (passes x l g) → (j ≡ g.left / 2) ⊎ (j ≡ g.right / 2)
passes_inputs Unknown l g j m = absurd m
passes_inputs False False g j (inl e) = inl e
passes_inputs False Unknown g j (inl e) = inr e
passes_inputs False True g j (inl e) = inr e
passes_inputs False l g j (inr m) = absurd m
passes_inputs True l g j (inl e) = inl e
passes_inputs True l g j (inr (inl e)) = inr e
passes_inputs True l g j (inr (inr m)) = absurd m

-- and these are enough for the gate's value
passes_enough : (x l r l' r' : Value) (g : Pair) → x ≢ Unknown → x ≡ and3 l r → (In (g.left / 2) (passes x l g) → l' ≡ l) → (In (g.right / 2) (passes x l g) → r' ≡ r) → and3 l' r' ≡ x
passes_enough Unknown l r l' r' g k e p q = absurd (k refl)
passes_enough False False r l' r' g k e p q = left_false l' r' (p (inl refl))
passes_enough False True r l' r' g k e p q = right_false l' r' (q (inl refl) ∙ sym e)
passes_enough False Unknown r l' r' g k e p q =
    elim (some_false Unknown r (sym e)) [ inl u ↦ absurd (unknown≢watched true u) | inr f ↦ right_false l' r' (q (inl refl) ∙ f) ]
passes_enough True l r l' r' g k e p q = ap₂ and3 (p (inl refl)) (q (inr (inl refl))) ∙ sym e

module _ (first : ℕ) (gs : List Pair) (F v : Values) where
  abbrev sent : ℕ → List ℕ
  sent k = passes (v (first + k)) (lit v (gate gs k).left) (gate gs k)

  -- a gate that is not forced passes the blame on
  pub blames_gate : (k : ℕ) → F (first + k) ≡ Unknown → blames first gs F v (first + k) ≡ sent k
  blames_gate k u =
      ap (λ b. cond b [] (if_unknown (F (first + k)) (passes (v (first + k)) (lit v (gate gs (first + k - first)).left) (gate gs (first + k - first))))) (le-ltb (first + k) first (omega arith))
      ∙ ap₂ (λ x m. if_unknown x (passes (v (first + k)) (lit v (gate gs m).left) (gate gs m))) u (let e : first + k - first ≡ k = omega arith in e)

  -- and no other node does
  pub blames_in : (n j : ℕ) → In j (blames first gs F v n) → (first ≤ n) × (F n ≡ Unknown) × In j (passes (v n) (lit v (gate gs (n - first)).left) (gate gs (n - first)))
  blames_in n j = pick (ltb n first) refl
    where
      pick : (b : Bool) → ltb n first ≡ b → In j (cond b [] (if_unknown (F n) (passes (v n) (lit v (gate gs (n - first)).left) (gate gs (n - first))))) →
          (first ≤ n) × (F n ≡ Unknown) × In j (passes (v n) (lit v (gate gs (n - first)).left) (gate gs (n - first)))
      pick true e m = absurd m
      pick false e m = let r = if_unknown_in (F n) _ j m in (ltb-false n first e, r.0, r.1)

  module _ (asc : Ascending first gs) (pos : 0 < first) where
    -- the blame goes down
    pub blames_down : (i j : ℕ) → In j (blames first gs F v i) → j < i
    blames_down i j m =
        let r = blames_in i j m in
        let l = gate_low first gs asc pos (i - first) in
        let f = r.0 in
        elim (passes_inputs _ _ _ j r.2) [ inl e ↦ omega arith | inr e ↦ omega arith ]

    module _ (root : ℕ) where
      pub root_fits : (size : ℕ) → root < size → (i : ℕ) → In i (root ∷ []) → i < size
      root_fits size h i (inl e) = omega arith
      root_fits size h i (inr e) = absurd e

      pub blamed_fits : {n : ℕ} → From (blames first gs F v) (root ∷ []) n → n ≤ root
      blamed_fits f = omega (arith, from_fits (blames first gs F v) (root + 1) (root ∷ []) blames_down (root_fits (root + 1) (omega arith)) f)

      -- the computed marks are on the blamed nodes
      pub blamed_exact : root < first + length gs → (n : ℕ) → (get_or (blamed first gs F v root) n false ≡ true → From (blames first gs F v) (root ∷ []) n) × (From (blames first gs F v) (root ∷ []) n → get_or (blamed first gs F v root) n false ≡ true)
      blamed_exact inside n = let e = sweep_exact (blames first gs F v) (first + length gs) (root ∷ []) blames_down (root_fits (first + length gs) inside) n in (e.0, e.1)

-- the core, node by node
module _ (first : ℕ) (gs : List Pair) (F v : Values) (root : ℕ) where
  pub length_core : length (core first gs F v root) ≡ first + length gs
  length_core = length-map-range_with_len _ 0 (first + length gs)

  pub core_on : (n : ℕ) → n < first + length gs → get_or (core first gs F v root) n false ≡ (get_or (blamed first gs F v root) n false && is_known (F n))
  core_on n h = get_or-map-range_with_len (λ m. get_or (blamed first gs F v root) m false && is_known (F m)) 0 (first + length gs) n n false h (omega arith)

  core_off : (n : ℕ) → first + length gs ≤ n → get_or (core first gs F v root) n false ≡ false
  core_off n h = get_or_past (core first gs F v root) n false (omega (arith, length_core))

  -- it has forced nodes only
  pub core_forced : (n : ℕ) → get_or (core first gs F v root) n false ≡ true → F n ≢ Unknown
  core_forced n on u =
      elim (cases_lt n (first + length gs)) [
        | inl i ↦ true≢false (sym on ∙ core_on n i ∙ ap (λ x. get_or (blamed first gs F v root) n false && is_known x) u ∙ none (get_or (blamed first gs F v root) n false))
        | inr i ↦ true≢false (sym on ∙ core_off n i)
      ]
    where
      none : (b : Bool) → (b && false) ≡ false
      none true = refl
      none false = refl

known_or : (x : Value) → cond (is_known x) x Unknown ≡ x
known_or Unknown = refl
known_or False = refl
known_or True = refl

-- some of the forced nodes are below all of them
pub only_below : (ms : List Bool) (F : Values) (n : ℕ) → Below (only ms F n) (F n)
only_below ms F n = pick (get_or ms n false)
  where
    pick : (b : Bool) → Below (cond b (F n) Unknown) (F n)
    pick true = below_same (F n) (F n) refl
    pick false = λ p e. absurd (unknown≢watched p e)

-- the core forces every forced node that is blamed
core_forces : (first : ℕ) (gs : List Pair) (F v : Values) (root n : ℕ) → Ascending first gs → 0 < first → root < first + length gs →
    From (blames first gs F v) (root ∷ []) n → only (core first gs F v root) F n ≡ F n
core_forces first gs F v root n asc pos inside f =
    let h : n < first + length gs = omega (arith, blamed_fits first gs F v asc pos root f) in
    ap (λ b. cond b (F n) Unknown) (core_on first gs F v root n h ∙ ap (λ b. b && is_known (F n)) ((blamed_exact first gs F v asc pos root inside n).1 f)) ∙ known_or (F n)

module _ (first : ℕ) (gs : List Pair) (F b v : Values) (root : ℕ) (asc : Ascending first gs) (pos : 0 < first) (inside : root / 2 < first + length gs)
    (V : Valuation first gs F b v) (rooted : lit v root ≢ Unknown) where
  -- every blamed node is known
  blamed_known : {n : ℕ} → From (blames first gs F v) (root / 2 ∷ []) n → v n ≢ Unknown
  blamed_known (begin i (inl e)) = λ u. rooted (ap (signed (negated root)) (ap v (sym e) ∙ u) ∙ unknown_signed (negated root))
  blamed_known (begin i (inr m)) = absurd m
  blamed_known (go i j f m) =
      let r = blames_in first gs F v i j m in
      let l = r.0 in
      let g = gate gs (i - first) in
      let n : i ≡ first + (i - first) = omega arith in
      let k : i - first < length gs = omega (arith, blamed_fits first gs F v asc pos (root / 2) f) in
      let value : v i ≡ both v g = ap v n ∙ V.gates (i - first) k ∙ forced_unknown (F (first + (i - first))) (both v g) (ap F (sym n) ∙ r.1) in
      passes_known (λ m. v m ≢ Unknown) g (lit v g.right) (v i) (lit v g.left) value
      (λ known u. known (ap (signed (negated g.left)) u ∙ unknown_signed (negated g.left))) (λ known u. known (ap (signed (negated g.right)) u ∙ unknown_signed (negated g.right))) j r.2

  module _ (C w : Values) (W : Valuation first gs C b w) (same : (n : ℕ) → From (blames first gs F v) (root / 2 ∷ []) n → C n ≡ F n) where
    kept_gate : (k : ℕ) → k < length gs → ((m : ℕ) → m < first + k → From (blames first gs F v) (root / 2 ∷ []) m → w m ≡ v m) → From (blames first gs F v) (root / 2 ∷ []) (first + k) → w (first + k) ≡ v (first + k)
    kept_gate k i h f =
        let g = gate gs k in
        W.gates k i ∙ ap (λ x. or_else x (both w g)) (same (first + k) f) ∙
        elim (known (F (first + k))) [
          | inr forced ↦ forced_known (F (first + k)) (both w g) forced ∙ sym (V.gates k i ∙ forced_known (F (first + k)) (both v g) forced)
          | inl free ↦ forced_unknown (F (first + k)) (both w g) free
              ∙ passes_enough (v (first + k)) (lit v g.left) (lit v g.right) (lit w g.left) (lit w g.right) g (blamed_known f) (V.gates k i ∙ forced_unknown (F (first + k)) (both v g) free)
              (λ m. ap (signed (negated g.left)) (h _ (half _ _ (asc k i).0) (go (first + k) _ f (rw (blames_gate first gs F v k free) m))))
              (λ m. ap (signed (negated g.right)) (h _ (half _ _ (asc k i).1) (go (first + k) _ f (rw (blames_gate first gs F v k free) m))))
        ]

    kept : (n : ℕ) → n < first + length gs → From (blames first gs F v) (root / 2 ∷ []) n → w n ≡ v n
    kept =
        nodes first gs (λ n. From (blames first gs F v) (root / 2 ∷ []) n → w n ≡ v n)
        (λ n i f. W.inputs n i ∙ ap (λ x. or_else x (b n)) (same n f) ∙ sym (V.inputs n i)) kept_gate

pub blame_keeps : BlameKeeps
blame_keeps first gs F b v w root asc pos inside V W rooted n f =
    kept first gs F b v root asc pos inside V rooted (only (core first gs F v (root / 2)) F) w W (λ m g. core_forces first gs F v (root / 2) m asc pos inside g) n
    (omega (arith, blamed_fits first gs F v asc pos (root / 2) f)) f
