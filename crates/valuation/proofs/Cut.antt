-- The computed cut.
use Rattle.std.proofs.Common.{◌≡◌, ℕ, ◌+◌, ◌-◌, ◌*◌, ◌/◌, ◌<◌, ◌≤◌, Bool, true, false, cond, eqb, ltb, ◌≢◌, ◌⊎◌, List, [], ◌∷◌, length, get_or, sym, refl, ap, ◌∙◌, subst, ap₂, inl, inr, arith}
use Rattle.std.proofs.lemmas.List.{get_or_past}
use Rattle.std.proofs.lemmas.Bool.{cases_lt, le-ltb, ltb-false, ne_eqb}
use Rattle.valuation.specs.declared.Value.{Value}
use Rattle.valuation.specs.declared.Value.TheVariants.{Unknown, False, True}
use Rattle.valuation.specs.Three.{Below}
use Rattle.valuation.specs.Circuit.{Pair, blank, gate, Ascending, Values, nothing, negated, signed, lit, reads, node_values, Reached, at_root, by_left, by_right}
use Rattle.valuation.specs.Sweep.{In, From, begin, go}
use Rattle.valuation.specs.Reach.{if_unknown, inputs_of, leads, reach, cut}
use Rattle.valuation.specs.Claims.{ReachExact, CutRight, CutSound}
use Rattle.valuation.proofs.Nodes.{cut_exact}
use Rattle.valuation.proofs.Computed.{equations_hold}
use Rattle.valuation.proofs.Swept.{from_fits, sweep_exact}

-- a gate's literals are low, and so are those of a gate that is not there
pub gate_low : (first : ℕ) (gs : List Pair) → Ascending first gs → 0 < first → (k : ℕ) → ((gate gs k).left < 2 * (first + k)) × ((gate gs k).right < 2 * (first + k))
gate_low first gs asc pos k =
    elim (cases_lt k (length gs)) [
      | inl i ↦ asc k i
      | inr i ↦ (let e : gate gs k ≡ blank = get_or_past gs k blank i in (rw e (omega arith), rw e (omega arith)))
    ]

-- what is in the list of an unknown value only
pub if_unknown_in : (x : Value) (ns : List ℕ) (j : ℕ) → In j (if_unknown x ns) → (x ≡ Unknown) × In j ns
if_unknown_in Unknown ns j m = (refl, m)
if_unknown_in False ns j m = absurd m
if_unknown_in True ns j m = absurd m

module _ (first : ℕ) (gs : List Pair) (v : Values) where
  -- what a node leads to are the two inputs of an unknown gate
  pub leads_in : (n j : ℕ) → In j (leads first gs v n) → (first ≤ n) × (v n ≡ Unknown) × ((j ≡ (gate gs (n - first)).left / 2) ⊎ (j ≡ (gate gs (n - first)).right / 2))
  leads_in n j = pick (ltb n first) refl
    where
      pick : (b : Bool) → ltb n first ≡ b → In j (cond b [] (if_unknown (v n) (inputs_of (gate gs (n - first))))) →
          (first ≤ n) × (v n ≡ Unknown) × ((j ≡ (gate gs (n - first)).left / 2) ⊎ (j ≡ (gate gs (n - first)).right / 2))
      pick true e m = absurd m
      pick false e m = let r = if_unknown_in (v n) _ j m in (ltb-false n first e, r.0, elim r.1 [ inl q ↦ inl q | inr q ↦ elim q [ inl s ↦ inr s | inr s ↦ absurd s ] ])

  pub leads_gate : (k : ℕ) → leads first gs v (first + k) ≡ if_unknown (v (first + k)) (inputs_of (gate gs k))
  leads_gate k =
      ap (λ b. cond b [] (if_unknown (v (first + k)) (inputs_of (gate gs (first + k - first))))) (le-ltb (first + k) first (omega arith))
      ∙ ap (λ m. if_unknown (v (first + k)) (inputs_of (gate gs m))) (omega arith)

  leads_at : (k : ℕ) → v (first + k) ≡ Unknown → leads first gs v (first + k) ≡ inputs_of (gate gs k)
  leads_at k u = leads_gate k ∙ ap (λ x. if_unknown x (inputs_of (gate gs k))) u

  module _ (asc : Ascending first gs) (pos : 0 < first) where
    down : (i j : ℕ) → In j (leads first gs v i) → j < i
    down i j m =
        let r = leads_in i j m in
        let l = gate_low first gs asc pos (i - first) in
        let f = r.0 in
        elim r.2 [ inl e ↦ omega arith | inr e ↦ omega arith ]

    module _ (root : ℕ) (inside : root < first + length gs) where
      fits : (i : ℕ) → In i (root ∷ []) → i < first + length gs
      fits i (inl e) = omega arith
      fits i (inr e) = absurd e

      reached : {n : ℕ} → From (leads first gs v) (root ∷ []) n → Reached first gs v root n
      reached (begin i (inl e)) = rw e at_root
      reached (begin i (inr e)) = absurd e
      reached (go i j f m) =
          let r = leads_in i j m in
          let l = r.0 in
          let b : i - first < length gs = omega (arith, from_fits (leads first gs v) (first + length gs) (root ∷ []) down fits f) in
          let e : i ≡ first + (i - first) = omega arith in
          let u : v (first + (i - first)) ≡ Unknown = sym (ap v e) ∙ r.1 in
          let q : Reached first gs v root (first + (i - first)) = subst (Reached first gs v root) e (reached f) in
          elim r.2 [
            | inl s ↦ subst (Reached first gs v root) (sym s) (by_left (i - first) b u q)
            | inr s ↦ subst (Reached first gs v root) (sym s) (by_right (i - first) b u q)
          ]

      from : {n : ℕ} → Reached first gs v root n → From (leads first gs v) (root ∷ []) n
      from at_root = begin root (inl refl)
      from (by_left k i u r) = go (first + k) _ (from r) (rw (leads_at k u) (inl refl))
      from (by_right k i u r) = go (first + k) _ (from r) (rw (leads_at k u) (inr (inl refl)))

pub reach_exact : ReachExact
reach_exact first gs v root asc pos inside n =
    let e = sweep_exact (leads first gs v) (first + length gs) (root ∷ []) (down first gs v asc pos) (fits first gs v asc pos root inside) n in
    (λ o. reached first gs v asc pos root inside (e.0 o), λ r. e.1 (from first gs v asc pos root inside r))

-- a reached node is one of the circuit
pub reached_inside : (first : ℕ) (gs : List Pair) (v : Values) (root : ℕ) → Ascending first gs → 0 < first → root < first + length gs →
    (n : ℕ) → Reached first gs v root n → n < first + length gs
reached_inside first gs v root asc pos inside n r =
    from_fits (leads first gs v) (first + length gs) (root ∷ []) (down first gs v asc pos) (fits first gs v asc pos root inside) (from first gs v asc pos root inside r)

pub cut_right : CutRight
cut_right first gs root b₀ b c asc pos inside bs cs c₀ n r =
    let z = reads (node_values first gs nothing b₀) in
    let F = cut first gs z root in
    cut_exact first gs root F b₀ b c _ _ z asc
    (equations_hold first gs nothing b₀ asc).1 (equations_hold first gs nothing b asc).1 (equations_hold first gs F c asc).1 bs cs refl c₀ pos
    (λ m q nz. ap₂ (λ s t. cond s Unknown (cond t (z m) Unknown)) (ne_eqb m 0 nz) ((reach_exact first gs z root asc pos inside m).1 q))
    n (reached_inside first gs z root asc pos inside n r) r

-- the same for the root's literal
pub cut_literal : (first : ℕ) (gs : List Pair) (l : ℕ) (b₀ b c : Values) → Ascending first gs → 0 < first → l / 2 < first + length gs →
    ((n : ℕ) → n < first → Below (b₀ n) (b n)) →
    ((n : ℕ) → n < first → b₀ n ≡ Unknown → c n ≡ b n) → c 0 ≡ b 0 →
    lit (reads (node_values first gs (cut first gs (reads (node_values first gs nothing b₀)) (l / 2)) c)) l ≡ lit (reads (node_values first gs nothing b)) l
cut_literal first gs l b₀ b c asc pos inside bs cs c₀ = ap (signed (negated l)) (cut_right first gs (l / 2) b₀ b c asc pos inside bs cs c₀ (l / 2) at_root)

pub cut_sound : CutSound
cut_sound first gs v root n = pick (eqb n 0) (get_or (reach first gs v root) n false)
  where
    pick : (p q : Bool) → cond p Unknown (cond q (v n) Unknown) ≢ Unknown → v n ≡ cond p Unknown (cond q (v n) Unknown)
    pick true q h = absurd (h refl)
    pick false true h = refl
    pick false false h = absurd (h refl)
