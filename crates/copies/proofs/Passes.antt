-- The two passes of a settlement, place by place.
use Rattle.std.proofs.Common.{◌≡◌, ℕ, zero, suc, ◌*◌, ◌/◌, ◌<◌, ◌≤◌, Bool, true, false, cond, List, [], ◌∷◌, ◌++◌, map, length, get_or, set, sym, refl, ap, ◌∙◌, ap₂, arith}
use native.Mathlib.Decide.{ℕ_discrete}
use Rattle.std.proofs.lemmas.List.{length-append, map-append}
use Rattle.std.proofs.lemmas.Bool.{lt-ltb}
use Rattle.valuation.specs.declared.Value.{Value}
use Rattle.valuation.specs.declared.Value.TheVariants.{Unknown, False, True}
use Rattle.valuation.specs.Circuit.{Pair, Values}
use Rattle.valuation.specs.Sweep.{marked, sweep}
use Rattle.copies.specs.Copy.{opposite, like}
use Rattle.copies.specs.Make.{literal_for, core_of, gate_at, needs, fresh, core_copy, Join, join_more, join}
use Rattle.copies.proofs.Making.{needs_at}

-- the marks of one list and then of another
marked_append : (ks ls : List ℕ) (ms : List Bool) → marked (ks ++ ls) ms ≡ marked ls (marked ks ms)
marked_append [] ls ms = refl
marked_append (k ∷ ks) ls ms = marked_append ks ls (set ms k true)

-- the core's places, one node more
pub core_more : (marks : ℕ → Bool) (values : Values) (n n' : ℕ) (here : List ℕ) (ms : List Bool) → n' ≡ suc n → here ≡ cond (marks n) (literal_for (values n) n) [] →
    marked (map opposite here) (marked (map opposite (core_of marks values n)) ms) ≡ marked (map opposite (core_of marks values n')) ms
core_more marks values n n' here ms s e =
    sym (marked_append (map opposite (core_of marks values n)) (map opposite here) ms)
    ∙ ap (λ ls. marked ls ms) (sym (map-append opposite (core_of marks values n) here) ∙ ap (λ ls. map opposite (core_of marks values n ++ ls)) e)
    ∙ ap (λ m. marked (map opposite (core_of marks values m)) ms) (sym s)

module _ (first : ℕ) (old : List Pair) where
  cond_same : (b : Bool) (ms : List Bool) → cond b ms ms ≡ ms
  cond_same true ms = refl
  cond_same false ms = refl

  -- the places of inputs need nothing
  pub sweep_inputs : (n : ℕ) (ms : List Bool) → n ≤ 2 * first → sweep (needs first old) n ms ≡ ms
  sweep_inputs zero ms h = refl
  sweep_inputs (suc i) ms h =
      ap (sweep (needs first old) i) (ap (λ b. cond (get_or ms i false) (marked (cond b [] (like i (gate_at first old i).left ∷ like i (gate_at first old i).right ∷ [])) ms) ms)
      (lt-ltb (i / 2) first (omega arith)) ∙ cond_same (get_or ms i false) ms)
      ∙ sweep_inputs i ms (omega arith)

  module _ (i n : ℕ) (ms : List Bool) (e : n ≡ suc i) where
    -- a place that is not needed adds nothing ..
    pub sweep_past : get_or ms i false ≡ false → sweep (needs first old) i ms ≡ sweep (needs first old) n ms
    sweep_past h = ap (λ b. sweep (needs first old) i (cond b (marked (needs first old i) ms) ms)) (sym h) ∙ ap (λ m. sweep (needs first old) m ms) (sym e)

    -- .. and that of a gate, needed, adds its two literals
    pub sweep_gate : (a b : ℕ) → a ≡ like i (gate_at first old i).left → b ≡ like i (gate_at first old i).right → first ≤ i / 2 → get_or ms i false ≡ true →
        sweep (needs first old) i (set (set ms a true) b true) ≡ sweep (needs first old) n ms
    sweep_gate a b ea eb h t =
        ap (sweep (needs first old) i) (ap₂ (λ x y. set (set ms x true) y true) ea eb ∙ ap (λ ls. marked ls ms) (sym (needs_at first old i h)) ∙ ap (λ c. cond c (marked (needs first old i) ms) ms) (sym t))
        ∙ ap (λ m. sweep (needs first old) m ms) (sym e)

-- joins, one literal more
module _ (first : ℕ) (old : List Pair) (cs : List ℕ) where
  -- c joined to the literals ls, which are joined to j
  abbrev pub join_next : List ℕ → Join → ℕ → Join
  join_next [] j c = record { literal = c; gates = j.gates }
  join_next (l ∷ ls) j c = record { literal = fresh first old j.gates; gates = j.gates ++ (record { left = j.literal; right = c } ∷ []) }

  join_more_push : (ls : List ℕ) (l e : ℕ) (hs : List Pair) →
      join_more first old cs (ls ++ (l ∷ [])) e hs ≡ record {
        literal = fresh first old (join_more first old cs ls e hs).gates;
        gates = (join_more first old cs ls e hs).gates ++ (record { left = (join_more first old cs ls e hs).literal; right = core_copy cs l } ∷ []);
      }
  join_more_push [] l e hs = refl
  join_more_push (k ∷ ls) l e hs = join_more_push ls l (fresh first old hs) (hs ++ (record { left = e; right = core_copy cs k } ∷ []))

  pub join_push : (ls : List ℕ) (l : ℕ) (hs : List Pair) → join first old cs (ls ++ (l ∷ [])) hs ≡ join_next ls (join first old cs ls hs) (core_copy cs l)
  join_push [] l hs = refl
  join_push (k ∷ ls) l hs = join_more_push ls l (core_copy cs k) hs

-- a core's literals, of more nodes
pub core_longer : (marks : ℕ → Bool) (values : Values) (n k : ℕ) → n ≤ k → length (core_of marks values n) ≤ length (core_of marks values k)
core_longer marks values n zero h = let e : n ≡ 0 = omega arith in rw e (omega arith)
core_longer marks values n (suc k) h =
    elim (ℕ_discrete n (suc k)) [
      | yes e ↦ rw e (omega arith)
      | no e ↦ omega (arith, core_longer marks values n k (omega arith), length-append (core_of marks values k) (cond (marks k) (literal_for (values k) k) []))
    ]

-- one literal more, at the node n
pub core_push : (marks : ℕ → Bool) (values : Values) (n n' : ℕ) (here : List ℕ) → n' ≡ suc n → here ≡ cond (marks n) (literal_for (values n) n) [] → core_of marks values n ++ here ≡ core_of marks values n'
core_push marks values n n' here s e = ap (λ ls. core_of marks values n ++ ls) e ∙ ap (core_of marks values) (sym s)

pub core_shorter : (marks : ℕ → Bool) (values : Values) (n k l : ℕ) → n < k → l ∷ [] ≡ cond (marks n) (literal_for (values n) n) [] → length (core_of marks values n) < length (core_of marks values k)
core_shorter marks values n k l h e =
    omega (arith, core_longer marks values (suc n) k h, ap length (core_push marks values n (suc n) (l ∷ []) refl e), length-append (core_of marks values n) (l ∷ []))

pub core_node : (b : Bool) (x : Value) (n l : ℕ) → l ∷ [] ≡ cond b (literal_for x n) [] → l / 2 ≡ n
core_node false x n l e = absurd (omega (arith, ap length e))
core_node true Unknown n l e = absurd (omega (arith, ap length e))
core_node true False n l e = omega (arith, ap (λ ls. get_or ls 0 0) e)
core_node true True n l e = omega (arith, ap (λ ls. get_or ls 0 0) e)
