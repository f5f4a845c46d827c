-- The sweep for what is reached, node by node from the root's down: nodes above the root and inputs add no mark.
use Rattle.std.proofs.Common.{◌≡◌, ℕ, zero, suc, ◌+◌, ◌-◌, ◌<◌, ◌≤◌, Bool, true, false, cond, ◌≢◌, ◌⊎◌, List, [], ◌∷◌, ◌++◌, length, get_or, take, drop, set, replicate, sym, refl, ap, ◌∙◌, ap₂, inl, inr, arith}
use native.Mathlib.Decide.{ℕ_discrete}
use Rattle.std.proofs.lemmas.List.{get_or-set_other, get_or_append_left, get_or-take, get_or-replicate, length-set, length-replicate, length-take-le, set-append_left, take-append-drop, ext_get_or}
use Rattle.std.proofs.lemmas.Bool.{lt-ltb}
use Rattle.valuation.specs.declared.Value.{Value}
use Rattle.valuation.specs.declared.Value.TheVariants.{Unknown, False, True}
use Rattle.valuation.specs.Circuit.{Pair, gate, Ascending, Values}
use Rattle.valuation.specs.Sweep.{marked, sweep, In}
use Rattle.valuation.specs.Reach.{if_unknown, inputs_of, leads, reach}
use Rattle.valuation.proofs.Swept.{length_one}
use Rattle.valuation.proofs.Cut.{leads_in, leads_gate}

marked_front : (js : List ℕ) (xs ys : List Bool) → ((j : ℕ) → In j js → j < length xs) → marked js (xs ++ ys) ≡ marked js xs ++ ys
marked_front [] xs ys h = refl
marked_front (j ∷ js) xs ys h =
    ap (marked js) (set-append_left xs ys j true (h j (inl refl))) ∙ marked_front js (set xs j true) ys (λ i m. omega (arith, length-set xs j true, h i (inr m)))

module _ (next : ℕ → List ℕ) where
  -- places that add no mark
  sweep_idle : (ms : List Bool) (m n : ℕ) → n ≤ m → ((i : ℕ) → n ≤ i → i < m → cond (get_or ms i false) (marked (next i) ms) ms ≡ ms) → sweep next m ms ≡ sweep next n ms
  sweep_idle ms zero n l h = let e : 0 ≡ n = omega arith in ap (λ k. sweep next k ms) e
  sweep_idle ms (suc m) n l h =
      elim (ℕ_discrete n (suc m)) [
        | yes e ↦ ap (λ k. sweep next k ms) (sym e)
        | no e ↦ ap (sweep next m) (h m (omega arith) (omega arith)) ∙ sweep_idle ms m n (omega arith) (λ i a b. h i a (omega arith))
      ]

  -- marks further on stay as they are
  sweep_front : (n : ℕ) (xs ys : List Bool) → n ≤ length xs → ((i j : ℕ) → i < n → In j (next i) → j < length xs) → sweep next n (xs ++ ys) ≡ sweep next n xs ++ ys
  sweep_front zero xs ys l h = refl
  sweep_front (suc i) xs ys l h =
      ap (sweep next i) (ap (λ b. cond b (marked (next i) (xs ++ ys)) (xs ++ ys)) (get_or_append_left xs ys false i (omega arith)) ∙ one (get_or xs i false))
      ∙ sweep_front i (cond (get_or xs i false) (marked (next i) xs) xs) ys (omega (arith, length_one next i xs)) (λ k j a m. omega (arith, length_one next i xs, h k j (omega arith) m))
    where
      one : (b : Bool) → cond b (marked (next i) (xs ++ ys)) (xs ++ ys) ≡ cond b (marked (next i) xs) xs ++ ys
      one true = marked_front (next i) xs ys (λ j m. h i j (omega arith) m)
      one false = refl

cond_same : (b : Bool) (ms : List Bool) → cond b ms ms ≡ ms
cond_same true ms = refl
cond_same false ms = refl

if_known : (x : Value) (ns : List ℕ) → x ≢ Unknown → if_unknown x ns ≡ []
if_known Unknown ns h = absurd (h refl)
if_known False ns h = refl
if_known True ns h = refl

module _ (first : ℕ) (gs : List Pair) (v : Values) where
  -- inputs lead nowhere
  pub sweep_inputs : (ms : List Bool) → sweep (leads first gs v) first ms ≡ ms
  sweep_inputs ms =
      sweep_idle (leads first gs v) ms first 0 (omega arith)
      (λ i a b. ap (λ t. cond (get_or ms i false) (marked (cond t [] (if_unknown (v i) (inputs_of (gate gs (i - first))))) ms) ms) (lt-ltb i first b) ∙ cond_same (get_or ms i false) ms)

  module _ (k : ℕ) (ms : List Bool) where
    at_gate : (b : Bool) (x : Value) → get_or ms (first + k) false ≡ b → v (first + k) ≡ x → (n : ℕ) → n ≡ suc (first + k) →
        sweep (leads first gs v) (first + k) (cond b (marked (if_unknown x (inputs_of (gate gs k))) ms) ms) ≡ sweep (leads first gs v) n ms
    at_gate b x e f n s =
        ap (sweep (leads first gs v) (first + k)) (sym (ap₂ (λ c js. cond c (marked js ms) ms) e (leads_gate first gs v k ∙ ap (λ y. if_unknown y (inputs_of (gate gs k))) f)))
        ∙ ap (λ m. sweep (leads first gs v) m ms) (sym s)

    -- a gate that is marked and unknown marks its inputs ..
    pub sweep_gate : (n : ℕ) → n ≡ suc (first + k) → get_or ms (first + k) false ≡ true → v (first + k) ≡ Unknown →
        sweep (leads first gs v) (first + k) (marked (inputs_of (gate gs k)) ms) ≡ sweep (leads first gs v) n ms
    sweep_gate n s e f = at_gate true Unknown e f n s

    -- .. and any other none
    pub sweep_past : (n : ℕ) → n ≡ suc (first + k) → (get_or ms (first + k) false ≡ false) ⊎ (v (first + k) ≢ Unknown) →
        sweep (leads first gs v) (first + k) ms ≡ sweep (leads first gs v) n ms
    sweep_past n s (inl e) = at_gate false (v (first + k)) e refl n s
    sweep_past n s (inr h) =
        let b = get_or ms (first + k) false in
        ap (sweep (leads first gs v) (first + k)) (sym (ap (λ js. cond b (marked js ms) ms) (if_known (v (first + k)) (inputs_of (gate gs k)) h) ∙ cond_same b ms))
        ∙ at_gate b (v (first + k)) refl refl n s

  -- From clear marks, the sweep from the root's node down gives what is reached.
  pub sweep_reach : (ms : List Bool) (root n : ℕ) → Ascending first gs → root < first + length gs → first + length gs ≤ length ms →
      ((i : ℕ) → i < first + length gs → get_or ms i false ≡ false) → root < n → first ≤ n → n ≤ first + length gs →
      sweep (leads first gs v) n (set ms root true) ≡ reach first gs v root ++ drop (first + length gs) ms
  sweep_reach ms root n asc inside room clear above start end =
      let size = first + length gs in
      let clean = replicate size false in
      let l : length clean ≡ size = length-replicate size false in
      let front : take size ms ≡ clean =
      ext_get_or false (take size ms) clean (length-take-le size ms room ∙ sym l)
      (λ i h. let b : i < size = omega (arith, length-take-le size ms room) in get_or-take size ms i false b ∙ clear i b ∙ sym (get_or-replicate size i false false b)) in
      let whole : ms ≡ clean ++ drop size ms = sym (take-append-drop size ms) ∙ ap (λ xs. xs ++ drop size ms) front in
      let set_whole : set ms root true ≡ set clean root true ++ drop size ms =
      ap (λ xs. set xs root true) whole ∙ set-append_left clean (drop size ms) root true (omega arith) in
      sym (sweep_idle (leads first gs v) (set ms root true) size n end
      (λ i a b. ap (λ t. cond t (marked (leads first gs v i) (set ms root true)) (set ms root true)) (get_or-set_other ms root i true false (λ e. omega arith) ∙ clear i b)))
      ∙ ap (sweep (leads first gs v) size) set_whole
      ∙ sweep_front (leads first gs v) size (set clean root true) (drop size ms) (omega (arith, length-set clean root true))
      (λ i j b m. omega (arith, length-set clean root true, low i j b m))
    where
      low : (i j : ℕ) → i < first + length gs → In j (leads first gs v i) → j < first + length gs
      low i j b m =
          let r = leads_in first gs v i j m in
          let f = r.0 in
          let a = asc (i - first) (omega arith) in
          elim r.2 [ inl e ↦ omega arith | inr e ↦ omega arith ]
