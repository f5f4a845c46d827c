-- The inputs of the tree's nodes, and the setting of a move by them.
use Rattle.std.proofs.Common.{◌≡◌, ℕ, zero, suc, ◌+◌, ◌-◌, ◌<◌, ◌≤◌, Bool, true, false, cond, eqb, ltb, ◌≢◌, List, [], ◌∷◌, ◌++◌, map, length, get_or, take, drop, set, replicate, sym, refl, ap, ◌∙◌, inl, inr, arith}
use Rattle.std.proofs.lemmas.List.{ext_get_or, get_or_append_left, get_or-append_right, get_or-drop, get_or-map, get_or_past, get_or_push, get_or-replicate, get_or-set_same, get_or-set_other, get_or-take, length-append, length-drop, length-map, length_push, length-replicate, length-set, length-take, length-take-le, map_push, set-get_or, set-set, take_at}
use Rattle.std.proofs.lemmas.List.FromFn.{length-map-range_with_len, get_or-map-range_with_len}
use Rattle.std.proofs.lemmas.Bool.{cases_eq, cases_lt, cond-false, ne_eqb, lt-ltb, le-ltb}
use Rattle.valuation.specs.declared.Value.{Value}
use Rattle.valuation.specs.declared.Value.TheVariants.{Unknown, False}
use Rattle.valuation.specs.Three.{of_bool, or_else}
use Rattle.valuation.specs.Circuit.{nothing, reads, input_values, settings_from}
use Rattle.valuation.proofs.Order.{known, forced_unknown}
use Rattle.valuation.proofs.Computed.{equations_hold}
use Rattle.search.specs.Queries.{Query, Sound}
use Rattle.splitting.specs.Steps.{settled, inputs_at, Stands, is_true, settings_at}

pub take_set_in : {X : Type 0} (n : ℕ) (xs : List X) (i : ℕ) (x : X) → take n (set xs i x) ≡ set (take n xs) i x
take_set_in zero [] i x = refl
take_set_in zero (y ∷ ys) zero x = refl
take_set_in zero (y ∷ ys) (suc i) x = refl
take_set_in (suc n) [] i x = refl
take_set_in (suc n) (y ∷ ys) zero x = refl
take_set_in (suc n) (y ∷ ys) (suc i) x = ap (λ zs. y ∷ zs) (take_set_in n ys i x)

-- at the start no variable is set
module _ (q : Query) where
  pub start_stands : (inputs rest : List Value) (room : ℕ) → room ≡ 1 + q.variables → inputs ≡ input_values room (reads q.forced) (settings_from q.start []) → Stands q [] (inputs ++ rest)
  start_stands inputs rest room whole is =
      let set_is : inputs ≡ inputs_at q [] = is ∙ ap (λ n. input_values n (reads q.forced) (settings_from q.start [])) whole in
      take_at inputs rest (1 + q.variables) (ap length set_is ∙ length-map-range_with_len (λ n. or_else (reads q.forced n) (settings_from q.start [] n)) 0 (1 + q.variables)) ∙ set_is

  pub start_settings : (values : List Value) → settings_at q.start (q.free - q.free) values ≡ []
  start_settings values = ap (λ n. settings_at q.start n values) (let e : q.free - q.free ≡ 0 = omega arith in e)

module _ (q : Query) (sound : Sound q) where
  -- no variable of the range is forced
  unforced : (k : ℕ) → k < q.free → reads q.forced (q.start + k) ≡ Unknown
  unforced k h =
      elim (known (reads q.forced (q.start + k))) [
        | inl u ↦ u
        | inr forced ↦ sym (sound.witness.gives (q.start + k) (omega (arith, sound.inside)) forced)
            ∙ (equations_hold (1 + q.variables) q.gates nothing sound.play sound.ascending).1.inputs (q.start + k) (omega (arith, sound.inside)) ∙ sound.witness.unset k h
      ]

  -- a variable of the range has its setting
  range_setting : (s : List Value) (k : ℕ) → settings_from q.start s (q.start + k) ≡ reads s k
  range_setting s k =
      cond-false (eqb (q.start + k) 0) False (cond (ltb (q.start + k) q.start) Unknown (reads s (q.start + k - q.start))) (ne_eqb (q.start + k) 0 (λ e. omega (arith, sound.variable)))
      ∙ cond-false (ltb (q.start + k) q.start) Unknown (reads s (q.start + k - q.start)) (le-ltb (q.start + k) q.start (omega arith))
      ∙ ap (reads s) (let e : q.start + k - q.start ≡ k = omega arith in e)

  length_inputs : (s : List Bool) → length (inputs_at q s) ≡ 1 + q.variables
  length_inputs s = length-map-range_with_len (λ n. or_else (reads q.forced n) (settings_from q.start (map of_bool s) n)) 0 (1 + q.variables)

  input_is : (s : List Bool) (n : ℕ) → n < 1 + q.variables → reads (inputs_at q s) n ≡ or_else (reads q.forced n) (settings_from q.start (map of_bool s) n)
  input_is s n h = get_or-map-range_with_len (λ n. or_else (reads q.forced n) (settings_from q.start (map of_bool s) n)) 0 (1 + q.variables) n n Unknown h (omega arith)

  range_is : (s : List Bool) (k : ℕ) → k < q.free → reads (inputs_at q s) (q.start + k) ≡ reads (map of_bool s) k
  range_is s k h = input_is s (q.start + k) (omega (arith, sound.inside)) ∙ forced_unknown (reads q.forced (q.start + k)) _ (unforced k h) ∙ range_setting (map of_bool s) k

  -- the next variable is unset
  next_unset : (s : List Bool) → length s < q.free → reads (inputs_at q s) (q.start + length s) ≡ Unknown
  next_unset s h = range_is s (length s) h ∙ get_or_past (map of_bool s) (length s) Unknown (omega (arith, length-map s of_bool))

  -- one variable more, and nothing else, is set by one write
  pub inputs_more : (s : List Bool) (b : Bool) → length s < q.free → inputs_at q (s ++ (b ∷ [])) ≡ set (inputs_at q s) (q.start + length s) (of_bool b)
  inputs_more s b h =
      let node = q.start + length s in
      let l = length_inputs s in
      let l' = length_inputs (s ++ (b ∷ [])) in
      let i = sound.inside in
      ext_get_or Unknown (inputs_at q (s ++ (b ∷ []))) (set (inputs_at q s) node (of_bool b)) (l' ∙ sym (length-set (inputs_at q s) node (of_bool b) ∙ l))
      (λ n m. let below : n < 1 + q.variables = omega arith in
      elim (cases_eq n node) [
        | inl e ↦ ap (reads (inputs_at q (s ++ (b ∷ [])))) e ∙ range_is (s ++ (b ∷ [])) (length s) h
            ∙ ap (λ xs. reads xs (length s)) (map_push of_bool s b) ∙ get_or_push (map of_bool s) (of_bool b) Unknown (length s) (length-map s of_bool)
            ∙ sym (ap (reads (set (inputs_at q s) node (of_bool b))) e ∙ get_or-set_same (inputs_at q s) node (of_bool b) Unknown (omega arith))
        | inr e ↦ input_is (s ++ (b ∷ [])) n below ∙ ap (or_else (reads q.forced n)) (elsewhere n e) ∙ sym (get_or-set_other (inputs_at q s) node n (of_bool b) Unknown e ∙ input_is s n below)
      ])
    where
      later : (k : ℕ) → k ≢ length s → reads (map of_bool (s ++ (b ∷ []))) k ≡ reads (map of_bool s) k
      later k e =
          ap (λ xs. reads xs k) (map_push of_bool s b) ∙
          elim (cases_lt k (length (map of_bool s))) [
            | inl m ↦ get_or_append_left (map of_bool s) (of_bool b ∷ []) Unknown k m
            | inr m ↦ get_or_past (map of_bool s ++ (of_bool b ∷ [])) k Unknown (omega (arith, length_push (map of_bool s) (of_bool b), length-map s of_bool)) ∙ sym (get_or_past (map of_bool s) k Unknown m)
          ]

      elsewhere : (n : ℕ) → n ≢ q.start + length s → settings_from q.start (map of_bool (s ++ (b ∷ []))) n ≡ settings_from q.start (map of_bool s) n
      elsewhere n e =
          elim (cases_lt n q.start) [
            | inl low ↦ before (map of_bool (s ++ (b ∷ []))) low ∙ sym (before (map of_bool s) low)
            | inr high ↦ ap (λ x. cond (eqb n 0) False (cond (ltb n q.start) Unknown x)) (later (n - q.start) (λ z. e (omega arith)))
          ]
        where
          before : (xs : List Value) → n < q.start → settings_from q.start xs n ≡ cond (eqb n 0) False Unknown
          before xs low = ap (λ t. cond (eqb n 0) False (cond t Unknown (reads xs (n - q.start)))) (lt-ltb n q.start low)

  -- .. and is taken back by one
  pub inputs_back : (s : List Bool) (b : Bool) → length s < q.free → set (inputs_at q (s ++ (b ∷ []))) (q.start + length s) Unknown ≡ inputs_at q s
  inputs_back s b h =
      ap (λ xs. set xs (q.start + length s) Unknown) (inputs_more s b h) ∙ set-set (inputs_at q s) (q.start + length s) (of_bool b) Unknown
      ∙ ap (set (inputs_at q s) (q.start + length s)) (sym (next_unset s h)) ∙ set-get_or (inputs_at q s) (q.start + length s) Unknown

  values_long : (s : List Bool) (values : List Value) → Stands q s values → 1 + q.variables ≤ length values
  values_long s values stands = omega (arith, length_inputs s, ap length stands, length-take (1 + q.variables) values)

  -- a variable's value is its setting
  value_is : (s : List Bool) (values : List Value) → Stands q s values → (k : ℕ) → k < q.free → get_or values (q.start + k) Unknown ≡ reads (map of_bool s) k
  value_is s values stands k h =
      let i = sound.inside in
      sym (get_or-take (1 + q.variables) values (q.start + k) Unknown (omega arith)) ∙ ap (λ xs. reads xs (q.start + k)) stands ∙ range_is s k h

  pub length_settings : (s : List Bool) (d : ℕ) (values : List Value) → d ≤ q.free → Stands q s values → length (settings_at q.start d values) ≡ d
  length_settings s d values h stands =
      length-map (take d (drop q.start values)) is_true ∙ length-take-le d (drop q.start values) (omega (arith, length-drop q.start values, values_long s values stands, sound.inside))

  -- the settings can be read back
  pub settings_back : (s : List Bool) (d : ℕ) (values : List Value) → d ≡ length s → length s ≤ q.free → Stands q s values → settings_at q.start d values ≡ s
  settings_back s d values is fits stands =
      let i = sound.inside in
      let long = values_long s values stands in
      let part : length (take d (drop q.start values)) ≡ length s = length-take-le d (drop q.start values) (omega (arith, length-drop q.start values)) ∙ is in
      ext_get_or false (settings_at q.start d values) s (length-map (take d (drop q.start values)) is_true ∙ part)
      (λ k h. let m : k < length s = omega (arith, length-map (take d (drop q.start values)) is_true) in
      get_or-map is_true (take d (drop q.start values)) k Unknown false (omega arith)
      ∙ ap is_true (get_or-take d (drop q.start values) k Unknown (omega arith) ∙ get_or-drop q.start values k Unknown ∙ value_is s values stands k (omega arith) ∙ get_or-map of_bool s k false Unknown m)
      ∙ back (get_or s k false))
    where
      back : (b : Bool) → is_true (of_bool b) ≡ b
      back true = refl
      back false = refl

  -- the move of a node with k variables unset
  pub setting_is : (s : List Bool) (k : ℕ) (values : List Value) → length s + k ≡ q.free → Stands q s values → map settled (take q.free (drop q.start values)) ≡ map of_bool (s ++ replicate k false)
  setting_is s k values fits stands =
      let i = sound.inside in
      let long = values_long s values stands in
      let part : length (take q.free (drop q.start values)) ≡ q.free = length-take-le q.free (drop q.start values) (omega (arith, length-drop q.start values)) in
      let rest : length (s ++ replicate k false) ≡ q.free = length-append s (replicate k false) ∙ ap (λ n. length s + n) (length-replicate k false) ∙ fits in
      ext_get_or Unknown (map settled (take q.free (drop q.start values))) (map of_bool (s ++ replicate k false))
      (length-map (take q.free (drop q.start values)) settled ∙ part ∙ sym (length-map (s ++ replicate k false) of_bool ∙ rest))
      (λ j h. let m : j < q.free = omega (arith, length-map (take q.free (drop q.start values)) settled) in
      get_or-map settled (take q.free (drop q.start values)) j Unknown Unknown (omega arith)
      ∙ ap settled (get_or-take q.free (drop q.start values) j Unknown m ∙ get_or-drop q.start values j Unknown ∙ value_is s values stands j m)
      ∙ one j m
      ∙ sym (get_or-map of_bool (s ++ replicate k false) j false Unknown (omega arith)))
    where
      kept : (b : Bool) → settled (of_bool b) ≡ of_bool b
      kept true = refl
      kept false = refl

      one : (j : ℕ) → j < q.free → settled (reads (map of_bool s) j) ≡ of_bool (get_or (s ++ replicate k false) j false)
      one j h =
          elim (cases_lt j (length s)) [
            | inl m ↦ ap settled (get_or-map of_bool s j false Unknown m) ∙ kept (get_or s j false) ∙ ap of_bool (sym (get_or_append_left s (replicate k false) false j m))
            | inr m ↦ ap settled (get_or_past (map of_bool s) j Unknown (omega (arith, length-map s of_bool)))
                ∙ ap of_bool (sym (get_or-append_right s (replicate k false) (length s) j false refl m ∙ get_or-replicate k (j - length s) false false (omega arith)))
          ]
