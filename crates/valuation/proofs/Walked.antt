-- Reads of a list of meanings, and the steps of a walk: xs has values of any kind, f is what one of them means in some case.
use Rattle.std.proofs.Common.{◌≡◌, ℕ, ◌+◌, ◌/◌, ◌<◌, ◌≤◌, List, [], ◌∷◌, ◌++◌, map, length, get_or, take, drop, set, sym, ap, ◌∙◌, ap₂, arith}
use Rattle.std.proofs.lemmas.List.{get_or-map, length-map, length-take-le, take_more_set, map_push, get_or-take, take_all, take-take, take-map, at_drop_more, at_drop_all}
use Rattle.std.specs.List.{range_with_len}
use Rattle.std.proofs.lemmas.List.FromFn.{map-range_with_len_more}
use Rattle.valuation.specs.declared.Value.{Value}
use Rattle.valuation.specs.declared.Value.TheVariants.{Unknown}
use Rattle.valuation.specs.Three.{or_else}
use Rattle.valuation.specs.Circuit.{Pair, blank, gate, Values, negated, signed, lit, both, reads, values_of}
use Rattle.valuation.proofs.Computed.{values_stop}

module _ {X : Type 0} (f : X → Value) where
  -- what is read at a node means what the node's value means
  pub read_means : (xs : List X) (n : ℕ) (x : X) → n < length xs → x ≡ get_or xs n x → reads (map f xs) n ≡ f x
  read_means xs n x within read = get_or-map f xs n x Unknown within ∙ ap f (sym read)

  -- a list of which element k means g k
  pub filled_more : (g : ℕ → Value) (xs : List X) (k : ℕ) (x : X) → k < length xs → f x ≡ g k → map f (take k xs) ≡ map g (range_with_len 0 k) → map f (take (k + 1) (set xs k x)) ≡ map g (range_with_len 0 (k + 1))
  filled_more g xs k x within value before =
      ap (map f) (take_more_set xs k x within) ∙ map_push f (take k xs) x ∙ ap₂ (λ us u. us ++ (u ∷ [])) before value ∙ sym (map-range_with_len_more g 0 k k (omega arith))

  pub filled_all : (g : ℕ → Value) (xs : List X) (k n : ℕ) → length xs ≤ k → n ≡ k → map f (take k xs) ≡ map g (range_with_len 0 k) → map f xs ≡ map g (range_with_len 0 n)
  filled_all g xs k n done e before = sym (ap (map f) (take_all k xs done)) ∙ before ∙ ap (λ m. map g (range_with_len 0 m)) (sym e)

  module _ (gs : List Pair) (F : Values) (xs : List X) (first k : ℕ) (goal : List Value) where
    -- one gate more
    pub walk_more : (x : X) → k < length gs → first + k < length xs
        → f x ≡ or_else (F (first + k)) (both (reads (map f (take (first + k) xs))) (gate gs k))
        → values_of (drop k gs) F (map f (take (first + k) xs)) ≡ goal
        → values_of (drop (k + 1) gs) F (map f (take (first + (k + 1)) (set xs (first + k) x))) ≡ goal
    walk_more x left within value before =
        let so_far = map f (take (first + k) xs) in
        let long : length so_far ≡ first + k = length-map (take (first + k) xs) f ∙ length-take-le (first + k) xs (omega arith) in
        let more : take (first + (k + 1)) (set xs (first + k) x) ≡ take (first + k) xs ++ (x ∷ []) =
        ap (λ n. take n (set xs (first + k) x)) (omega arith) ∙ take_more_set xs (first + k) x within in
        let pushed : map f (take (first + (k + 1)) (set xs (first + k) x)) ≡ so_far ++ (or_else (F (length so_far)) (both (reads so_far) (gate gs k)) ∷ []) =
        ap (map f) more ∙ map_push f (take (first + k) xs) x ∙ ap (λ v. so_far ++ (v ∷ [])) (value ∙ ap (λ n. or_else (F n) (both (reads so_far) (gate gs k))) (sym long)) in
        ap (values_of (drop (k + 1) gs) F) pushed ∙ sym (at_drop_more (λ hs. values_of hs F so_far) gs k blank left) ∙ before

    -- no gate more
    pub walk_all : (n : ℕ) → n ≡ first + k → length gs ≤ k → values_of (drop k gs) F (map f (take (first + k) xs)) ≡ goal → map f (take n xs) ≡ goal
    walk_all n e done before = ap (λ m. map f (take m xs)) e ∙ sym (at_drop_all (λ hs. values_of hs F (map f (take (first + k) xs))) gs k done) ∙ before

-- a list that is the same up to a literal's node gives it the same value
pub literal_taken : (us vs : List Value) (l m : ℕ) → l / 2 < m → take m us ≡ take m vs → lit (reads us) l ≡ lit (reads vs) l
literal_taken us vs l m h e =
    ap (signed (negated l)) (sym (get_or-take m us (l / 2) Unknown h) ∙ ap (λ ws. reads ws (l / 2)) e ∙ get_or-take m vs (l / 2) Unknown h)

-- a walk over the first k gates gives the values of the nodes up to theirs
pub walk_stop : {X : Type 0} (f : X → Value) (gs : List Pair) (F : Values) (vs : List Value) (xs : List X) (k m n : ℕ) → k ≤ length gs → m ≤ length vs + k → m ≤ n
    → map f (take n xs) ≡ values_of (take k gs) F vs → map f (take m xs) ≡ take m (values_of gs F vs)
walk_stop f gs F vs xs k m n h i j e =
    ap (map f) (sym (take-take m n xs j)) ∙ sym (take-map f m (take n xs)) ∙ ap (take m) (e ∙ values_stop k gs F vs h) ∙ take-take m (length vs + k) (values_of gs F vs) i
