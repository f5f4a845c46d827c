-- The query with the first free variable forced is sound, and says what the query says with that variable set.
use Rattle.std.proofs.Common.{◌≡◌, ℕ, ◌+◌, ◌-◌, ◌/◌, ◌<◌, ◌≤◌, Bool, true, false, cond, eqb, ltb, ◌≢◌, List, ◌∷◌, map, length, set, sym, refl, ap, ◌∙◌, ap₂, inl, inr, add-one, arith, take, drop}
use Rattle.std.proofs.lemmas.List.{get_or-set_same, get_or-set_other, set-set, set-get_or, length-set, length-map, length-drop, take_rest}
use Rattle.std.proofs.lemmas.Bool.{cases_eq, cases_lt, eq-eqb, ne_eqb, lt-ltb, le-ltb, cond-true, cond-false}
use Rattle.valuation.specs.declared.Value.{Value}
use Rattle.valuation.specs.declared.Value.TheVariants.{Unknown, False}
use Rattle.valuation.specs.Three.{or_else, of_bool, Below}
use Rattle.valuation.specs.Circuit.{Values, nothing, negated, signed, both, gate, reads, settings_from, node_values, Valuation}
use Rattle.valuation.proofs.Order.{known, unknown≢watched, below_same, below_known, forced_known, forced_unknown}
use Rattle.valuation.proofs.Nodes.{equations_determine, unforced_more}
use Rattle.valuation.proofs.Computed.{equations_hold}
use Rattle.search.specs.Queries.{Query, Sound, nodes, values_under, root_under, Refuted}
use Rattle.search.proofs.Cores.{stays_refuted}
use Rattle.halving.specs.Halving.{under}

-- what is forced, with one node more
abbrev pub also : ℕ → Bool → Values → Values
also node b F n = cond (eqb n node) (of_bool b) (F n)

pub also_same : (node : ℕ) (b : Bool) (F : Values) (n : ℕ) → n ≡ node → also node b F n ≡ of_bool b
also_same node b F n e = cond-true (eqb n node) (of_bool b) (F n) (eq-eqb n node e)

pub also_other : (node : ℕ) (b : Bool) (F : Values) (n : ℕ) → (n ≡ node → ⊥) → also node b F n ≡ F n
also_other node b F n e = cond-false (eqb n node) (of_bool b) (F n) (ne_eqb n node e)

-- as a list
pub reads_set : (F : List Value) (node : ℕ) (b : Bool) → node < length F → (n : ℕ) → reads (set F node (of_bool b)) n ≡ also node b (reads F) n
reads_set F node b h n =
    elim (cases_eq n node) [
      | inl e ↦ ap (reads (set F node (of_bool b))) e ∙ get_or-set_same F node (of_bool b) Unknown h ∙ sym (also_same node b (reads F) n e)
      | inr e ↦ get_or-set_other F node n (of_bool b) Unknown e ∙ sym (also_other node b (reads F) n e)
    ]

pub bool_known : (b : Bool) → of_bool b ≢ Unknown
bool_known true e = unknown≢watched false (sym e)
bool_known false e = unknown≢watched true (sym e)

module _ (start : ℕ) (some : 1 ≤ start) (v : Value) (s : List Value) where
  -- the first variable's setting
  settings_first : (n : ℕ) → n ≡ start → settings_from start (v ∷ s) n ≡ v
  settings_first n e =
      cond-false (eqb n 0) False _ (ne_eqb n 0 (λ z. omega arith)) ∙ cond-false (ltb n start) Unknown _ (le-ltb n start (omega arith))
      ∙ ap (reads (v ∷ s)) (let z : n - start ≡ 0 = omega arith in z)

  -- and the others'
  settings_rest : (n : ℕ) → (n ≡ start → ⊥) → settings_from start (v ∷ s) n ≡ settings_from (start + 1) s n
  settings_rest n ne = ap (cond (eqb n 0) False) inner
    where
      inner : cond (ltb n start) Unknown (reads (v ∷ s) (n - start)) ≡ cond (ltb n (start + 1)) Unknown (reads s (n - (start + 1)))
      inner =
          elim (cases_lt n start) [
            | inl low ↦ cond-true (ltb n start) Unknown _ (lt-ltb n start low) ∙ sym (cond-true (ltb n (start + 1)) Unknown _ (lt-ltb n (start + 1) (omega arith)))
            | inr high ↦
                cond-false (ltb n start) Unknown _ (le-ltb n start high)
                ∙ ap (reads (v ∷ s)) (let z : n - start ≡ (n - (start + 1)) + 1 = omega arith in z) ∙ one_on (n - (start + 1))
                ∙ sym (cond-false (ltb n (start + 1)) Unknown _ (le-ltb n (start + 1) (omega arith)))
          ]
        where
          one_on : (k : ℕ) → reads (v ∷ s) (k + 1) ≡ reads s k
          one_on k = rw add-one refl

module _ (q : Query) (sound : Sound q) (some : 0 < q.free) (b : Bool) where
  -- the first variable is not forced
  pub unforced : reads q.forced q.start ≡ Unknown
  unforced =
      elim (known (reads q.forced q.start)) [
        | inl u ↦ u
        | inr k ↦
            sym (sound.witness.gives q.start (omega (arith, sound.inside)) k)
            ∙ (equations_hold (1 + q.variables) q.gates nothing sound.play sound.ascending).1.inputs q.start (omega (arith, sound.inside))
            ∙ ap sound.play (let z : q.start ≡ q.start + 0 = omega arith in z) ∙ sound.witness.unset 0 some
      ]

  -- the play of the query, with the first variable set
  abbrev play : Values
  play = also q.start b sound.play

  play_more : (n : ℕ) → Below (sound.play n) (play n)
  play_more n =
      elim (cases_eq n q.start) [
        | inl e ↦ λ p h. absurd (unknown≢watched p (sym (ap sound.play (let z : n ≡ q.start + 0 = omega arith in z) ∙ sound.witness.unset 0 some) ∙ h))
        | inr e ↦ below_same (sound.play n) (play n) (also_other q.start b sound.play n e)
      ]

  pub under_sound : Sound (under q b)
  under_sound = record {
    few_variables = sound.few_variables;
    few_gates = sound.few_gates;
    ascending = sound.ascending;
    rooted = sound.rooted;
    covered = length-set q.forced q.start (of_bool b) ∙ sound.covered;
    variable = omega arith;
    inside = omega (arith, sound.inside);
    few_free = omega (arith, sound.few_free);
    play = play;
    witness = record {
      constant = also_other q.start b sound.play 0 (λ e. omega (arith, sound.variable)) ∙ sound.witness.constant;
      unset = λ k h. also_other q.start b sound.play (q.start + 1 + k) (λ e. omega arith) ∙ ap sound.play (let z : q.start + 1 + k ≡ q.start + (k + 1) = omega arith in z) ∙ sound.witness.unset (k + 1) (omega arith);
      gives = gives;
    };
  }
    where
      first : ℕ
      first = 1 + q.variables

      gives : (n : ℕ) → n < nodes q → reads (set q.forced q.start (of_bool b)) n ≢ Unknown → reads (node_values first q.gates nothing play) n ≡ reads (set q.forced q.start (of_bool b)) n
      gives n lt k =
          let W = (equations_hold first q.gates nothing sound.play sound.ascending).1 in
          let X = (equations_hold first q.gates nothing play sound.ascending).1 in
          let is = reads_set q.forced q.start b (omega (arith, sound.inside, sound.covered)) n in
          elim (cases_eq n q.start) [
            | inl e ↦ X.inputs n (omega (arith, sound.inside)) ∙ also_same q.start b sound.play n e ∙ sym (also_same q.start b (reads q.forced) n e) ∙ sym is
            | inr e ↦
                let same = is ∙ also_other q.start b (reads q.forced) n e in
                let was = sound.witness.gives n lt (λ u. k (same ∙ u)) in
                below_known _ _ (unforced_more first q.gates nothing sound.play play _ _ sound.ascending W X (λ m i. play_more m) (λ m i a. absurd (a refl)) n lt) (λ u. k (same ∙ sym was ∙ u)) ∙ was ∙ sym same
          ]

  -- C is forced, and not the first variable
  module _ (C : Values) (free : C q.start ≡ Unknown) (s : List Value) where
    pub set_or_forced : (n : ℕ) → n < nodes q → values_under q C (of_bool b ∷ s) n ≡ values_under (under q b) (also q.start b C) s n
    set_or_forced = equations_determine first q.gates (also q.start b C) (settings_from (q.start + 1) s) _ _ sound.ascending
        (record { inputs = inputs; gates = gates }) (equations_hold first q.gates (also q.start b C) (settings_from (q.start + 1) s) sound.ascending).1
      where
        first : ℕ
        first = 1 + q.variables

        X : Valuation first q.gates C (settings_from q.start (of_bool b ∷ s)) (values_under q C (of_bool b ∷ s))
        X = (equations_hold first q.gates C (settings_from q.start (of_bool b ∷ s)) sound.ascending).1

        inputs : (n : ℕ) → n < first → values_under q C (of_bool b ∷ s) n ≡ or_else (also q.start b C n) (settings_from (q.start + 1) s n)
        inputs n i =
            X.inputs n i
            ∙ elim (cases_eq n q.start) [
              | inl e ↦
                  forced_unknown (C n) _ (ap C e ∙ free) ∙ settings_first q.start sound.variable (of_bool b) s n e
                  ∙ sym (ap (λ f. or_else f (settings_from (q.start + 1) s n)) (also_same q.start b C n e) ∙ forced_known (of_bool b) _ (bool_known b))
              | inr e ↦ ap₂ or_else (sym (also_other q.start b C n e)) (settings_rest q.start sound.variable (of_bool b) s n e)
            ]

        gates : (k : ℕ) → k < length q.gates → values_under q C (of_bool b ∷ s) (first + k) ≡ or_else (also q.start b C (first + k)) (both (values_under q C (of_bool b ∷ s)) (gate q.gates k))
        gates k i = X.gates k i ∙ ap (λ f. or_else f (both (values_under q C (of_bool b ∷ s)) (gate q.gates k))) (sym (also_other q.start b C (first + k) (λ e. omega (arith, sound.inside))))

    pub root_same : root_under q C (of_bool b ∷ s) ≡ root_under (under q b) (also q.start b C) s
    root_same = ap (signed (negated q.root)) (set_or_forced (q.root / 2) sound.rooted)

  -- what is refuted below with D forced is refuted with C
  pub refuted_above : (C D : Values) (s : List Bool) → C q.start ≡ Unknown → length s ≤ q.free - 1 →
      ((n : ℕ) → n < nodes q → Below (D n) (also q.start b C n)) → ((n : ℕ) → n < nodes q → Below (also q.start b C n) (reads (under q b).forced n)) →
      Refuted (under q b) D s → Refuted q C (b ∷ s)
  refuted_above C D s free short dc cf h =
      root_same C free (map of_bool s)
      ∙ stays_refuted (under q b) under_sound D (also q.start b C) (map of_bool s) (map of_bool s) dc cf (λ k. below_same _ _ refl) (omega (arith, length-map s of_bool)) h

  -- and the other way
  pub refuted_below : (s : List Bool) → length s ≤ q.free - 1 → Refuted q (reads q.forced) (b ∷ s) → Refuted (under q b) (reads (under q b).forced) s
  refuted_below s short h =
      stays_refuted (under q b) under_sound (also q.start b (reads q.forced)) (reads (under q b).forced) (map of_bool s) (map of_bool s)
      (λ n lt. below_same _ _ (reads_set q.forced q.start b (omega (arith, sound.inside, sound.covered)) n)) (λ n lt. below_same _ _ refl) (λ k. below_same _ _ refl) (omega (arith, length-map s of_bool))
      (sym (root_same (reads q.forced) unforced (map of_bool s)) ∙ h)

  -- the entry put back
  pub put_back : (F : List Value) (v : Value) → F ≡ set q.forced q.start v → set F q.start Unknown ≡ q.forced
  put_back F v e = ap (λ xs. set xs q.start Unknown) e ∙ set-set q.forced q.start v Unknown ∙ ap (set q.forced q.start) (sym unforced) ∙ set-get_or q.forced q.start Unknown

-- the range without its first variable
pub tail_length : (xs : List Value) → length (take (length xs - 1) (drop 1 xs)) ≡ length xs - 1
tail_length xs = ap length (take_rest xs 1) ∙ length-drop 1 xs

-- the query below, as the code puts it
pub asked_under : (q : Query) (b : Bool) (v : Value) (n : ℕ) → v ≡ of_bool b → n ≡ q.free - 1 →
    ◌≡◌ {A = Query} (record { variables = q.variables; gates = q.gates; root = q.root; start = q.start + 1; forced = set q.forced q.start v; free = n }) (under q b)
asked_under q b v n e f = ap₂ (λ w k. record { variables = q.variables; gates = q.gates; root = q.root; start = q.start + 1; forced = set q.forced q.start w; free = k }) e f
