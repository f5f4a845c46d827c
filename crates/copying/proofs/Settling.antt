-- A settlement's gates together: the copies, the joins and the new root.
use Rattle.std.proofs.Common.{◌≡◌, ℕ, ◌+◌, ◌*◌, ◌≤◌, Bool, true, false, List, [], ◌∷◌, ◌++◌, map, length, take, replicate, Ok, Err, Result, sym, ap, ◌∙◌, subst, ap₂, arith}
use Rattle.std.proofs.lemmas.Bool.{le-leb, lt-leb, cond-true, cond-false}
use Rattle.circuit.specs.declared.Gate.{Gate}
use Rattle.circuit.specs.Gates.{pairs}
use Rattle.circuit.proofs.Records.{length_pairs, pairs_take}
use Rattle.std.proofs.lemmas.List.{length_push, length-replicate, length-take-le}
use Rattle.circuit.specs.declared.Literal.{Literal}
use Rattle.valuation.specs.Circuit.{Pair, blank}
use Rattle.valuation.specs.Sweep.{marked, sweep}
use Rattle.copies.specs.Copy.{opposite}
use Rattle.copies.specs.Make.{fresh, needs, needed, make, Join, join, joined}
use Rattle.copies.proofs.Counted.{join_counts}
use Rattle.copying.specs.declared.Full.{Full}
use Rattle.copying.specs.declared.lost.Lost.{Lost}
use Rattle.copying.specs.declared.Settled.{Settled}
use Rattle.copying.specs.declared.guard.Making.{Making}
use Rattle.copying.specs.declared.places.Copies.{Copies}
use Rattle.copying.specs.Gates.{olds, all_made, AllCopied, all_joined, CoreJoined, CoreStopped}
use Rattle.copying.specs.Settle.{core_in, parts, new_gates, fits, answer, table_after, joins_of, gates_of, AllMade}
use Rattle.copying.specs.Places.{none, shown}
use Rattle.copying.specs.Table.{written, BlankFrom}
use Rattle.copying.specs.Guard.{Grown, Stopped}
use Rattle.copying.proofs.Entries.{grown_more, stopped_after, stopped_sooner, restored}
use Rattle.copying.proofs.Held.{none_shown}
use Rattle.copying.proofs.Joining.{next_literal}

module _ (m : Making) (t : Lost) (cs : List Copies) where
  abbrev copied : List Pair
  copied = (all_made m t.bounds t.play.now cs).gates

  abbrev last : Pair
  last = record { left = t.root.code; right = opposite (joins_of m t cs).literal }

  few : (length copied ≤ length (gates_of m t cs)) × (length (joins_of m t cs).gates + 1 ≡ length (gates_of m t cs))
  few =
      let a = join_counts m.first (olds m) (all_made m t.bounds t.play.now cs).copies (core_in t (length cs)) copied in
      let b = length_push (joins_of m t cs).gates last in
      (omega arith, omega arith)

  -- stopped at the copies
  pub copies_stopped : (m' : Making) → Stopped m m' (length copied) → Stopped m m' (length (gates_of m t cs))
  copies_stopped m' S = stopped_sooner m m' (length copied) (length (gates_of m t cs)) S few.0

  module _ (m₁ : Making) (cs' : List Copies) (start : m.made ≡ 0) (A : AllCopied m m₁ t.bounds t.play.now cs cs') (n : ℕ) (long : n ≡ length cs) where
    joins_are : all_joined m cs' (core_in t n) copied ≡ joins_of m t cs
    joins_are = ap₂ (λ ds k. join m.first (olds m) ds (core_in t k) copied) A.copies long

    -- stopped at the joins
    pub joins_stopped : (m₂ : Making) → CoreStopped m₁ m₂ cs' (core_in t n) → Stopped m m₂ (length (gates_of m t cs))
    joins_stopped m₂ S =
        stopped_sooner m m₂ (length (all_joined m cs' (core_in t n) copied).gates) (length (gates_of m t cs)) (S m copied start A.grown)
        (omega (arith, few.1, ap (λ j. length j.gates) joins_are))

    module _ (m₂ : Making) (j : Literal) (J : CoreJoined m₁ m₂ cs' (core_in t n) j) where
      pub grown_joins : Grown m m₂ (joins_of m t cs).gates
      grown_joins = subst (λ k. Grown m m₂ k.gates) joins_are (J m copied start A.grown).0

      -- stopped at the root
      pub root_stopped : (m₃ : Making) → Stopped m₂ m₃ 1 → Stopped m m₃ (length (gates_of m t cs))
      root_stopped m₃ S = stopped_after m m₂ m₃ (joins_of m t cs).gates 1 (length (gates_of m t cs)) grown_joins S (omega (arith, few.1))

      pub root_made : (m₃ : Making) (l : Literal) (g : Pair) → g ≡ record { left = t.root.code; right = opposite j.code } → Grown m₂ m₃ (g ∷ []) →
          l.code ≡ 2 * (m₂.first + m₂.used + m₂.made) → AllMade m m₃ t cs l
      root_made m₃ l g b G e = record {
        grown = grown_more m m₂ m₃ (joins_of m t cs).gates (last ∷ []) grown_joins
            (subst (λ h. Grown m₂ m₃ (h ∷ [])) (b ∙ ap (last_with) (ap opposite ((J m copied start A.grown).1 ∙ ap (λ k. k.literal) joins_are))) G);
        root = e ∙ next_literal m m₂ (joins_of m t cs).gates start grown_joins;
      }
        where
          last_with : ℕ → Pair
          last_with r = record { left = t.root.code; right = r }

-- The guard of a whole settlement, over a table of which `used` entries are in use, with the places shown that the core needs.
module _ (m m' : Making) (t : Lost) (cs : List Copies) (first used : ℕ) (table : List Pair) (first_is : m.first ≡ first) (used_is : m.used ≡ used) (start : m.made ≡ 0)
    (table_is : pairs m.gates.now ≡ table) (room : used ≤ length table) (long : length cs ≡ first + used)
    (needs_are : shown cs ≡ needed first (take used table) (core_in t (first + length (take used table)))) where
  abbrev old : List Pair
  old = take used table

  abbrev news : List Pair
  news = new_gates first old t

  old_is : olds m ≡ old
  old_is = ap₂ take used_is table_is

  nodes_are : length cs ≡ first + length old
  nodes_are = long ∙ ap (λ n. first + n) (sym (length-take-le used table room))

  abbrev join_by : ℕ → List Pair → List Bool → ℕ → Join
  join_by f o ns n = let made = make f o (parts t) ns (2 * n) in join f o made.copies (core_in t n) made.gates

  joins_same : joins_of m t cs ≡ joined first old (parts t) (core_in t (first + length old))
  joins_same = ap₂ (λ f o. join_by f o (shown cs) (length cs)) first_is old_is ∙ ap₂ (join_by first old) needs_are nodes_are

  abbrev ended : Join → List Pair
  ended j = j.gates ++ (record { left = t.root.code; right = opposite j.literal } ∷ [])

  gates_same : gates_of m t cs ≡ news
  gates_same = ap ended joins_same

  length_table : length m.gates.now ≡ length table
  length_table = sym (length_pairs m.gates.now) ∙ ap length table_is

  abbrev result : ℕ → ℕ → Result Settled Full
  result r n = Ok (record { root = record { code = r }; made = n })

  module _ (l : Literal) (A : AllMade m m' t cs l) where
    all_fit : fits table used news ≡ true
    all_fit = le-leb (used + length news) (length table) (omega (arith, A.grown.room, ap length gates_same, length_table))

    pub settled_answer : (n : ℕ) → n ≡ m'.made → Ok (record { root = l; made = n }) ≡ answer first table used t
    settled_answer n e =
        ap₂ result (A.root ∙ ap₂ (λ f o. fresh f o (joins_of m t cs).gates) first_is old_is ∙ ap (λ j. fresh first old j.gates) joins_same)
        (e ∙ A.grown.made_is ∙ ap₂ ◌+◌ start (ap length gates_same) ∙ omega arith)
        ∙ sym (cond-true (fits table used news) _ _ all_fit)

    pub settled_table : pairs m'.gates.now ≡ table_after first table used t
    settled_table =
        A.grown.gates_are ∙ ap₂ (λ gs n. written gs n (gates_of m t cs)) table_is (let e : m.used + m.made ≡ used = omega arith in e) ∙ ap (written table used) gates_same
        ∙ sym (cond-true (fits table used news) _ _ all_fit)

  module _ (S : Stopped m m' (length (gates_of m t cs))) where
    none_fit : fits table used news ≡ false
    none_fit = lt-leb (used + length news) (length table) (omega (arith, S.full, ap length gates_same, length_table))

    pub stopped_answer : (r : Result Settled Full) (y : Full) → r ≡ Err y → r ≡ answer first table used t
    stopped_answer r y e = e ∙ sym (cond-false (fits table used news) _ _ none_fit)

    pub stopped_table : BlankFrom table used → written (pairs m'.gates.now) m'.used (replicate m'.made blank) ≡ table_after first table used t
    stopped_table b =
        let G = S.grown in
        ap₂ (λ gs n. written gs n (replicate m'.made blank))
        (G.gates_are ∙ ap₂ (λ gs n. written gs n S.made) table_is (let e : m.used + m.made ≡ used = omega arith in e)) (G.used_is ∙ used_is)
        ∙ restored table used S.made m'.made (G.made_is ∙ ap (λ n. n + length S.made) start ∙ omega arith) (omega (arith, G.room, length_table)) b
        ∙ sym (cond-false (fits table used news) _ _ none_fit)

-- the places that the core needs, from an empty list
pub needs_shown : (first used : ℕ) (gs : List Gate) (t : Lost) (cs cs₁ cs₂ : List Copies) → used ≤ length gs → cs ≡ replicate (first + used) none →
    shown cs₁ ≡ marked (map opposite (core_in t (length cs))) (shown cs) → shown cs₂ ≡ sweep (needs first (pairs (take used gs))) (2 * length cs₁) (shown cs₁) → length cs₁ ≡ length cs →
    shown cs₂ ≡ needed first (take used (pairs gs)) (core_in t (first + length (take used (pairs gs))))
needs_shown first used gs t cs cs₁ cs₂ room empty a b l =
    let olds = take used (pairs gs) in
    let u : length olds ≡ used = length-take-le used (pairs gs) (omega (arith, length_pairs gs)) in
    let long : length cs ≡ first + used = ap length empty ∙ length-replicate (first + used) none in
    let size : length cs ≡ first + length olds = omega arith in
    b ∙ ap₂ (sweep (needs first (pairs (take used gs)))) (ap (λ n. 2 * n) (l ∙ size)) (a ∙ ap₂ (λ n ms. marked (map opposite (core_in t n)) ms) size (none_shown cs (first + used) empty ∙ ap (λ n. replicate (2 * n) false) (sym long ∙ size)))
    ∙ ap (λ hs. sweep (needs first hs) (2 * (first + length olds)) (marked (map opposite (core_in t (first + length olds))) (replicate (2 * (first + length olds)) false))) (pairs_take used gs)
