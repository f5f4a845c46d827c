-- Places that the pass up has passed.
use Rattle.std.proofs.Common.{◌≡◌, ℕ, zero, suc, ◌+◌, ◌-◌, ◌*◌, ◌/◌, ◌<◌, ◌≤◌, Bool, true, false, cond, ◌&&◌, eqb, ltb, ◌≢◌, List, [], ◌∷◌, ◌++◌, length, get_or, is_some, Some, None, Option, sym, refl, ap, ◌∙◌, subst, ap₂, arith}
use native.Mathlib.Decide.{ℕ_discrete}
use Rattle.std.proofs.lemmas.List.FromFn.{length-map-range_with_len, get_or-map-range_with_len}
use Rattle.std.proofs.lemmas.List.{append-nil, get_or_push, get_or_append_left, get_or-take, length-append, length-take-le, length_push, ext_get_or}
use Rattle.std.proofs.lemmas.Bool.{cond_both, lt-ltb, le-ltb, false≢true}
use Rattle.circuit.specs.declared.Literal.{Literal}
use Rattle.circuit.specs.Gates.{pairs}
use Rattle.circuit.proofs.Records.{length_pairs}
use Rattle.valuation.specs.Circuit.{Pair, blank, gate, Ascending}
use Rattle.copies.specs.Copy.{Part, like, copied}
use Rattle.copies.specs.Make.{Made, input_copy, with_copy, with_gate, fresh, gate_at, gate_copy, unless_same, make_one, make}
use Rattle.copying.specs.declared.places.Copies.{Copies}
use Rattle.copies.proofs.Making.{like_half}
use Rattle.copying.specs.declared.guard.Making.{Making}
use Rattle.copying.specs.Gates.{gate_in, copy_at, stands, gates_for, GateCopied, olds, codes}
use Rattle.copying.specs.Guard.{Grown, Stopped}
use Rattle.copying.proofs.Entries.{get_or_written, grown_more, stopped_after}
use Rattle.copying.specs.Places.{held, put, code_of, copy_code, shown}
use Rattle.copying.proofs.Held.{held_same, held_other, shown_at}

-- one place more
module _ (first : ℕ) (old : List Pair) (part : ℕ → Part) (ns : List Bool) (l : ℕ) where
  abbrev so_far : Made
  so_far = make first old part ns l

  abbrev g : Pair
  g = gate_at first old l

  abbrev h : Pair
  h = gate_copy l g so_far

  -- the copy there, and the gates made for it
  pub record One (x : ℕ) (hs : List Pair) : Type 0 where
    pub copies : (make first old part ns (suc l)).copies ≡ so_far.copies ++ (x ∷ [])
    pub gates : (make first old part ns (suc l)).gates ≡ so_far.gates ++ hs

  pub one_skipped : get_or ns l false ≡ false → One 0 []
  one_skipped e = record {
    copies = ap (λ b. (cond b (cond (ltb (l / 2) first) (with_copy so_far (input_copy (part (l / 2)) l)) (unless_same first old so_far l g h)) (with_copy so_far 0)).copies) e;
    gates = ap (λ b. (cond b (cond (ltb (l / 2) first) (with_copy so_far (input_copy (part (l / 2)) l)) (unless_same first old so_far l g h)) (with_copy so_far 0)).gates) e ∙ sym (append-nil so_far.gates);
  }

  pub one_input : get_or ns l false ≡ true → l / 2 < first → One (input_copy (part (l / 2)) l) []
  one_input e i = record {
    copies = ap₂ (λ b c. (cond b (cond c (with_copy so_far (input_copy (part (l / 2)) l)) (unless_same first old so_far l g h)) (with_copy so_far 0)).copies) e (lt-ltb (l / 2) first i);
    gates = ap₂ (λ b c. (cond b (cond c (with_copy so_far (input_copy (part (l / 2)) l)) (unless_same first old so_far l g h)) (with_copy so_far 0)).gates) e (lt-ltb (l / 2) first i) ∙ sym (append-nil so_far.gates);
  }

  by_same : (b : Bool) → ((cond b (with_copy so_far (2 * (l / 2))) (with_gate first old so_far h)).copies ≡ so_far.copies ++ (cond b (2 * (l / 2)) (fresh first old so_far.gates) ∷ []))
      × ((cond b (with_copy so_far (2 * (l / 2))) (with_gate first old so_far h)).gates ≡ so_far.gates ++ cond b [] (h ∷ []))
  by_same true = (refl, sym (append-nil so_far.gates))
  by_same false = (refl, refl)

  pub one_gate : get_or ns l false ≡ true → first ≤ l / 2 → (b : Bool) → b ≡ (eqb h.left g.left && eqb h.right g.right) →
      One (cond b (2 * (l / 2)) (fresh first old so_far.gates)) (cond b [] (h ∷ []))
  one_gate e i b s = subst (λ b. One (cond b (2 * (l / 2)) (fresh first old so_far.gates)) (cond b [] (h ∷ []))) (sym s) (record {
    copies = ap₂ (λ b c. (cond b (cond c (with_copy so_far (input_copy (part (l / 2)) l)) (unless_same first old so_far l g h)) (with_copy so_far 0)).copies) e (le-ltb (l / 2) first i)
        ∙ (by_same (eqb h.left g.left && eqb h.right g.right)).0;
    gates = ap₂ (λ b c. (cond b (cond c (with_copy so_far (input_copy (part (l / 2)) l)) (unless_same first old so_far l g h)) (with_copy so_far 0)).gates) e (le-ltb (l / 2) first i)
        ∙ (by_same (eqb h.left g.left && eqb h.right g.right)).1;
  })

module _ (first : ℕ) (old : List Pair) (part : ℕ → Part) (ns : List Bool) where
  abbrev upto : ℕ → Made
  upto = make first old part ns

  -- one copy more, and no fewer gates
  abbrev Fine : Made → Made → Type 0
  Fine m m' = (length m'.copies ≡ length m.copies + 1) × (length m.gates ≤ length m'.gates)

  copy_fine : (m : Made) (c : ℕ) → Fine m (with_copy m c)
  copy_fine m c = (length_push m.copies c, omega arith)

  gate_fine : (m : Made) (g : Pair) → Fine m (with_gate first old m g)
  gate_fine m g = (length_push m.copies (fresh first old m.gates), omega (arith, length_push m.gates g))

  one_more : (l : ℕ) (m : Made) → Fine m (make_one first old part ns l m)
  one_more l m =
      let g = gate_at first old l in
      let h = gate_copy l g m in
      cond_both (get_or ns l false) _ _ (Fine m)
      (λ _. cond_both (ltb (l / 2) first) _ _ (Fine m) (λ _. copy_fine m (input_copy (part (l / 2)) l))
      (λ _. cond_both (eqb h.left g.left && eqb h.right g.right) _ _ (Fine m) (λ _. copy_fine m (2 * (l / 2))) (λ _. gate_fine m h)))
      (λ _. copy_fine m 0)

  pub length_made : (l : ℕ) → length (upto l).copies ≡ l
  length_made zero = refl
  length_made (suc l) = omega (arith, (one_more l (upto l)).0, length_made l)

  pub more_gates : (l n : ℕ) → l ≤ n → length (upto l).gates ≤ length (upto n).gates
  more_gates l zero h = let e : l ≡ 0 = omega arith in rw e (omega arith)
  more_gates l (suc n) h =
      elim (ℕ_discrete l (suc n)) [
        | yes e ↦ rw e (omega arith)
        | no e ↦ omega (arith, more_gates l n (omega arith), (one_more n (upto n)).1)
      ]

  -- what the list of copies has after l places
  pub record Passed (l : ℕ) (cs : List Copies) : Type 0 where
    pub done : (i : ℕ) → i < l → copy_code cs i ≡ get_or (upto l).copies i 0
    pub left : (i : ℕ) → l ≤ i → i < 2 * length cs → is_some (held cs i) ≡ get_or ns i false

  pub passed_none : (cs : List Copies) → shown cs ≡ ns → Passed 0 cs
  passed_none cs e = record { done = λ i h. absurd (omega arith); left = λ i h b. sym (shown_at cs i b) ∙ ap (λ ms. get_or ms i false) e }

  passed_next : (l : ℕ) (cs cs' : List Copies) (x : ℕ) (hs : List Pair) → One first old part ns l x hs → Passed l cs → length cs' ≡ length cs → copy_code cs' l ≡ x →
      ((i : ℕ) → i ≢ l → held cs' i ≡ held cs i) → Passed (suc l) cs'
  passed_next l cs cs' x hs O P long here same = record {
    done = λ i h. elim (ℕ_discrete i l) [
      | yes e ↦ ap (copy_code cs') e ∙ here ∙ sym (ap (λ ds. get_or ds i 0) O.copies ∙ get_or_push (upto l).copies x 0 i (length_made l ∙ sym e))
      | no e ↦ ap code_of (same i e) ∙ P.done i (omega arith) ∙ sym (ap (λ ds. get_or ds i 0) O.copies ∙ get_or_append_left (upto l).copies (x ∷ []) 0 i (omega (arith, length_made l)))
    ];
    left = λ i h b. ap is_some (same i (omega arith)) ∙ P.left i (omega arith) (omega arith);
  }

  none_there : (o : Option Literal) → is_some o ≡ false → code_of o ≡ 0
  none_there None e = refl
  none_there (Some x) e = absurd (false≢true (sym e))

  pub passed_skip : (l : ℕ) (cs : List Copies) → is_some (held cs l) ≡ false → One first old part ns l 0 [] → Passed l cs → Passed (suc l) cs
  passed_skip l cs e O P = passed_next l cs cs 0 [] O P refl (none_there (held cs l) e) (λ i d. refl)

  pub passed_put : (l : ℕ) (cs cs' : List Copies) (c : Literal) (x : ℕ) (hs : List Pair) → l / 2 < length cs → cs' ≡ put cs l c → One first old part ns l x hs → c.code ≡ x → Passed l cs → length cs' ≡ length cs → Passed (suc l) cs'
  passed_put l cs cs' c x hs h s O e P long =
      passed_next l cs cs' x hs O P long (ap (λ ds. copy_code ds l) s ∙ ap code_of (held_same cs l c h) ∙ e) (λ i d. ap (λ ds. held ds i) s ∙ held_other cs l c h i d)

  pub passed_all : (cs : List Copies) (n : ℕ) → n ≡ 2 * length cs → Passed n cs → codes cs ≡ (upto n).copies
  passed_all cs n e P =
      ext_get_or 0 (codes cs) (upto n).copies (length-map-range_with_len (copy_code cs) 0 (2 * length cs) ∙ sym e ∙ sym (length_made n))
      (λ i b. let k : i < 2 * length cs = omega (arith, length-map-range_with_len (copy_code cs) 0 (2 * length cs)) in
      get_or-map-range_with_len (copy_code cs) 0 (2 * length cs) i i 0 k (omega arith) ∙ P.done i (omega arith))

-- the copy of a gate, as the pass up makes it
module _ (m₀ m : Making) (part : ℕ → Part) (ns : List Bool) (l : ℕ) (cs : List Copies) (start : m₀.made ≡ 0) (room : m₀.used ≤ length m₀.gates.now) (asc : Ascending m₀.first (olds m₀))
    (deep : m₀.first ≤ l / 2) (within : l / 2 < m₀.first + m₀.used)
    (G : Grown m₀ m (make m₀.first (olds m₀) part ns l).gates) (P : Passed m₀.first (olds m₀) part ns l cs) where
  abbrev made_so_far : Made
  made_so_far = make m₀.first (olds m₀) part ns l

  abbrev there : Pair
  there = gate_at m₀.first (olds m₀) l

  length_olds : length (olds m₀) ≡ m₀.used
  length_olds = length-take-le m₀.used (pairs m₀.gates.now) (omega (arith, length_pairs m₀.gates.now))

  pub gate_same : gate_in m l ≡ there
  gate_same =
      let k = l / 2 - m₀.first in
      let i : k < m₀.used = omega arith in
      ap (λ f. gate (pairs m.gates.now) (l / 2 - f)) G.first_is
      ∙ ap (λ t. gate t k) G.gates_are
      ∙ get_or_written (pairs m₀.gates.now) (m₀.used + m₀.made) made_so_far.gates k blank (omega arith) (omega (arith, length_pairs m₀.gates.now))
      ∙ sym (get_or-take m₀.used (pairs m₀.gates.now) k blank i)

  low : (there.left < 2 * (l / 2)) × (there.right < 2 * (l / 2))
  low =
      let a = asc (l / 2 - m₀.first) (omega (arith, length_olds)) in
      (omega (arith, a.0), omega (arith, a.1))

  code_same : (x : ℕ) → x < 2 * (l / 2) → copy_code cs (like l x) ≡ get_or made_so_far.copies (like l x) 0
  code_same x h = P.done (like l x) (omega (arith, like_half l x))

  copy_same : copy_at (gate_in m l) cs l ≡ gate_copy l there made_so_far
  copy_same = ap (λ g. copy_at g cs l) gate_same ∙ ap₂ (copied there) (code_same there.left low.0) (code_same there.right low.1)

  abbrev same : Bool
  same = stands (gate_in m l) cs l

  same_is : same ≡ (eqb (gate_copy l there made_so_far).left there.left && eqb (gate_copy l there made_so_far).right there.right)
  same_is = ap₂ (λ (g h : Pair). eqb h.left g.left && eqb h.right g.right) gate_same copy_same

  gates_same : gates_for (gate_in m l) cs l ≡ cond same [] (gate_copy l there made_so_far ∷ [])
  gates_same = ap (λ h. cond same [] (h ∷ [])) copy_same

  pub step : get_or ns l false ≡ true → One m₀.first (olds m₀) part ns l (cond same (2 * (l / 2)) (fresh m₀.first (olds m₀) made_so_far.gates)) (cond same [] (gate_copy l there made_so_far ∷ []))
  step e = one_gate m₀.first (olds m₀) part ns l e deep same same_is

  module _ (m' : Making) (c : Literal) (C : GateCopied m m' cs l c) (needed : get_or ns l false ≡ true) where
    pub gate_grown : Grown m₀ m' (make m₀.first (olds m₀) part ns (suc l)).gates
    gate_grown = subst (Grown m₀ m') (ap (λ hs. made_so_far.gates ++ hs) gates_same ∙ sym (step needed).gates) (grown_more m₀ m m' made_so_far.gates _ G C.grown)

    pub gate_code : c.code ≡ cond same (2 * (l / 2)) (fresh m₀.first (olds m₀) made_so_far.gates)
    gate_code = C.literal ∙ ap (cond same (2 * (l / 2))) (let e : 2 * (m.first + m.used + m.made) ≡ fresh m₀.first (olds m₀) made_so_far.gates =
        omega (arith, G.first_is, G.used_is, G.made_is, length-append (olds m₀) made_so_far.gates, length_olds) in e)

  pub gate_stopped : (m' : Making) (n : ℕ) → get_or ns l false ≡ true → suc l ≤ n → Stopped m m' (length (gates_for (gate_in m l) cs l)) → Stopped m₀ m' (length (make m₀.first (olds m₀) part ns n).gates)
  gate_stopped m' n e h S =
      stopped_after m₀ m m' made_so_far.gates _ _ G S
      (omega (arith, ap length ((step e).gates ∙ ap (λ hs. made_so_far.gates ++ hs) (sym gates_same)), length-append made_so_far.gates (gates_for (gate_in m l) cs l), more_gates m₀.first (olds m₀) part ns (suc l) n h))

-- the invariant of the pass up, as it goes on from the place l
module _ (m₀ : Making) (part : ℕ → Part) (ns : List Bool) where
  abbrev Going : ℕ → Making → List Copies → Type 0
  Going l m cs = Grown m₀ m (make m₀.first (olds m₀) part ns l).gates × Passed m₀.first (olds m₀) part ns l cs

  pub going_at : (l n : ℕ) (m m' : Making) (cs cs' : List Copies) → l ≡ n → m ≡ m' → cs ≡ cs' → Going l m cs → Going n m' cs'
  going_at l n m m' cs cs' a b c I = subst (λ k. Going k m' cs') a (subst (λ k. Going l k cs') b (subst (Going l m) c I))

  -- nothing is needed there
  pub going_skip : (l : ℕ) (m : Making) (cs : List Copies) (o : Option Literal) (b : Bool) → l < 2 * length cs → o ≡ held cs l → b ≡ is_some o → b ≡ false → Going l m cs → Going (suc l) m cs
  going_skip l m cs o b h e f t I =
      let s = ap is_some (sym e) ∙ sym f ∙ t in
      let O = one_skipped m₀.first (olds m₀) part ns l (sym (I.1.left l (omega arith) h) ∙ s) in
      (subst (Grown m₀ m) (sym (O.gates ∙ append-nil _)) I.0, passed_skip m₀.first (olds m₀) part ns l cs s O I.1)

  pub wanted_there : (l : ℕ) (m : Making) (cs : List Copies) (o : Option Literal) (b : Bool) → l < 2 * length cs → o ≡ held cs l → b ≡ is_some o → b ≡ true → Going l m cs → get_or ns l false ≡ true
  wanted_there l m cs o b h e f t I = sym (I.1.left l (omega arith) h) ∙ ap is_some (sym e) ∙ sym f ∙ t

  module _ (l : ℕ) (m : Making) (cs cs' : List Copies) (o : Option Literal) (b : Bool) (c : Literal) (inside : l < 2 * length cs) (e : o ≡ held cs l) (f : b ≡ is_some o) (t : b ≡ true)
      (I : Going l m cs) (s : cs' ≡ put cs l c) (long : length cs' ≡ length cs) where
    wanted : get_or ns l false ≡ true
    wanted = wanted_there l m cs o b inside e f t I

    pub going_input : l / 2 < m₀.first → c.code ≡ input_copy (part (l / 2)) l → Going (suc l) m cs'
    going_input h x =
        let O = one_input m₀.first (olds m₀) part ns l wanted h in
        (subst (Grown m₀ m) (sym (O.gates ∙ append-nil _)) I.0, passed_put m₀.first (olds m₀) part ns l cs cs' c _ [] (omega arith) s O x I.1 long)

    pub going_gate : (m' : Making) → m₀.made ≡ 0 → m₀.used ≤ length m₀.gates.now → Ascending m₀.first (olds m₀) → m₀.first ≤ l / 2 → l / 2 < m₀.first + m₀.used → GateCopied m m' cs l c → Going (suc l) m' cs'
    going_gate m' start room asc deep within C = (
      gate_grown m₀ m part ns l cs start room asc deep within I.0 I.1 m' c C wanted,
      passed_put m₀.first (olds m₀) part ns l cs cs' c _ _ (omega arith) s (step m₀ m part ns l cs start room asc deep within I.0 I.1 wanted)
          (gate_code m₀ m part ns l cs start room asc deep within I.0 I.1 m' c C wanted) I.1 long,
    )
