-- The copies that a settlement makes are copies.
use Rattle.std.proofs.Common.{◌≡◌, ℕ, zero, suc, ◌+◌, ◌-◌, ◌*◌, ◌/◌, ◌%◌, ◌<◌, ◌≤◌, Bool, true, false, cond, not, ◌&&◌, eqb, ltb, ◌↔◌, List, [], ◌∷◌, ◌++◌, map, length, get_or, sym, refl, ap, ◌∙◌, subst, subst₂, inl, inr, arith, length-append}
use native.Mathlib.Decide.{ℕ_discrete}
use Rattle.std.proofs.lemmas.List.{append_assoc, append-nil, get_or_append_left, get_or_push, get_or_past, length_push}
use Rattle.std.proofs.lemmas.Bool.{cases_lt, cond_both, eqb-true, eqb-false, eq-eqb, ne_eqb, ltb-true, ltb-false, le-ltb, and_parts, both_ways}
use Rattle.valuation.specs.Circuit.{Pair, blank, gate, Ascending, negated}
use Rattle.valuation.specs.Sweep.{In, From, begin, go}
use Rattle.valuation.proofs.Swept.{sweep_exact}
use Rattle.copies.specs.Copy.{Part, stays, played, lost, opposite, turned, like, Copy, itself, by_play, by_polarity, by_gate, Joined, none, one, two}
use Rattle.copies.specs.Make.{gate_at, needs, needed, Made, input_copy, with_copy, with_gate, fresh, unless_same, gate_copy, make, made, core_copy, Join, join_more, join, joined}
use Rattle.copies.specs.Claims.{MadeWell, SettlementMade}
use Rattle.copies.proofs.Counted.{input_low}

-- the opposite literal
pub opposite_half : (m : ℕ) → opposite m / 2 ≡ m / 2
opposite_half m = cond_both (negated m) (m - 1) (m + 1) (λ x. x / 2 ≡ m / 2) (λ e. omega (arith, eqb-true (m % 2) 1 e)) (λ e. omega (arith, eqb-false (m % 2) 1 e))

pub opposite_negated : (m : ℕ) → negated (opposite m) ≡ not (negated m)
opposite_negated m =
    cond_both (negated m) (m - 1) (m + 1) (λ x. negated x ≡ not (negated m))
    (λ e. ne_eqb ((m - 1) % 2) 1 (omega (arith, eqb-true (m % 2) 1 e)) ∙ ap not (sym e))
    (λ e. eq-eqb ((m + 1) % 2) 1 (omega (arith, eqb-false (m % 2) 1 e)) ∙ ap not (sym e))

pub like_half : (l m : ℕ) → like l m / 2 ≡ m / 2
like_half l m = cond_both (negated l) (opposite m) m (λ x. x / 2 ≡ m / 2) (λ _. opposite_half m) (λ _. refl)

-- the place of a literal has the polarity in which its node is copied
polarities : (a b : Bool) → not (cond a (not b) b) ≡ cond b (not (not a)) (not a)
polarities true true = refl
polarities true false = refl
polarities false true = refl
polarities false false = refl

like_polarity : (l m : ℕ) → not (negated (like l m)) ≡ turned m (not (negated l))
like_polarity l m = ap not (by (negated l)) ∙ polarities (negated l) (negated m)
  where
    by : (a : Bool) → negated (cond a (opposite m) m) ≡ cond a (not (negated m)) (negated m)
    by true = opposite_negated m
    by false = refl

core_polarity : (l : ℕ) → not (negated (opposite l)) ≡ turned l false
core_polarity l = ap not (opposite_negated l) ∙ by (negated l)
  where
    by : (a : Bool) → not (not a) ≡ cond a true false
    by true = refl
    by false = refl

ascending_push : (first : ℕ) (gs : List Pair) (g : Pair) → Ascending first gs → g.left < 2 * (first + length gs) → g.right < 2 * (first + length gs) → Ascending first (gs ++ (g ∷ []))
ascending_push first gs g asc l r k i =
    elim (ℕ_discrete k (length gs)) [
      | yes e ↦ (let h : gate (gs ++ (g ∷ [])) k ≡ g = get_or_push gs g blank k (sym e) in rw h (omega arith, omega arith))
      | no e ↦ (let b : k < length gs = omega (arith, length_push gs g) in rw (get_or_append_left gs (g ∷ []) blank k b) (asc k b))
    ]

module _ (first : ℕ) (old : List Pair) (part : ℕ → Part) where
  abbrev Copies : List Pair → ℕ → Bool → ℕ → Type 0
  Copies new = Copy first old new part

  -- more gates leave a copy a copy
  more_gate : (new more : List Pair) (j : ℕ) → j < length new → (j < length (new ++ more)) × (gate (new ++ more) j ≡ gate new j)
  more_gate new more j i = (simp length-append (omega arith), get_or_append_left new more blank j i)

  copy_more : (new more : List Pair) {n : ℕ} {p : Bool} {c : ℕ} → Copies new n p c → Copies (new ++ more) n p c
  copy_more new more (itself n p i e) = itself n p i e
  copy_more new more (by_play n p i b e) = by_play n p i b e
  copy_more new more (by_polarity n p i e) = by_polarity n p i e
  copy_more new more (by_gate k p i a A b B j l g) =
      let m = more_gate new more j l in by_gate k p i a (copy_more new more A) b (copy_more new more B) j m.0 (m.1 ∙ g)

  joined_more : (new more : List Pair) {ls : List ℕ} {e : ℕ} → Joined first old new part ls e → Joined first old (new ++ more) part ls e
  joined_more new more none = none
  joined_more new more (one l c C) = one l c (copy_more new more C)
  joined_more new more (two ks ls a b A B j i g) =
      let m = more_gate new more j i in two ks ls a b (joined_more new more A) (joined_more new more B) j m.0 (m.1 ∙ g)

  -- one gate more
  push : (hs : List Pair) (g : Pair) → (old ++ hs) ++ (g ∷ []) ≡ old ++ (hs ++ (g ∷ []))
  push hs g = append_assoc old hs (g ∷ [])

  length_next : (hs : List Pair) (g : Pair) → length (old ++ (hs ++ (g ∷ []))) ≡ length (old ++ hs) + 1
  length_next hs g = ap length (sym (push hs g)) ∙ length_push (old ++ hs) g

  gate_next : (hs : List Pair) (g : Pair) → gate (old ++ (hs ++ (g ∷ []))) (length (old ++ hs)) ≡ g
  gate_next hs g = ap (λ gs. gate gs (length (old ++ hs))) (sym (push hs g)) ∙ get_or_push (old ++ hs) g blank (length (old ++ hs)) refl

  copy_next : (hs : List Pair) (g : Pair) {n : ℕ} {p : Bool} {c : ℕ} → Copies (old ++ hs) n p c → Copies (old ++ (hs ++ (g ∷ []))) n p c
  copy_next hs g {n} {p} {c} C = subst (λ gs. Copies gs n p c) (push hs g) (copy_more (old ++ hs) (g ∷ []) C)

  joined_next : (hs : List Pair) (g : Pair) {ls : List ℕ} {e : ℕ} → Joined first old (old ++ hs) part ls e → Joined first old (old ++ (hs ++ (g ∷ []))) part ls e
  joined_next hs g {ls} {e} J = subst (λ gs. Joined first old gs part ls e) (push hs g) (joined_more (old ++ hs) (g ∷ []) J)

  ascending_next : (hs : List Pair) (g : Pair) → Ascending first (old ++ hs) → g.left < fresh first old hs → g.right < fresh first old hs → Ascending first (old ++ (hs ++ (g ∷ [])))
  ascending_next hs g asc l r = subst (Ascending first) (push hs g) (ascending_push first (old ++ hs) g asc l r)

  -- what holds after l places
  record Right (ns : List Bool) (l : ℕ) (m : Made) : Type 0 where
    pub long : length m.copies ≡ l
    pub copy : (i : ℕ) → i < l → get_or ns i false ≡ true → Copies (old ++ m.gates) (i / 2) (not (negated i)) (get_or m.copies i 0)
    pub low : (i : ℕ) → i < l → get_or m.copies i 0 < fresh first old m.gates
    pub ascending : Ascending first (old ++ m.gates)

  module _ (ns : List Bool) where
    -- the place l, and those before
    place : (P : ℕ → ℕ → Type 0) (cs : List ℕ) (c l : ℕ) → length cs ≡ l → ((i : ℕ) → i < l → P i (get_or cs i 0)) → P l c → (i : ℕ) → i < suc l → P i (get_or (cs ++ (c ∷ [])) i 0)
    place P cs c l e before now i b =
        elim (ℕ_discrete i l) [
          | yes h ↦ subst₂ P (sym h) (sym (get_or_push cs c 0 i (e ∙ sym h))) now
          | no h ↦ subst (P i) (sym (get_or_append_left cs (c ∷ []) 0 i (omega arith))) (before i (omega arith))
        ]

    copied_right : (l : ℕ) (m : Made) (c : ℕ) → Right ns l m → c < fresh first old m.gates →
        (get_or ns l false ≡ true → Copies (old ++ m.gates) (l / 2) (not (negated l)) c) → Right ns (suc l) (with_copy m c)
    copied_right l m c R b C = record {
      long = omega (arith, length_push m.copies c, R.long);
      copy = place (λ i c. get_or ns i false ≡ true → Copies (old ++ m.gates) (i / 2) (not (negated i)) c) m.copies c l R.long R.copy C;
      low = place (λ i c. c < fresh first old m.gates) m.copies c l R.long R.low b;
      ascending = R.ascending;
    }

    gate_right : (l : ℕ) (m : Made) (g : Pair) → Right ns l m → g.left < fresh first old m.gates → g.right < fresh first old m.gates →
        Copies (old ++ (m.gates ++ (g ∷ []))) (l / 2) (not (negated l)) (fresh first old m.gates) → Right ns (suc l) (with_gate first old m g)
    gate_right l m g R a b C =
        let f = fresh first old m.gates in
        let n : f < fresh first old (m.gates ++ (g ∷ [])) = omega (arith, length_next m.gates g) in
        record {
          long = omega (arith, length_push m.copies f, R.long);
          copy = place (λ i c. get_or ns i false ≡ true → Copies (old ++ (m.gates ++ (g ∷ []))) (i / 2) (not (negated i)) c) m.copies f l R.long (λ i b o. copy_next m.gates g (R.copy i b o)) (λ _. C);
          low = place (λ i c. c < fresh first old (m.gates ++ (g ∷ []))) m.copies f l R.long (λ i b. omega (arith, R.low i b)) n;
          ascending = ascending_next m.gates g R.ascending a b;
        }

    module _ (asc : Ascending first old) (pos : 0 < first)
        (closed : (l : ℕ) → l < 2 * (first + length old) → first ≤ l / 2 → get_or ns l false ≡ true →
        (get_or ns (like l (gate_at first old l).left) false ≡ true) × (get_or ns (like l (gate_at first old l).right) false ≡ true)) where
      input_right : (new : List Pair) (a : Part) (l : ℕ) → l / 2 < first → part (l / 2) ≡ a → Copies new (l / 2) (not (negated l)) (input_copy a l)
      input_right new stays l h e = itself (l / 2) (not (negated l)) h e
      input_right new (played b) l h e = by_play (l / 2) (not (negated l)) h b e
      input_right new lost l h e = by_polarity (l / 2) (not (negated l)) h e

      module _ (l : ℕ) (m : Made) (R : Right ns l m) (fits : l < 2 * (first + length old)) (o : get_or ns l false ≡ true) (deep : first ≤ l / 2) where
        abbrev k : ℕ
        k = l / 2 - first

        abbrev g : Pair
        g = gate_at first old l

        abbrev h : Pair
        h = gate_copy l g m

        abbrev p : Bool
        p = not (negated l)

        there : first + k ≡ l / 2
        there = omega arith

        inside : k < length old
        inside = omega arith

        -- the copy of a literal's node
        before : (x : ℕ) → x < 2 * (first + k) → like l x < l
        before x b = omega (arith, like_half l x)

        node_copy : (x : ℕ) → x < 2 * (first + k) → get_or ns (like l x) false ≡ true → Copies (old ++ m.gates) (x / 2) (turned x p) (get_or m.copies (like l x) 0)
        node_copy x b n = subst₂ (λ y q. Copies (old ++ m.gates) y q (get_or m.copies (like l x) 0)) (like_half l x) (like_polarity l x) (R.copy (like l x) (before x b) n)

        literal_low : (x : ℕ) → x < 2 * (first + k) → like x (get_or m.copies (like l x) 0) < fresh first old m.gates
        literal_low x b = omega (arith, like_half x (get_or m.copies (like l x) 0), R.low (like l x) (before x b))

        left_copy : Copies (old ++ m.gates) (g.left / 2) (turned g.left p) (get_or m.copies (like l g.left) 0)
        left_copy = node_copy g.left (asc k inside).0 (closed l fits deep o).0

        right_copy : Copies (old ++ m.gates) (g.right / 2) (turned g.right p) (get_or m.copies (like l g.right) 0)
        right_copy = node_copy g.right (asc k inside).1 (closed l fits deep o).1

        same_right : h.left ≡ g.left → h.right ≡ g.right → Copies (old ++ m.gates) (l / 2) p (2 * (l / 2))
        same_right a b =
            let q = more_gate old m.gates k inside in
            let r : g ≡ h = λ i. record { left = sym a i; right = sym b i } in
            subst (λ n. Copies (old ++ m.gates) n p (2 * n)) there (by_gate k p inside _ left_copy _ right_copy k q.0 (q.1 ∙ r))

        new_right : Copies (old ++ (m.gates ++ (h ∷ []))) (l / 2) p (fresh first old m.gates)
        new_right =
            subst (λ n. Copies (old ++ (m.gates ++ (h ∷ []))) n p (fresh first old m.gates)) there
            (by_gate k p inside _ (copy_next m.gates h left_copy) _ (copy_next m.gates h right_copy) (length (old ++ m.gates)) (omega (arith, length_next m.gates h)) (gate_next m.gates h))

        node_right : Right ns (suc l) (unless_same first old m l g h)
        node_right =
            cond_both (eqb h.left g.left && eqb h.right g.right) _ _ (Right ns (suc l))
            (λ e. let t = and_parts _ _ e in
            copied_right l m (2 * (l / 2)) R (omega (arith, length-append old m.gates)) (λ _. same_right (eqb-true _ _ t.0) (eqb-true _ _ t.1)))
            (λ e. gate_right l m h R (literal_low g.left (asc k inside).0) (literal_low g.right (asc k inside).1) new_right)

      make_right : (l : ℕ) → l ≤ 2 * (first + length old) → Right ns l (make first old part ns l)
      make_right zero b = record { long = refl; copy = λ i h. absurd (omega arith); low = λ i h. absurd (omega arith); ascending = subst (Ascending first) (sym (append-nil old)) asc }
      make_right (suc l) b =
          let m = make first old part ns l in
          let R = make_right l (omega arith) in
          cond_both (get_or ns l false) _ _ (Right ns (suc l))
          (λ o. cond_both (ltb (l / 2) first) _ _ (Right ns (suc l))
          (λ e. let i = ltb-true (l / 2) first e in
          copied_right l m _ R (omega (arith, input_low first (part (l / 2)) l pos i)) (λ _. input_right (old ++ m.gates) (part (l / 2)) l i refl))
          (λ e. node_right l m R b o (ltb-false (l / 2) first e)))
          (λ f. copied_right l m 0 R (omega arith) (λ o. absurd (both_ways _ f o)))

  -- the copies joined
  record Joins (ls : List ℕ) (j : Join) : Type 0 where
    pub copies : Joined first old (old ++ j.gates) part ls j.literal
    pub low : j.literal < fresh first old j.gates
    pub ascending : Ascending first (old ++ j.gates)

  record Waits (cs : List ℕ) (hs : List Pair) (l : ℕ) : Type 0 where
    pub copy : Copies (old ++ hs) (l / 2) (turned l false) (get_or cs (opposite l) 0)
    pub low : core_copy cs l < fresh first old hs

  module _ (cs : List ℕ) where
    join_more_right : (ls done : List ℕ) (e : ℕ) (hs : List Pair) → Joins done (record { literal = e; gates = hs }) → ((l : ℕ) → In l ls → Waits cs hs l) →
        Joins (done ++ ls) (join_more first old cs ls e hs)
    join_more_right [] done e hs J w = subst (λ ls. Joins ls (record { literal = e; gates = hs })) (sym (append-nil done)) J
    join_more_right (l ∷ ls) done e hs J w =
        let g : Pair = record { left = e; right = core_copy cs l } in
        let n = length_next hs g in
        let W = w l (inl refl) in
        subst (λ ks. Joins ks (join_more first old cs (l ∷ ls) e hs)) (append_assoc done (l ∷ []) ls)
        (join_more_right ls (done ++ (l ∷ [])) (fresh first old hs) (hs ++ (g ∷ []))
        (record {
          copies = two done (l ∷ []) e (core_copy cs l) (joined_next hs g J.copies) (one l _ (copy_next hs g W.copy)) (length (old ++ hs)) (omega arith) (gate_next hs g);
          low = omega arith;
          ascending = ascending_next hs g J.ascending J.low W.low;
        })
        (λ k i. let V = w k (inr i) in record { copy = copy_next hs g V.copy; low = omega (arith, V.low) }))

    join_right : (ls : List ℕ) (hs : List Pair) → 0 < first → Ascending first (old ++ hs) → ((l : ℕ) → In l ls → Waits cs hs l) → Joins ls (join first old cs ls hs)
    join_right [] hs pos asc w = record { copies = none; low = omega arith; ascending = asc }
    join_right (l ∷ ls) hs pos asc w =
        let W = w l (inl refl) in
        join_more_right ls (l ∷ []) (core_copy cs l) hs (record { copies = one l _ W.copy; low = W.low; ascending = asc }) (λ k i. w k (inr i))

-- the places needed
in_map : (ls : List ℕ) (l : ℕ) → In l ls → In (opposite l) (map opposite ls)
in_map [] l i = absurd i
in_map (k ∷ ls) l (inl e) = inl (ap opposite e)
in_map (k ∷ ls) l (inr i) = inr (in_map ls l i)

of_map : (ls : List ℕ) (i : ℕ) → In i (map opposite ls) → (l : ℕ) × In l ls × (i ≡ opposite l)
of_map [] i h = absurd h
of_map (k ∷ ls) i (inl e) = (k, inl refl, e)
of_map (k ∷ ls) i (inr h) = let r = of_map ls i h in (r.0, inr r.1, r.2)

pub needs_at : (first : ℕ) (old : List Pair) (l : ℕ) → first ≤ l / 2 → needs first old l ≡ like l (gate_at first old l).left ∷ like l (gate_at first old l).right ∷ []
needs_at first old l h = ap (λ b. cond b [] (like l (gate_at first old l).left ∷ like l (gate_at first old l).right ∷ [])) (le-ltb (l / 2) first h)

module _ (first : ℕ) (old : List Pair) (asc : Ascending first old) (pos : 0 < first) where
  low_gate : (k : ℕ) → ((gate old k).left < 2 * (first + k)) × ((gate old k).right < 2 * (first + k))
  low_gate k =
      elim (cases_lt k (length old)) [
        | inl i ↦ asc k i
        | inr i ↦ (let e : gate old k ≡ blank = get_or_past old k blank i in (rw e (omega arith), rw e (omega arith)))
      ]

  needs_down : (l j : ℕ) → In j (needs first old l) → j < l
  needs_down l j =
      cond_both (ltb (l / 2) first) [] (like l (gate_at first old l).left ∷ like l (gate_at first old l).right ∷ []) (λ ns. In j ns → j < l) (λ _ m. absurd m) (λ e m. pick (ltb-false (l / 2) first e) m)
    where
      pick : first ≤ l / 2 → In j (like l (gate_at first old l).left ∷ like l (gate_at first old l).right ∷ []) → j < l
      pick h (inl e) = omega (arith, like_half l (gate_at first old l).left, (low_gate (l / 2 - first)).0)
      pick h (inr (inl e)) = omega (arith, like_half l (gate_at first old l).right, (low_gate (l / 2 - first)).1)
      pick h (inr (inr e)) = absurd e

  module _ (core : List ℕ) (fits : (l : ℕ) → In l core → l / 2 < first + length old) where
    start_fits : (i : ℕ) → In i (map opposite core) → i < 2 * (first + length old)
    start_fits i h = let r = of_map core i h in let e = r.2 in omega (arith, opposite_half r.0, fits r.0 r.1)

    exact : (i : ℕ) → (get_or (needed first old core) i false ≡ true) ↔ From (needs first old) (map opposite core) i
    exact = sweep_exact (needs first old) (2 * (first + length old)) (map opposite core) needs_down start_fits

    needed_closed : (l : ℕ) → l < 2 * (first + length old) → first ≤ l / 2 → get_or (needed first old core) l false ≡ true →
        (get_or (needed first old core) (like l (gate_at first old l).left) false ≡ true) × (get_or (needed first old core) (like l (gate_at first old l).right) false ≡ true)
    needed_closed l b d o =
        let f = (exact l).0 o in (
          (exact (like l (gate_at first old l).left)).1 (go l _ f (rw (needs_at first old l d) (inl refl))),
          (exact (like l (gate_at first old l).right)).1 (go l _ f (rw (needs_at first old l d) (inr (inl refl)))),
        )

    needed_core : (l : ℕ) → In l core → get_or (needed first old core) (opposite l) false ≡ true
    needed_core l i = (exact (opposite l)).1 (begin (opposite l) (in_map core l i))

module _ (first : ℕ) (old : List Pair) (part : ℕ → Part) (core : List ℕ) (asc : Ascending first old) (pos : 0 < first) (fits : (l : ℕ) → In l core → l / 2 < first + length old) where
  made_right : Right first old part (needed first old core) (2 * (first + length old)) (made first old part core)
  made_right = make_right first old part (needed first old core) asc pos (needed_closed first old asc pos core fits) (2 * (first + length old)) (omega arith)

  waiting : (m : Made) → Right first old part (needed first old core) (2 * (first + length old)) m → (l : ℕ) → In l core → Waits first old part m.copies m.gates l
  waiting m R l i =
      let b : opposite l < 2 * (first + length old) = omega (arith, opposite_half l, fits l i) in
      record {
        copy = subst₂ (λ n p. Copy first old (old ++ m.gates) part n p (get_or m.copies (opposite l) 0)) (opposite_half l) (core_polarity l) (R.copy (opposite l) b (needed_core first old asc pos core fits l i));
        low = omega (arith, like_half l (get_or m.copies (opposite l) 0), R.low (opposite l) b);
      }

  joins : Joins first old part core (joined first old part core)
  joins = join_right first old part (made first old part core).copies core (made first old part core).gates pos made_right.ascending (waiting (made first old part core) made_right)

  finish : (j : Join) (r : ℕ) → Joins first old part core j → r / 2 < first + length old →
      MadeWell first old (old ++ (j.gates ++ (record { left = r; right = opposite j.literal } ∷ []))) part core j.literal r (length (old ++ j.gates))
  finish j r J h =
      let g : Pair = record { left = r; right = opposite j.literal } in
      record {
        ascending = ascending_next first old part j.gates g J.ascending (omega (arith, length-append old j.gates)) (omega (arith, opposite_half j.literal, J.low));
        copies = joined_next first old part j.gates g J.copies;
        inside = omega (arith, length_next first old part j.gates g);
        root = gate_next first old part j.gates g;
      }

pub settlement_made : SettlementMade
settlement_made first old part core r asc pos inside fits = finish first old part core asc pos fits (joined first old part core) r (joins first old part core asc pos fits) inside
