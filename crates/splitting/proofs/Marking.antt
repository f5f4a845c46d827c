-- The marks while the blamed nodes are gone through: in the end the core is added.
use Rattle.std.proofs.Common.{◌≡◌, ℕ, ◌+◌, ◌-◌, ◌<◌, ◌≤◌, Bool, true, false, cond, ◌&&◌, ◌||◌, eqb, ltb, ◌≢◌, ◌⊎◌, List, [], ◌∷◌, length, get_or, set, sym, refl, ap, ◌∙◌, subst, ap₂, inl, inr, arith}
use Rattle.std.proofs.lemmas.List.{ext_get_or, get_or-set_same}
use Rattle.std.proofs.lemmas.Bool.{cases_eq, cases_lt, and_parts, and_from, or_cases, or_left, or_right, eq-eqb, lt-ltb}
use Rattle.valuation.specs.declared.Value.{Value}
use Rattle.valuation.specs.declared.Value.TheVariants.{Unknown, False, True}
use Rattle.valuation.specs.Circuit.{Pair, gate, Ascending, Values, negated, signed, lit}
use Rattle.valuation.specs.Sweep.{In, From, begin, go}
use Rattle.valuation.specs.Reach.{if_unknown}
use Rattle.valuation.proofs.Order.{unknown≢watched}
use Rattle.search.specs.Answers.{is_known}
use Rattle.splitting.specs.Blame.{passes, blames, blamed, core}
use Rattle.splitting.specs.Tree.{join}
use Rattle.splitting.specs.Worklist.{holds, noted}
use Rattle.valuation.proofs.Cut.{gate_low}
use Rattle.splitting.proofs.Blamed.{blames_gate, blamed_exact, blamed_fits, length_core, core_on}
use Rattle.splitting.proofs.Trees.{length_join, get_or_join}
use Rattle.splitting.proofs.Working.{on, on_set, set_on, place_of, Working, notes_keep, one_done, all_found}

pub is_known_true : (x : Value) → x ≢ Unknown → is_known x ≡ true
is_known_true Unknown k = absurd (k refl)
is_known_true False k = refl
is_known_true True k = refl

known_is : (x : Value) → is_known x ≡ true → x ≢ Unknown
known_is Unknown e = λ u. cc
known_is False e = λ u. unknown≢watched true (sym u)
known_is True e = λ u. unknown≢watched false (sym u)

-- equal truth values, by what each gives of the other
same_truth : (a b : Bool) → (a ≡ true → b ≡ true) → (b ≡ true → a ≡ true) → a ≡ b
same_truth true b f g = sym (f refl)
same_truth false true f g = g refl
same_truth false false f g = refl

-- of the places below `done`, the forced ones are marked; every other mark is an old one
pub record Marking (F : Values) (next : ℕ → List ℕ) (start : List ℕ) (old marks : List Bool) (order : List ℕ) (done : ℕ) : Type 0 where
  pub kept : (n : ℕ) → on old n → on marks n
  pub new : (i : ℕ) → i < done → F (get_or order i 0) ≢ Unknown → on marks (get_or order i 0)
  pub only : (n : ℕ) → on marks n → on old n ⊎ ((F n ≢ Unknown) × From next start n)

module _ (F : Values) (next : ℕ → List ℕ) (start : List ℕ) (old marks : List Bool) (order : List ℕ) (done node : ℕ) (is : get_or order done 0 ≡ node) where
  -- a forced node is marked ..
  pub marking_forced : F node ≢ Unknown → From next start node → node < length marks → Marking F next start old marks order done → Marking F next start old (set marks node true) order (done + 1)
  marking_forced forced way inside m = record {
    kept = λ n o. on_set marks node n inside (m.kept n o);
    new = λ i h k. elim (cases_eq i done) [
      | inl e ↦ subst (on (set marks node true)) (sym (ap (λ j. get_or order j 0) e ∙ is)) (get_or-set_same marks node true false inside)
      | inr e ↦ on_set marks node _ inside (m.new i (omega arith) k)
    ];
    only = λ n o. elim (set_on marks node n o) [
      | inl e ↦ inr (rw e forced, rw e way)
      | inr e ↦ m.only n e
    ];
  }

  -- .. and no other; places may be noted at the end
  pub marking_past : (order' : List ℕ) → ((i : ℕ) → i < done + 1 → get_or order' i 0 ≡ get_or order i 0) → F node ≡ Unknown → Marking F next start old marks order done → Marking F next start old marks order' (done + 1)
  marking_past order' front free m = record {
    kept = m.kept;
    new = λ i h k. elim (cases_eq i done) [
      | inl e ↦ absurd (k (ap F (front i h ∙ ap (λ j. get_or order j 0) e ∙ is) ∙ free))
      | inr e ↦ subst (on marks) (sym (front i h)) (m.new i (omega arith) (λ u. k (ap F (front i h) ∙ u)))
    ];
    only = m.only;
  }

-- what a node that is forced, or an input, passes on
pub blames_forced : (first : ℕ) (gs : List Pair) (F v : Values) (n : ℕ) → F n ≢ Unknown → blames first gs F v n ≡ []
blames_forced first gs F v n k = pick (ltb n first) (F n) k
  where
    pick : (b : Bool) (x : Value) → x ≢ Unknown → cond b [] (if_unknown x (passes (v n) (lit v (gate gs (n - first)).left) (gate gs (n - first)))) ≡ []
    pick true x k = refl
    pick false Unknown k = absurd (k refl)
    pick false False k = refl
    pick false True k = refl

pub blames_input : (first : ℕ) (gs : List Pair) (F v : Values) (n : ℕ) → n < first → blames first gs F v n ≡ []
blames_input first gs F v n h = ap (λ b. cond b [] (if_unknown (F n) (passes (v n) (lit v (gate gs (n - first)).left) (gate gs (n - first))))) (lt-ltb n first h)

module _ (first : ℕ) (gs : List Pair) (F v : Values) (root : ℕ) (asc : Ascending first gs) (pos : 0 < first) (inside : root < first + length gs) where
  -- all gone through: the core is joined to the old marks
  pub core_joined : (order : List ℕ) (done : ℕ) (old marks : List Bool) → length old ≡ first + length gs → length marks ≡ length old → length order ≤ done → holds order root ≡ true →
      Working (blames first gs F v) (root ∷ []) order done → Marking F (blames first gs F v) (root ∷ []) old marks order done → marks ≡ join old (core first gs F v root)
  core_joined order done old marks long same all begun w m =
      ext_get_or false marks (join old (core first gs F v root)) (same ∙ sym (length_join old (core first gs F v root)))
      (λ n h. same_truth (get_or marks n false) (get_or (join old (core first gs F v root)) n false) (there n (omega arith)) (back n (omega arith)))
    where
      joined : (n : ℕ) → n < length old → get_or (join old (core first gs F v root)) n false ≡ (get_or old n false || (get_or (blamed first gs F v root) n false && is_known (F n)))
      joined n h = get_or_join old (core first gs F v root) n h ∙ ap (λ b. get_or old n false || b) (core_on first gs F v root n (omega arith))

      there : (n : ℕ) → n < length old → on marks n → on (join old (core first gs F v root)) n
      there n h o =
          joined n h ∙ elim (m.only n o) [
            | inl x ↦ or_left (get_or old n false) (get_or (blamed first gs F v root) n false && is_known (F n)) x
            | inr x ↦ or_right (get_or old n false) (get_or (blamed first gs F v root) n false && is_known (F n))
                (and_from (get_or (blamed first gs F v root) n false) (is_known (F n)) ((blamed_exact first gs F v asc pos root inside n).1 x.1) (is_known_true (F n) x.0))
          ]

      back : (n : ℕ) → n < length old → on (join old (core first gs F v root)) n → on marks n
      back n h o =
          elim (or_cases (get_or old n false) (get_or (blamed first gs F v root) n false && is_known (F n)) (sym (joined n h) ∙ o)) [
            | inl x ↦ m.kept n x
            | inr x ↦
                let p = and_parts (get_or (blamed first gs F v root) n false) (is_known (F n)) x in
                let l = place_of order n (all_found (blames first gs F v) (root ∷ []) order done all (λ j i. elim i [ inl e ↦ rw e begun | inr z ↦ absurd z ]) w ((blamed_exact first gs F v asc pos root inside n).0 p.0)) in
                subst (on marks) l.1.1 (m.new l.0 (omega (arith, l.1.0)) (λ u. known_is (F n) p.1 (ap F (sym l.1.1) ∙ u)))
          ]

-- The blamed nodes while they are gone through, in the order in which they were found: `done` of them are.
pub record Blaming (first : ℕ) (gs : List Pair) (F v : Values) (root : ℕ) (old marks : List Bool) (order : List ℕ) (done : ℕ) : Type 0 where
  pub before : done ≤ length order
  pub begun : holds order root ≡ true
  pub working : Working (blames first gs F v) (root ∷ []) order done
  pub marking : Marking F (blames first gs F v) (root ∷ []) old marks order done

module _ (first : ℕ) (gs : List Pair) (F v : Values) (root : ℕ) where
  -- the root is noted first
  pub blaming_start : (old : List Bool) → Blaming first gs F v root old old (root ∷ []) 0
  blaming_start old = record {
    before = omega arith;
    begun = or_left (eqb root root) false (eq-eqb root root refl);
    working = record {
      reached = λ i h. subst (From (blames first gs F v) (root ∷ [])) (ap (λ k. get_or (root ∷ []) k 0) (let z : 0 ≡ i = omega arith in z)) (begin root (inl refl));
      closed = λ i h. absurd (omega arith);
    };
    marking = record { kept = λ n o. o; new = λ i h. absurd (omega arith); only = λ n o. inl o };
  }

  module _ (old marks : List Bool) (order : List ℕ) (done : ℕ) (b : Blaming first gs F v root old marks order done) where
    -- the node gone through next
    pub blaming_way : done < length order → From (blames first gs F v) (root ∷ []) (get_or order done 0)
    blaming_way h = b.working.reached done h

    module _ (node : ℕ) (is : get_or order done 0 ≡ node) (less : done < length order) where
      -- a node that passes the blame on, to nodes that are noted then
      passed : (ns : List ℕ) → blames first gs F v node ≡ ns → (marks' : List Bool) → Marking F (blames first gs F v) (root ∷ []) old marks' (noted ns order) (done + 1) →
          Blaming first gs F v root old marks' (noted ns order) (done + 1)
      passed ns leads marks' marking =
          let P : List ℕ → Type 0 = λ xs. Working (blames first gs F v) (root ∷ []) (noted xs order) (done + 1) in
          let one = one_done (blames first gs F v) (root ∷ []) order done node is less b.working in
          record {
            before = omega (arith, one.grows, ap (λ xs. length (noted xs order)) leads);
            begun = ap (λ xs. holds (noted xs order) root) (sym leads) ∙ one.kept root b.begun;
            working = subst P leads one.working;
            marking = marking;
          }

      -- a forced node is marked and not entered
      pub blaming_forced : F node ≢ Unknown → node < length marks → Blaming first gs F v root old (set marks node true) order (done + 1)
      blaming_forced forced inside =
          passed [] (blames_forced first gs F v node forced) (set marks node true)
          (marking_forced F (blames first gs F v) (root ∷ []) old marks order done node is forced (subst (From (blames first gs F v) (root ∷ [])) is (blaming_way less)) inside b.marking)

      -- an input that is not forced passes nothing on
      pub blaming_input : F node ≡ Unknown → node < first → Blaming first gs F v root old marks order (done + 1)
      blaming_input free low =
          passed [] (blames_input first gs F v node low) marks
          (marking_past F (blames first gs F v) (root ∷ []) old marks order done node is order (λ i h. refl) free b.marking)

      -- a gate that is not forced passes it on by its value
      pub blaming_gate : (k : ℕ) → node ≡ first + k → F node ≡ Unknown → Blaming first gs F v root old marks (noted (passes (v node) (lit v (gate gs k).left) (gate gs k)) order) (done + 1)
      blaming_gate k at free =
          let ns = passes (v node) (lit v (gate gs k).left) (gate gs k) in
          let leads : blames first gs F v node ≡ ns = ap (blames first gs F v) at ∙ blames_gate first gs F v k (ap F (sym at) ∙ free) ∙ ap (λ n. passes (v n) (lit v (gate gs k).left) (gate gs k)) (sym at) in
          let ways = λ (m : ℕ) (i : In m ns). go node m (subst (From (blames first gs F v) (root ∷ [])) is (blaming_way less)) (subst (In m) (sym leads) i) in
          let noting = notes_keep (blames first gs F v) (root ∷ []) ns order done ways (omega arith) b.working in
          passed ns leads marks (marking_past F (blames first gs F v) (root ∷ []) old marks order done node is (noted ns order) (λ i h. noting.front i (omega arith)) free b.marking)

  -- what a loop has of it before it goes on: the next node is one of the circuit
  pub blaming_ready : Ascending first gs → 0 < first → root < first + length gs → (size : ℕ) (old marks : List Bool) (order : List ℕ) (done : ℕ) → size ≡ first + length gs → Blaming first gs F v root old marks order done →
      (done < length order → get_or order done 0 < size) × Blaming first gs F v root old marks order done
  blaming_ready asc pos inside size old marks order done is b = (λ h. omega (arith, blamed_fits first gs F v asc pos root (blaming_way old marks order done b h)), b)

  pub blaming_same : {old marks marks' : List Bool} {order order' : List ℕ} {done : ℕ} → marks' ≡ marks → order' ≡ order → Blaming first gs F v root old marks order done → Blaming first gs F v root old marks' order' done
  blaming_same {old} {marks} {order} {order'} {done} m o b =
      subst (λ ms. Blaming first gs F v root old ms order' done) (sym m) (subst (λ xs. Blaming first gs F v root old marks xs done) (sym o) b)

  -- all gone through
  pub blaming_end : Ascending first gs → 0 < first → root < first + length gs → (old marks : List Bool) (order : List ℕ) (done : ℕ) → length old ≡ first + length gs → length marks ≡ length old →
      length order ≤ done → Blaming first gs F v root old marks order done → marks ≡ join old (core first gs F v root)
  blaming_end asc pos inside old marks order done long same all b = core_joined first gs F v root asc pos inside order done old marks long same all b.begun b.working b.marking

-- the core rests on the values up to the root's node
module _ (first : ℕ) (gs : List Pair) (F : Values) (root : ℕ) (asc : Ascending first gs) (pos : 0 < first) (inside : root < first + length gs) where
  blames_same : (v w : Values) → ((n : ℕ) → n ≤ root → v n ≡ w n) → (n : ℕ) → n ≤ root → blames first gs F v n ≡ blames first gs F w n
  blames_same v w same n h =
      elim (cases_lt n first) [
        | inl l ↦ blames_input first gs F v n l ∙ sym (blames_input first gs F w n l)
        | inr l ↦
            let low = gate_low first gs asc pos (n - first) in
            ap₂ (λ x y. cond (ltb n first) [] (if_unknown (F n) (passes x y (gate gs (n - first))))) (same n h) (ap (signed (negated (gate gs (n - first)).left)) (same _ (omega arith)))
      ]

  from_same : (v w : Values) → ((n : ℕ) → n ≤ root → v n ≡ w n) → {n : ℕ} → From (blames first gs F v) (root ∷ []) n → From (blames first gs F w) (root ∷ []) n
  from_same v w same (begin i m) = begin i m
  from_same v w same (go i j f m) = go i j (from_same v w same f) (subst (In j) (blames_same v w same i (blamed_fits first gs F v asc pos root f)) m)

  pub core_same : (v w : Values) → ((n : ℕ) → n ≤ root → v n ≡ w n) → core first gs F v root ≡ core first gs F w root
  core_same v w same =
      ext_get_or false (core first gs F v root) (core first gs F w root) (length_core first gs F v root ∙ sym (length_core first gs F w root))
      (λ n h. let i : n < first + length gs = omega (arith, length_core first gs F v root) in
      core_on first gs F v root n i
      ∙ ap (λ b. b && is_known (F n)) (same_truth (get_or (blamed first gs F v root) n false) (get_or (blamed first gs F w root) n false)
      (λ o. (blamed_exact first gs F w asc pos root inside n).1 (from_same v w same ((blamed_exact first gs F v asc pos root inside n).0 o)))
      (λ o. (blamed_exact first gs F v asc pos root inside n).1 (from_same w v (λ m k. sym (same m k)) ((blamed_exact first gs F w asc pos root inside n).0 o))))
      ∙ sym (core_on first gs F w root n i))
