-- The tree, node by node: what it answers is right, and how many nodes it has.
use Rattle.std.proofs.Common.{◌≡◌, ℕ, zero, suc, ◌+◌, ◌/◌, ◌^◌, ◌<◌, ◌≤◌, Bool, true, false, cond, ◌||◌, ◌≢◌, List, [], ◌∷◌, ◌++◌, map, length, get_or, replicate, sym, refl, ap, ◌∙◌, subst, inl, inr, add-one, arith, pow_pos}
use native.Mathlib.Nat.{two-pow-succ}
use Rattle.std.proofs.lemmas.List.{append-nil, append_assoc, map-append, length-append, length-map, length-replicate, get_or_append_left, get_or_past}
use Rattle.std.proofs.lemmas.Bool.{cases_lt, or_cases, or_left, or_right}
use Rattle.valuation.specs.declared.Value.{Value}
use Rattle.valuation.specs.declared.Value.TheVariants.{Unknown, False, True}
use Rattle.valuation.specs.Three.{of_bool, Below}
use Rattle.valuation.specs.Circuit.{Values, negated, reads, signed, settings_from}
use Rattle.valuation.specs.Sweep.{begin}
use Rattle.valuation.proofs.Order.{True≢False, unknown≢watched, below_same, below_signed}
use Rattle.valuation.proofs.Computed.{equations_hold}
use Rattle.search.specs.Queries.{Query, Sound, nodes, values_under, root_under, Refuted}
use Rattle.search.specs.Answers.{Outcome, moves, loses, Answer, Right, ceiling, only}
use Rattle.search.proofs.Cores.{more, stays_refuted}
use Rattle.splitting.specs.Tree.{root_at, core_at, by_root, join, second, ways, lost_at, moved_at, tree, splits}
use Rattle.splitting.specs.Claims.{SplitterKeeps}
use Rattle.search.proofs.Marks.{on_inside}
use Rattle.splitting.proofs.Blamed.{length_core, core_forced, only_below, blame_keeps}

-- both ways on, k variables unset after the next
abbrev pub on : Query → ℕ → List Bool → Answer
on q k s = ways (tree q k (s ++ (false ∷ []))).outcome (tree q k (s ++ (false ∷ []))).need (tree q k (s ++ (true ∷ [])))

-- a node's answer, by the root's value there
module _ (q : Query) (s : List Bool) where
  pub tree_lost : (k : ℕ) → root_at q s ≡ False → tree q k s ≡ lost_at q s
  unfolding tree
  tree_lost zero e = ap (λ x. by_root x (lost_at q s) (moved_at 0 s) (moved_at 0 s)) e
  tree_lost (suc k) e = ap (λ x. by_root x (lost_at q s) (moved_at (suc k) s) (on q k s)) e

  pub tree_moved : (k : ℕ) → root_at q s ≡ True → tree q k s ≡ moved_at k s
  unfolding tree
  tree_moved zero e = ap (λ x. by_root x (lost_at q s) (moved_at 0 s) (moved_at 0 s)) e
  tree_moved (suc k) e = ap (λ x. by_root x (lost_at q s) (moved_at (suc k) s) (on q k s)) e

  pub tree_end : root_at q s ≡ Unknown → tree q 0 s ≡ moved_at 0 s
  unfolding tree
  tree_end e = ap (λ x. by_root x (lost_at q s) (moved_at 0 s) (moved_at 0 s)) e

  pub tree_split : (k : ℕ) → root_at q s ≡ Unknown → tree q (suc k) s ≡ on q k s
  unfolding tree
  tree_split k e = ap (λ x. by_root x (lost_at q s) (moved_at (suc k) s) (on q k s)) e

-- what holds of each node's answer, from its parts
module _ (q : Query) (P : ℕ → List Bool → Answer → Type 0)
    (lost : (k : ℕ) (s : List Bool) → root_at q s ≡ False → P k s (lost_at q s))
    (moved : (k : ℕ) (s : List Bool) → root_at q s ≡ True → P k s (moved_at k s))
    (end : (s : List Bool) → root_at q s ≡ Unknown → P 0 s (moved_at 0 s))
    (split : (k : ℕ) (s : List Bool) (a b : Answer) → root_at q s ≡ Unknown → P k (s ++ (false ∷ [])) a → P k (s ++ (true ∷ [])) b → P (suc k) s (ways a.outcome a.need b)) where
  at_zero : (s : List Bool) (x : Value) → root_at q s ≡ x → P 0 s (tree q 0 s)
  at_zero s False e = subst (P 0 s) (sym (tree_lost q s 0 e)) (lost 0 s e)
  at_zero s True e = subst (P 0 s) (sym (tree_moved q s 0 e)) (moved 0 s e)
  at_zero s Unknown e = subst (P 0 s) (sym (tree_end q s e)) (end s e)

  at_suc : (k : ℕ) (s : List Bool) → P k (s ++ (false ∷ [])) (tree q k (s ++ (false ∷ []))) → P k (s ++ (true ∷ [])) (tree q k (s ++ (true ∷ []))) → (x : Value) → root_at q s ≡ x → P (suc k) s (tree q (suc k) s)
  at_suc k s l r False e = subst (P (suc k) s) (sym (tree_lost q s (suc k) e)) (lost (suc k) s e)
  at_suc k s l r True e = subst (P (suc k) s) (sym (tree_moved q s (suc k) e)) (moved (suc k) s e)
  at_suc k s l r Unknown e = subst (P (suc k) s) (sym (tree_split q s k e)) (split k s _ _ e l r)

  pub by_tree : (k : ℕ) (s : List Bool) → P k s (tree q k s)
  by_tree zero s = at_zero s (root_at q s) refl
  by_tree (suc k) s = at_suc k s (by_tree k (s ++ (false ∷ []))) (by_tree k (s ++ (true ∷ []))) (root_at q s) refl

-- joined cores
pub length_join : (cs ds : List Bool) → length (join cs ds) ≡ length cs
length_join [] ds = refl
length_join (c ∷ cs) [] = refl
length_join (c ∷ cs) (d ∷ ds) = ap suc (length_join cs ds)

or_none : (b : Bool) → b ≡ (b || false)
or_none true = refl
or_none false = refl

pub get_or_join : (cs ds : List Bool) (n : ℕ) → n < length cs → get_or (join cs ds) n false ≡ (get_or cs n false || get_or ds n false)
get_or_join [] ds n h = absurd (omega arith)
get_or_join (c ∷ cs) [] n h = or_none (get_or (c ∷ cs) n false)
get_or_join (c ∷ cs) (d ∷ ds) zero h = refl
get_or_join (c ∷ cs) (d ∷ ds) (suc n) h = get_or_join cs ds n (omega arith)

-- needs
abbrev Within : ℕ → Answer → Type 0
Within k a = (1 ≤ a.need) × (a.need ≤ ceiling k)

one : (k : ℕ) → 1 ≤ ceiling k
one k = omega (arith, two-pow-succ k, add-one k, ap (λ n. 2 ^ n) (add-one k), pow_pos k)

twice : (k : ℕ) → ceiling (suc k) ≡ 1 + ceiling k + ceiling k
twice k = omega (arith, two-pow-succ (k + 1), ap (λ n. 2 ^ n) (let e : suc k + 1 ≡ suc (k + 1) = omega arith in e), pow_pos (k + 1))

within_ways : (k m : ℕ) (o : Outcome) (b : Answer) → 1 ≤ m → m ≤ ceiling k → Within k b → Within (suc k) (ways o m b)
within_ways k m (moves s) b l h w = (omega arith, omega (arith, twice k))
within_ways k m (loses c) b l h w = both b.outcome
  where
    both : (o : Outcome) → Within (suc k) (second c m o b.need)
    both (moves s) = (omega arith, omega (arith, twice k))
    both (loses d) = (omega arith, omega (arith, twice k))

pub need_within : (q : Query) (k : ℕ) (s : List Bool) → (1 ≤ (tree q k s).need) × ((tree q k s).need ≤ ceiling k)
need_within q =
    by_tree q (λ k s a. Within k a) (λ k s e. (omega arith, one k)) (λ k s e. (omega arith, one k)) (λ s e. (omega arith, one 0))
    (λ k s a b e l r. within_ways k a.need a.outcome b l.0 l.1 r)

-- a core has a place for each node
abbrev Long : Query → Outcome → Type 0
Long q (moves s) = Unit {0}
Long q (loses c) = length c ≡ nodes q

long_ways : (q : Query) (o : Outcome) (m : ℕ) (b : Answer) → Long q o → Long q b.outcome → Long q (ways o m b).outcome
long_ways q (moves s) m b l r = tt
long_ways q (loses c) m b l r = both b.outcome
  where
    both : (o : Outcome) → Long q (second c m o b.need).outcome
    both (moves s) = tt
    both (loses d) = length_join c d ∙ l

core_long : (q : Query) (k : ℕ) (s : List Bool) → Long q (tree q k s).outcome
core_long q =
    by_tree q (λ k s a. Long q a.outcome) (λ k s e. length_core (1 + q.variables) q.gates (reads q.forced) (values_under q (reads q.forced) (map of_bool s)) (q.root / 2)) (λ k s e. tt) (λ s e. tt)
    (λ k s a b e l r. long_ways q a.outcome a.need b l r)

pub length_lost : (q : Query) (k : ℕ) (s c : List Bool) → (tree q k s).outcome ≡ loses c → length c ≡ nodes q
length_lost q k s c e = subst (Long q) e (core_long q k s)

-- a longer front part says more
extends : (s t : List Bool) (k : ℕ) → Below (reads (map of_bool s) k) (reads (map of_bool (s ++ t)) k)
extends s t k =
    elim (cases_lt k (length (map of_bool s))) [
      | inl h ↦ below_same _ _ (ap (λ xs. reads xs k) (map-append of_bool s t) ∙ get_or_append_left (map of_bool s) (map of_bool t) Unknown k h)
      | inr h ↦ (λ p e. absurd (unknown≢watched p (sym (get_or_past (map of_bool s) k Unknown h) ∙ e)))
    ]

module _ (q : Query) (sound : Sound q) where
  abbrev F : Values
  F = reads q.forced

  -- the root is still false with only the core forced
  still_false : (s : List Bool) → root_at q s ≡ False → root_under q (only (core_at q s) F) (map of_bool s) ≡ False
  still_false s e =
      let first = 1 + q.variables in
      let b = settings_from q.start (map of_bool s) in
      ap (signed (negated q.root)) (blame_keeps first q.gates F b (values_under q F (map of_bool s)) (values_under q (only (core_at q s) F) (map of_bool s)) q.root
      sound.ascending (omega arith) sound.rooted (equations_hold first q.gates F b sound.ascending).1 (equations_hold first q.gates (only (core_at q s) F) b sound.ascending).1
      (λ u. unknown≢watched true (sym u ∙ e)) (q.root / 2) (begin (q.root / 2) (inl refl)))
      ∙ e

  -- right for the settings that begin with s, k variables after it
  abbrev Fine : ℕ → List Bool → Outcome → Type 0
  Fine k s (moves m) = (length m ≡ q.free) × (Refuted q F m → ⊥)
  Fine k s (loses c) =
      (length c ≡ nodes q) × ((n : ℕ) → get_or c n false ≡ true → F n ≢ Unknown)
      × ((t : List Bool) → length t ≡ k → Refuted q (only c F) (s ++ t))

  abbrev Good : ℕ → List Bool → Answer → Type 0
  Good k s a = length s + k ≡ q.free → Fine k s a.outcome

  lost_good : (k : ℕ) (s : List Bool) → root_at q s ≡ False → Good k s (lost_at q s)
  lost_good k s e fits =
      let C = only (core_at q s) F in
      let v = values_under q F (map of_bool s) in (
        length_core (1 + q.variables) q.gates F v (q.root / 2),
        core_forced (1 + q.variables) q.gates F v (q.root / 2),
        λ t l. stays_refuted q sound C C (map of_bool s) (map of_bool (s ++ t)) (λ n h. below_same (C n) (C n) refl) (λ n h. only_below (core_at q s) F n)
            (extends s t) (omega (arith, length-map (s ++ t) of_bool, length-append s t)) (still_false s e),
      )

  moved_good : (k : ℕ) (s : List Bool) → root_at q s ≡ True → Good k s (moved_at k s)
  moved_good k s e fits =
      let t = replicate k false in
      let long : length (s ++ t) ≡ q.free = length-append s t ∙ ap (λ n. length s + n) (length-replicate k false) ∙ fits in (
        long,
        λ r. True≢False (sym (below_signed (negated q.root) _ _ (more q sound F F (map of_bool s) (map of_bool (s ++ t)) (λ n h. below_same (F n) (F n) refl) (λ n h. below_same (F n) (F n) refl)
            (extends s t) (omega (arith, length-map (s ++ t) of_bool)) (q.root / 2) sound.rooted) false e) ∙ r),
      )

  end_good : (s : List Bool) → root_at q s ≡ Unknown → Good 0 s (moved_at 0 s)
  end_good s e fits = (
    ap length (append-nil s) ∙ omega arith,
    λ r. unknown≢watched true (sym e ∙ ap (root_at q) (sym (append-nil s)) ∙ r),
  )

  -- a core among others
  wider : (c d : List Bool) (t : List Bool) → length t ≡ q.free → length d ≡ nodes q → ((n : ℕ) → get_or c n false ≡ true → get_or d n false ≡ true) → Refuted q (only c F) t → Refuted q (only d F) t
  wider c d t long size in_d r =
      stays_refuted q sound (only c F) (only d F) (map of_bool t) (map of_bool t) (λ n h. among n (get_or c n false) (get_or d n false) (in_d n)) (λ n h. only_below d F n)
      (λ k. below_same _ _ refl) (omega (arith, length-map t of_bool)) r
    where
      among : (n : ℕ) (x y : Bool) → (x ≡ true → y ≡ true) → Below (cond x (F n) Unknown) (cond y (F n) Unknown)
      among n true y h = rw (h refl) (below_same (F n) (F n) refl)
      among n false y h = λ p e. absurd (unknown≢watched p e)

  join_good : (k : ℕ) (s c d : List Bool) → length s + suc k ≡ q.free → Fine k (s ++ (false ∷ [])) (loses c) → Fine k (s ++ (true ∷ [])) (loses d) → Fine (suc k) s (loses (join c d))
  join_good k s c d fits l r = (size, forced, covers)
    where
      size : length (join c d) ≡ nodes q
      size = length_join c d ∙ l.0

      forced : (n : ℕ) → get_or (join c d) n false ≡ true → F n ≢ Unknown
      forced n on =
          let h : n < length c = omega (arith, on_inside (join c d) n on, length_join c d) in
          elim (or_cases (get_or c n false) (get_or d n false) (sym (get_or_join c d n h) ∙ on)) [ inl x ↦ l.1 n x | inr x ↦ r.1 n x ]

      from_left : (n : ℕ) → get_or c n false ≡ true → get_or (join c d) n false ≡ true
      from_left n on = get_or_join c d n (on_inside c n on) ∙ or_left (get_or c n false) (get_or d n false) on

      from_right : (n : ℕ) → get_or d n false ≡ true → get_or (join c d) n false ≡ true
      from_right n on = get_or_join c d n (omega (arith, on_inside d n on, l.0, r.0)) ∙ or_right (get_or c n false) (get_or d n false) on

      covers : (t : List Bool) → length t ≡ suc k → Refuted q (only (join c d) F) (s ++ t)
      covers [] e = absurd (omega arith)
      covers (false ∷ t) e =
          wider c (join c d) (s ++ (false ∷ t)) (omega (arith, length-append s (false ∷ t))) size from_left
          (subst (Refuted q (only c F)) (append_assoc s (false ∷ []) t) (l.2 t (omega arith)))
      covers (true ∷ t) e =
          wider d (join c d) (s ++ (true ∷ t)) (omega (arith, length-append s (true ∷ t))) size from_right
          (subst (Refuted q (only d F)) (append_assoc s (true ∷ []) t) (r.2 t (omega arith)))

  ways_good : (k m : ℕ) (s : List Bool) (o : Outcome) (b : Answer) → length s + suc k ≡ q.free → Fine k (s ++ (false ∷ [])) o → Fine k (s ++ (true ∷ [])) b.outcome → Fine (suc k) s (ways o m b).outcome
  ways_good k m s (moves t) b fits l r = l
  ways_good k m s (loses c) b fits l r = both b.outcome r
    where
      both : (o : Outcome) → Fine k (s ++ (true ∷ [])) o → Fine (suc k) s (second c m o b.need).outcome
      both (moves t) h = h
      both (loses d) h = join_good k s c d fits l h

  tree_good : (k : ℕ) (s : List Bool) → Good k s (tree q k s)
  tree_good =
      by_tree q Good lost_good moved_good end_good
      (λ k s a b e l r fits. ways_good k a.need s a.outcome b fits (l (simp length-append (omega arith))) (r (simp length-append (omega arith))))

  right_of : (o : Outcome) → Fine q.free [] o → Right q o
  right_of (moves m) h = h
  right_of (loses c) h = (
    h.0,
    h.1,
    λ t l. stays_refuted q sound (only c F) F (map of_bool t) (map of_bool t) (λ n i. only_below c F n) (λ n i. below_same (F n) (F n) refl) (λ k. below_same _ _ refl)
        (omega (arith, length-map t of_bool)) (h.2 t l),
    h.2,
  )

pub splitter_keeps : SplitterKeeps
splitter_keeps = record {
  right = λ q sound. right_of q sound (splits q).outcome (tree_good q sound q.free [] (omega arith));
  some = λ q sound. (need_within q q.free []).0;
  bounded = λ q sound. (need_within q q.free []).1;
}
