-- The tree covers every setting once, and no move refutes every branch.
use Rattle.std.proofs.Common.{◌≡◌, ℕ, zero, suc, ◌+◌, ◌<◌, ◌≤◌, Bool, true, false, List, [], ◌∷◌, ◌++◌, length, get_or, take, sym, refl, ap, ◌∙◌, subst, inl, inr, arith}
use Rattle.std.proofs.lemmas.List.{append-nil, append_assoc, length-append, length_push, length-take-le, take_more, take-take, take_at, take-append-le}
use Rattle.std.proofs.lemmas.Bool.{cases_lt, cases_order}
use Rattle.valuation.specs.declared.Value.TheVariants.{Unknown, False}
use Rattle.valuation.proofs.Order.{known, unknown≢watched}
use Rattle.search.specs.Queries.{Query}
use Rattle.search.specs.Answers.{Outcome, moves, loses, Answer}
use Rattle.splitting.specs.Tree.{root_at, ways, second, tree}
use Rattle.splitting.specs.Claims.{Node, start, below, End, EverySettingCovered, NoMoveRefutes}
use Rattle.splitting.proofs.Trees.{by_tree}

module _ (q : Query) where
  -- at every node above a node the root is unknown
  above : {s : List Bool} → Node q s → (m : ℕ) → m < length s → root_at q (take m s) ≡ Unknown
  above start m h = absurd (omega arith)
  above (below s b n u f) m h =
      elim (cases_lt m (length s)) [
        | inl l ↦ ap (root_at q) (take-append-le m s (b ∷ []) (omega arith)) ∙ above n m l
        | inr l ↦ ap (root_at q) (take_at s (b ∷ []) m (omega (arith, length_push s b))) ∙ u
      ]

  -- so no branch ends there
  not_above : (t : List Bool) → length t ≡ q.free → (m n : ℕ) → n ≤ q.free → m < n → End q (take m t) → End q (take n t) → ⊥
  not_above t long m n b l d e =
      elim d.ends [
        | inl known ↦ known (ap (root_at q) (sym (take-take m n t (omega arith))) ∙ above e.node m (omega (arith, length-take-le n t (omega arith))))
        | inr whole ↦ omega (arith, length-take-le m t (omega arith))
      ]

  module _ (t : List Bool) (long : length t ≡ q.free) where
    -- down a setting to the end of its branch, k variables unset
    descend : (k n : ℕ) → n + k ≡ q.free → Node q (take n t) → (m : ℕ) × ((m ≤ q.free) × End q (take m t))
    descend zero n e d = (n, (omega arith, record { node = d; ends = inr (length-take-le n t (omega arith) ∙ omega arith) }))
    descend (suc k) n e d =
        elim (known (root_at q (take n t))) [
          | inr known ↦ (n, (omega arith, record { node = d; ends = inl known }))
          | inl u ↦ descend k (n + 1) (omega arith)
              (subst (Node q) (sym (take_more t n false (omega arith))) (below (take n t) (get_or t n false) d u (omega (arith, length-take-le n t (omega arith)))))
        ]

    covered : (n : ℕ) × ((n ≤ q.free) × End q (take n t) × ((m : ℕ) → m ≤ q.free → End q (take m t) → m ≡ n))
    covered =
        let r = descend q.free 0 (omega arith) start in (
          r.0,
          (
            r.1.0,
            r.1.1,
            λ m b e. elim (cases_order m r.0) [
              | inl same ↦ same
              | inr other ↦ elim other [
                | inl less ↦ absurd (not_above t long m r.0 r.1.0 less e r.1.1)
                | inr more ↦ absurd (not_above t long r.0 m b more r.1.1 e)
              ]
            ],
          ),
        )

  -- the ends below a node are refuted
  abbrev Refutes : ℕ → List Bool → Answer → Type 0
  Refutes k s a = length s + k ≡ q.free → (c : List Bool) → a.outcome ≡ loses c → (u : List Bool) → End q (s ++ u) → root_at q (s ++ u) ≡ False

  no_loss : (m c : List Bool) → moves m ≡ loses c → ⊥
  no_loss m c e = cc

  lost : (k : ℕ) (s : List Bool) → root_at q s ≡ False → (u : List Bool) → End q (s ++ u) → root_at q (s ++ u) ≡ False
  lost k s e [] d = ap (root_at q) (append-nil s) ∙ e
  lost k s e (b ∷ u) d =
      absurd (unknown≢watched true (sym (above d.node (length s) (simp length-append (omega arith))) ∙ ap (root_at q) (take_at s (b ∷ u) (length s) refl) ∙ e))

  split : (k m : ℕ) (s : List Bool) (o : Outcome) (b : Answer) → root_at q s ≡ Unknown → Refutes k (s ++ (false ∷ [])) (record { outcome = o; need = m }) → Refutes k (s ++ (true ∷ [])) b → Refutes (suc k) s (ways o m b)
  split k m s (moves t) b e l r fits c same = absurd (no_loss t c same)
  split k m s (loses d) b e l r fits c same = both b.outcome refl same
    where
      both : (o : Outcome) → b.outcome ≡ o → (second d m o b.need).outcome ≡ loses c → (u : List Bool) → End q (s ++ u) → root_at q (s ++ u) ≡ False
      both (moves t) is same' = absurd (no_loss t c same')
      both (loses f) is same' = ends
        where
          ends : (u : List Bool) → End q (s ++ u) → root_at q (s ++ u) ≡ False
          ends [] x =
              elim x.ends [
                | inl known ↦ absurd (known (ap (root_at q) (append-nil s) ∙ e))
                | inr whole ↦ absurd (omega (arith, ap length (append-nil s)))
              ]
          ends (false ∷ u) x =
              ap (root_at q) (sym (append_assoc s (false ∷ []) u)) ∙ l (simp length-append (omega arith)) d refl u (subst (End q) (sym (append_assoc s (false ∷ []) u)) x)
          ends (true ∷ u) x =
              ap (root_at q) (sym (append_assoc s (true ∷ []) u)) ∙ r (simp length-append (omega arith)) f is u (subst (End q) (sym (append_assoc s (true ∷ []) u)) x)

  refutes : (k : ℕ) (s : List Bool) → Refutes k s (tree q k s)
  refutes =
      by_tree q Refutes (λ k s e fits c same. lost k s e) (λ k s e fits c same. absurd (no_loss _ c same)) (λ s e fits c same. absurd (no_loss _ c same))
      (λ k s a b e l r. split k a.need s a.outcome b e l r)

pub every_setting_covered : EverySettingCovered
every_setting_covered q t long = covered q t long

pub no_move_refutes : NoMoveRefutes
no_move_refutes q c same s d = refutes q q.free [] (omega arith) c same s d
