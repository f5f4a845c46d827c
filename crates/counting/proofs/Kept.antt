-- The counter keeps what every searcher keeps.
use Rattle.std.proofs.Common.{◌≡◌, ℕ, ◌+◌, ◌/◌, ◌^◌, ◌<◌, ◌≤◌, Bool, true, false, cond, ◌&&◌, ◌≢◌, List, map, length, get_or, Some, None, Option, sym, refl, ap, ◌∙◌, subst, inl, inr, arith}
use Rattle.std.proofs.lemmas.Nat.{pow-add, pow_pos}
use Rattle.std.proofs.lemmas.List.FromFn.{length-map-range_with_len, get_or-map-range_with_len}
use Rattle.std.proofs.lemmas.Bool.{and_from, and_parts, cond-true, false≢true}
use Rattle.valuation.specs.declared.Value.{Value}
use Rattle.valuation.specs.declared.Value.TheVariants.{Unknown, False, True}
use Rattle.valuation.specs.Three.{or_else, of_bool}
use Rattle.valuation.specs.Rails.{is_false}
use Rattle.valuation.specs.Circuit.{Values, gate, negated, signed, reads, settings_from, Valuation, Reached, at_root, by_left, by_right}
use Rattle.valuation.specs.Reach.{reach}
use Rattle.valuation.proofs.Order.{known, forced_known, forced_unknown}
use Rattle.valuation.proofs.Nodes.{nodes as each_node, half, both_same}
use Rattle.valuation.proofs.Computed.{equations_hold}
use Rattle.valuation.proofs.Cut.{reach_exact, reached_inside}
use Rattle.search.specs.Queries.{Query, Sound, nodes, values_under, root_under, Refuted}
use Rattle.search.specs.Answers.{ceiling, is_known, only, Right}
use Rattle.search.proofs.Marks.{on_inside}
use Rattle.counting.specs.Counting.{setting, case_of, refutes, first_open, core, counted, CountsKeep}
use Rattle.counting.proofs.Cases.{length_setting, one_to_one, Says, first_says}

false_is : (v : Value) → is_false v ≡ true → v ≡ False
false_is Unknown e = absurd (false≢true e)
false_is False e = refl
false_is True e = absurd (false≢true e)

known_is : (v : Value) → is_known v ≡ true → v ≢ Unknown
known_is Unknown e = λ u. false≢true e
known_is False e = λ u. false≢true (sym (ap is_known u) ∙ e)
known_is True e = λ u. false≢true (sym (ap is_known u) ∙ e)

known_on : (v : Value) → v ≢ Unknown → is_known v ≡ true
known_on Unknown k = absurd (k refl)
known_on False k = refl
known_on True k = refl

module _ (q : Query) (sound : Sound q) where
  abbrev all : Values
  all = reads q.forced

  abbrev some : Values
  some = only (core q) all

  core_at : (n : ℕ) → n < nodes q → get_or (core q) n false ≡ (get_or (reach (1 + q.variables) q.gates all (q.root / 2)) n false && is_known (all n))
  core_at n h = get_or-map-range_with_len _ 0 (length q.forced) n n false (omega (arith, sound.covered)) (omega arith)

  length_core : length (core q) ≡ nodes q
  length_core = length-map-range_with_len _ 0 (length q.forced) ∙ sound.covered

  -- the core's nodes are forced ..
  core_forced : (n : ℕ) → get_or (core q) n false ≡ true → all n ≢ Unknown
  core_forced n h = known_is (all n) (and_parts _ (is_known (all n)) (sym (core_at n (omega (arith, on_inside (core q) n h, length_core))) ∙ h)).1

  -- .. and the reached forced nodes are in it
  kept : (n : ℕ) → Reached (1 + q.variables) q.gates all (q.root / 2) n → all n ≢ Unknown → some n ≡ all n
  kept n r k =
      let i = reached_inside (1 + q.variables) q.gates all (q.root / 2) sound.ascending (omega arith) sound.rooted n r in
      cond-true (get_or (core q) n false) (all n) Unknown
      (core_at n i ∙ and_from _ (is_known (all n)) ((reach_exact (1 + q.variables) q.gates all (q.root / 2) sound.ascending (omega arith) sound.rooted n).1 r) (known_on (all n) k))

  left_out : (n : ℕ) → all n ≡ Unknown → some n ≡ Unknown
  left_out n u = by (get_or (core q) n false)
    where
      by : (b : Bool) → cond b (all n) Unknown ≡ Unknown
      by true = u
      by false = refl

  -- so every reached node has the same value with only the core forced
  reached_same : (s : List Value) (n : ℕ) → n < nodes q → Reached (1 + q.variables) q.gates all (q.root / 2) n → values_under q all s n ≡ values_under q some s n
  reached_same s =
      each_node first q.gates (λ n. Reached first q.gates all (q.root / 2) n → values_under q all s n ≡ values_under q some s n)
      (λ n i r. one n _ _ r (X.inputs n i) (Y.inputs n i) (λ u. refl))
      (λ k i h r. one (first + k) _ _ r (X.gates k i) (Y.gates k i)
      (λ u. both_same (values_under q all s) (values_under q some s) (gate q.gates k) (h _ (half _ _ (sound.ascending k i).0) (by_left k i u r)) (h _ (half _ _ (sound.ascending k i).1) (by_right k i u r))))
    where
      first : ℕ
      first = 1 + q.variables

      X : Valuation first q.gates all (settings_from q.start s) (values_under q all s)
      X = (equations_hold first q.gates all (settings_from q.start s) sound.ascending).1

      Y : Valuation first q.gates some (settings_from q.start s) (values_under q some s)
      Y = (equations_hold first q.gates some (settings_from q.start s) sound.ascending).1

      one : (n : ℕ) (a b : Value) → Reached first q.gates all (q.root / 2) n → values_under q all s n ≡ or_else (all n) a → values_under q some s n ≡ or_else (some n) b → (all n ≡ Unknown → a ≡ b) → values_under q all s n ≡ values_under q some s n
      one n a b r x y same =
          elim (known (all n)) [
            | inl u ↦ x ∙ forced_unknown (all n) a u ∙ same u ∙ sym (y ∙ forced_unknown (some n) b (left_out n u))
            | inr k ↦ x ∙ forced_known (all n) a k ∙ sym (y ∙ ap (λ f. or_else f b) (kept n r k) ∙ forced_known (all n) b k)
          ]

  right : (o : Option ℕ) → Says (refutes q) 0 (2 ^ q.free) o → Right q (counted q o).outcome
  right (Some t) h = (length_setting q.free t, λ r. false≢true (sym h.2 ∙ ap is_false r))
  right None h = (length_core, core_forced, refuted, λ s e. sym (ap (signed (negated q.root)) (reached_same (map of_bool s) (q.root / 2) sound.rooted at_root)) ∙ refuted s e)
    where
      refuted : (s : List Bool) → length s ≡ q.free → Refuted q all s
      refuted s e =
          let c = one_to_one.0 s in
          ap (λ u. root_under q all (map of_bool u)) (sym c.1 ∙ ap (λ f. setting f (case_of s)) e)
          ∙ false_is _ (h (case_of s) (omega arith) (subst (λ f. case_of s < 0 + 2 ^ f) e (omega (arith, c.0))))

  at_least : (o : Option ℕ) → 1 ≤ (counted q o).need
  at_least (Some t) = omega arith
  at_least None = omega (arith, pow_pos q.free)

  at_most : (o : Option ℕ) → Says (refutes q) 0 (2 ^ q.free) o → (counted q o).need ≤ ceiling q.free
  at_most (Some t) h = omega (arith, h.1, pow-add 2 q.free 1)
  at_most None h = omega (arith, pow_pos q.free, pow-add 2 q.free 1)

pub counts_keep : CountsKeep
counts_keep = record {
  right = λ q sound. right q sound (first_open (refutes q) 0 (2 ^ q.free)) (first_says (refutes q) 0 (2 ^ q.free));
  some = λ q sound. at_least q sound (first_open (refutes q) 0 (2 ^ q.free));
  bounded = λ q sound. at_most q sound (first_open (refutes q) 0 (2 ^ q.free)) (first_says (refutes q) 0 (2 ^ q.free));
}
