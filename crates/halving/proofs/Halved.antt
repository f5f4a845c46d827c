-- The halver keeps what every searcher keeps.
use Rattle.std.proofs.Common.{◌≡◌, ℕ, ◌+◌, ◌-◌, ◌^◌, ◌<◌, ◌≤◌, Bool, true, false, cond, ◌||◌, eqb, ◌≢◌, List, [], ◌∷◌, map, length, get_or, sym, refl, ap, ◌∙◌, subst, inl, inr, arith}
use Rattle.std.specs.List.{range_with_len}
use Rattle.std.proofs.lemmas.List.{get_or-set_same, get_or-set_other, length-set}
use Rattle.std.proofs.lemmas.Nat.{pow-add, pow_pos}
use Rattle.std.proofs.lemmas.List.FromFn.{length-map-range_with_len, get_or-map-range_with_len}
use Rattle.std.proofs.lemmas.Bool.{cases_eq, or_cases, or_left, or_right, false≢true, eq-eqb, ne_eqb, cond-true, cond-false}
use Rattle.valuation.specs.declared.Value.TheVariants.{Unknown}
use Rattle.valuation.specs.Three.{Below}
use Rattle.valuation.specs.Circuit.{Values, reads}
use Rattle.valuation.proofs.Order.{below_same, unknown≢watched}
use Rattle.search.proofs.Marks.{on_inside}
use Rattle.search.specs.Queries.{Query, Sound, nodes, Refuted}
use Rattle.search.specs.Answers.{Outcome, moves, loses, Answer, ceiling, only, Right}
use Rattle.halving.specs.Halving.{under, with_first, half, joined, after_loss, either, halves, HalvesKeep}
use Rattle.halving.proofs.Under.{also, also_same, also_other, reads_set, unforced, under_sound, refuted_above, refuted_below}

pub length_joined : (node : ℕ) (xs ys : List Bool) → length (joined node xs ys) ≡ length ys
length_joined node xs ys = length-set _ node false ∙ length-map-range_with_len (λ n. get_or xs n false || get_or ys n false) 0 (length ys)

joined_in : (node : ℕ) (xs ys : List Bool) (n : ℕ) → (n ≡ node → ⊥) → n < length ys → get_or (joined node xs ys) n false ≡ (get_or xs n false || get_or ys n false)
joined_in node xs ys n ne h = get_or-set_other _ node n false false ne ∙ get_or-map-range_with_len (λ n. get_or xs n false || get_or ys n false) 0 (length ys) n n false h (omega arith)

joined_out : (node : ℕ) (xs ys : List Bool) (n : ℕ) → n ≡ node → n < length ys → get_or (joined node xs ys) n false ≡ false
joined_out node xs ys n e h =
    ap (λ k. get_or (joined node xs ys) k false) e
    ∙ get_or-set_same (map (λ n. get_or xs n false || get_or ys n false) (range_with_len 0 (length ys))) node false false (omega (arith, length-map-range_with_len (λ n. get_or xs n false || get_or ys n false) 0 (length ys)))

module _ (q : Query) (sound : Sound q) (some : 0 < q.free) where
  -- the marks of one half say the same with the node not marked: it is forced there by itself
  module _ (b : Bool) (core all : List Bool)
      (out : get_or all q.start false ≡ false) (among : (n : ℕ) → (n ≡ q.start → ⊥) → get_or core n false ≡ true → get_or all n false ≡ true) where
    abbrev kept : Values
    kept = only all (reads q.forced)

    at_forced : (n : ℕ) → reads (under q b).forced n ≡ also q.start b (reads q.forced) n
    at_forced = reads_set q.forced q.start b (omega (arith, sound.inside, sound.covered))

    below_only : (x : Bool) (n : ℕ) → (n ≡ q.start → ⊥) → (x ≡ true → get_or all n false ≡ true) → Below (cond x (reads (under q b).forced n) Unknown) (also q.start b kept n)
    below_only true n ne h =
        below_same _ _ (also_other q.start b kept n ne ∙ cond-true (get_or all n false) (reads q.forced n) Unknown (h refl) ∙ sym (at_forced n ∙ also_other q.start b (reads q.forced) n ne))
    below_only false n ne h = λ p e. absurd (unknown≢watched p e)

    below_first : (x : Bool) (n : ℕ) → n ≡ q.start → Below (cond x (reads (under q b).forced n) Unknown) (also q.start b kept n)
    below_first true n e = below_same _ _ (also_same q.start b kept n e ∙ sym (at_forced n ∙ also_same q.start b (reads q.forced) n e))
    below_first false n e = λ p h. absurd (unknown≢watched p h)

    below_forced : (x : Bool) (n : ℕ) → Below (cond x (reads q.forced n) Unknown) (reads q.forced n)
    below_forced true n = below_same _ _ refl
    below_forced false n = λ p h. absurd (unknown≢watched p h)

    half_refuted : (s : List Bool) → length s ≤ q.free - 1 → Refuted (under q b) (only core (reads (under q b).forced)) s → Refuted q kept (b ∷ s)
    half_refuted s short =
        refuted_above q sound some b kept (only core (reads (under q b).forced)) s (cond-false (get_or all q.start false) _ Unknown out) short
        (λ n lt. elim (cases_eq n q.start) [ inl e ↦ below_first (get_or core n false) n e | inr e ↦ below_only (get_or core n false) n e (among n e) ])
        (λ n lt. elim (cases_eq n q.start) [
          | inl e ↦ below_same _ _ (at_forced n ∙ also_same q.start b (reads q.forced) n e ∙ sym (also_same q.start b kept n e))
          | inr e ↦ λ p h. at_forced n ∙ also_other q.start b (reads q.forced) n e ∙ below_forced (get_or all n false) n p (sym (also_other q.start b kept n e) ∙ h)
        ])

  -- every setting of all forced nodes
  whole_refuted : (b : Bool) (s : List Bool) → length s ≤ q.free - 1 → Refuted (under q b) (reads (under q b).forced) s → Refuted q (reads q.forced) (b ∷ s)
  whole_refuted b s short =
      refuted_above q sound some b (reads q.forced) (reads (under q b).forced) s (unforced q sound some b) short
      (λ n lt. below_same _ _ (sym (reads_set q.forced q.start b (omega (arith, sound.inside, sound.covered)) n)))
      (λ n lt. below_same _ _ (reads_set q.forced q.start b (omega (arith, sound.inside, sound.covered)) n))

  -- a move below is one here
  right_move : (b : Bool) (s : List Bool) → Right (under q b) (moves s) → Right q (moves (b ∷ s))
  right_move b s r = (omega (arith, r.0), λ h. r.1 (refuted_below q sound some b s (omega (arith, r.0)) h))

  module _ (first second : List Bool) (r : Right (under q false) (loses first)) (t : Right (under q true) (loses second)) where
    abbrev core : Bool → List Bool
    core true = second
    core false = first

    abbrev cores : List Bool
    cores = joined q.start first second

    long : length cores ≡ nodes q
    long = length_joined q.start first second ∙ t.0

    out : get_or cores q.start false ≡ false
    out = joined_out q.start first second q.start refl (omega (arith, t.0, sound.inside))

    among : (b : Bool) (n : ℕ) → (n ≡ q.start → ⊥) → get_or (core b) n false ≡ true → get_or cores n false ≡ true
    among true n ne h = joined_in q.start first second n ne (on_inside second n h) ∙ or_right (get_or first n false) (get_or second n false) h
    among false n ne h = joined_in q.start first second n ne (omega (arith, on_inside first n h, r.0, t.0)) ∙ or_left (get_or first n false) (get_or second n false) h

    -- the marked nodes are forced
    marked_forced : (b : Bool) (n : ℕ) → (n ≡ q.start → ⊥) → reads (under q b).forced n ≢ Unknown → reads q.forced n ≢ Unknown
    marked_forced b n ne k e = k (reads_set q.forced q.start b (omega (arith, sound.inside, sound.covered)) n ∙ also_other q.start b (reads q.forced) n ne ∙ e)

    forced_on : (n : ℕ) → get_or cores n false ≡ true → reads q.forced n ≢ Unknown
    forced_on n h =
        let i : n < length second = omega (arith, on_inside cores n h, length_joined q.start first second) in
        elim (cases_eq n q.start) [
          | inl e ↦ absurd (false≢true (sym (joined_out q.start first second n e i) ∙ h))
          | inr ne ↦ elim (or_cases (get_or first n false) (get_or second n false) (sym (joined_in q.start first second n ne i) ∙ h)) [
            | inl o ↦ marked_forced false n ne (r.1 n o)
            | inr o ↦ marked_forced true n ne (t.1 n o)
          ]
        ]

    all : (b : Bool) (s : List Bool) → length s ≡ q.free - 1 → Refuted q (reads q.forced) (b ∷ s)
    all true s e = whole_refuted true s (omega arith) (t.2 s e)
    all false s e = whole_refuted false s (omega arith) (r.2 s e)

    still : (b : Bool) (s : List Bool) → length s ≡ q.free - 1 → Refuted q (only cores (reads q.forced)) (b ∷ s)
    still true s e = half_refuted true second cores out (among true) s (omega arith) (t.3 s e)
    still false s e = half_refuted false first cores out (among false) s (omega arith) (r.3 s e)

    -- a setting has a first value
    each : (F : Values) → ((b : Bool) (s : List Bool) → length s ≡ q.free - 1 → Refuted q F (b ∷ s)) → (s : List Bool) → length s ≡ q.free → Refuted q F s
    each F h [] e = absurd (omega arith)
    each F h (b ∷ s) e = h b s (omega arith)

    right_loss : Right q (loses cores)
    right_loss = (long, forced_on, each (reads q.forced) all, each (only cores (reads q.forced)) still)

  right_second : (first : List Bool) → Right (under q false) (loses first) → (o : Outcome) → Right (under q true) o → Right q (after_loss q.start first (with_first true o))
  right_second first r (moves s) t = right_move true s t
  right_second first r (loses second) t = right_loss first second r t

  right_either : (need : ℕ) (o : Outcome) → Right (under q false) o → (p : Answer) → Right (under q true) p.outcome →
      Right q (either q.start (with_first false o) need (record { outcome = with_first true p.outcome; need = p.need })).outcome
  right_either need (moves s) r p t = right_move false s r
  right_either need (loses first) r p t = right_second first r p.outcome t

some_either : (node : ℕ) (o : Outcome) (need : ℕ) (a : Answer) → 1 ≤ (either node o need a).need
some_either node (moves s) need a = omega arith
some_either node (loses core) need a = omega arith

most_either : (node : ℕ) (o : Outcome) (need : ℕ) (a : Answer) → (either node o need a).need ≤ 1 + need + a.need
most_either node (moves s) need a = omega arith
most_either node (loses core) need a = omega arith

-- two halves and a step
ceiling_halves : (f : ℕ) → 0 < f → 1 + ceiling (f - 1) + ceiling (f - 1) ≤ ceiling f
ceiling_halves f h =
    let p : 2 ^ (f - 1 + 1) ≡ 2 ^ f = ap (λ k. 2 ^ k) (omega arith) in
    omega (arith, p, pow-add 2 f 1, pow_pos f)

module _ (m : Query → Answer) (q : Query) where
  halves_none : q.free ≡ 0 → halves m q ≡ m q
  halves_none e = cond-true (eqb q.free 0) _ _ (eq-eqb q.free 0 e)

  halves_some : 0 < q.free → halves m q ≡ either q.start (half m q false).outcome (half m q false).need (half m q true)
  halves_some h = cond-false (eqb q.free 0) _ _ (ne_eqb q.free 0 (λ e. omega arith))

  -- by whether a variable is free
  by_free : (P : Answer → Type 0) → (q.free ≡ 0 → P (m q)) → (0 < q.free → P (either q.start (half m q false).outcome (half m q false).need (half m q true))) → P (halves m q)
  by_free P none some =
      elim (cases_eq q.free 0) [
        | inl e ↦ subst P (sym (halves_none e)) (none e)
        | inr e ↦ let h : 0 < q.free = omega arith in subst P (sym (halves_some h)) (some h)
      ]

pub halves_keep : HalvesKeep
halves_keep m keeps = record {
  right = λ q sound. by_free m q (λ a. Right q a.outcome) (λ _. keeps.right q sound)
      (λ h. right_either q sound h (m (under q false)).need (m (under q false)).outcome (keeps.right (under q false) (under_sound q sound h false)) (m (under q true)) (keeps.right (under q true) (under_sound q sound h true)));
  some = λ q sound. by_free m q (λ a. 1 ≤ a.need) (λ _. keeps.some q sound) (λ h. some_either q.start (half m q false).outcome (half m q false).need (half m q true));
  bounded = λ q sound. by_free m q (λ a. a.need ≤ ceiling q.free) (λ _. keeps.bounded q sound)
      (λ h. omega (
        arith,
        most_either q.start (half m q false).outcome (half m q false).need (half m q true),
        ceiling_halves q.free h,
        keeps.bounded (under q false) (under_sound q sound h false),
        keeps.bounded (under q true) (under_sound q sound h true),
      ));
}
