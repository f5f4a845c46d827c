-- Turns and settlements are steps of the abstract run.
use Rattle.std.proofs.Common.{◌≡◌, ℕ, suc, ◌+◌, ◌/◌, ◌<◌, Bool, true, false, cond, eqb, ◌≢◌, List, ◌++◌, length, get_or, take, drop, sym, refl, ap, ◌∙◌, subst, inl, inr, true≢false, arith}
use mathlib.Core.Bool.{false≢true}
use native.Mathlib.Decide.{ℕ_discrete}
use Rattle.std.proofs.lemmas.List.{length-append, length-drop}
use Rattle.std.proofs.lemmas.Bool.{eq-eqb, ne_eqb, cases_Bool, cond_both}
use Rattle.game.specs.Prefix.{Formula, size, upto}
use Rattle.game.specs.Run.{Settles}
use Rattle.valuation.specs.declared.Value.{Value}
use Rattle.valuation.specs.declared.Value.TheVariants.{Unknown, False, True}
use Rattle.valuation.specs.Circuit.{Pair, Ascending, Values, nothing, negated, signed, lit, reads, node_values, Reached, at_root, by_left, by_right}
use Rattle.valuation.specs.Sweep.{In}
use Rattle.valuation.specs.Reach.{reach, cut}
use Rattle.valuation.proofs.Cut.{reach_exact, cut_right, cut_sound}
use Rattle.valuation.proofs.Computed.{same_inputs}
use Rattle.copies.specs.Copy.{AllTrue, forced_by}
use Rattle.copies.specs.Claims.{value, SettledWell, MadeWell, Rests}
use Rattle.copies.specs.Make.{core_of, joined, settle_gates, settle_root}
use Rattle.copies.proofs.Making.{settlement_made}
use Rattle.copies.proofs.Right.{settlement_right}
use Rattle.copies.proofs.Core.{core_true, core_forces, core_marked}
use Rattle.copies.proofs.Rested.{on, rests_earlier, rests_kept}
use Rattle.steps.specs.Steps.{base_of, range_of, not_false, tests, Rooted, QueryRight, MoveRight, LossRight, part_after, gates_after, roots_after, SettlementSteps, LostRight}
use Rattle.steps.proofs.Bits.{play_more, range_play, range_below, agrees, unsets, stay_low}

-- what is forced counts only below the circuit's size
same_forced : (first : ℕ) (gs : List Pair) (F G b : Values) (l : ℕ) → Ascending first gs → ((n : ℕ) → n < first + length gs → F n ≡ G n) → value first gs F b l ≡ value first gs G b l
same_forced first gs F G b l asc h = ap (λ vs. lit (reads vs) l) (same_inputs first gs F G b b asc h (λ n i. refl))

positive : {F : Formula} {first : ℕ} {gs : List Pair} {roots : ℕ → ℕ} → Rooted F first gs roots → 0 < first
positive R = omega (arith, R.inputs)

pub query_right : QueryRight
query_right first gs root p s forced asc pos inside by_cut =
    same_forced first gs forced _ (range_of (length p) s) root asc by_cut
    ∙ ap (signed (negated root)) (cut_right first gs (root / 2) (base_of p) (base_of (p ++ s)) (range_of (length p) s) asc pos inside (λ n i. play_more p s n) (λ n i. range_play p s n) refl (root / 2) at_root)

is_false : (x : Value) → not_false x ≡ false → x ≡ False
is_false Unknown e = absurd (true≢false e)
is_false False e = refl
is_false True e = absurd (true≢false e)

passes : (x : Value) → not_false x ≡ true → x ≢ False
passes x e f = false≢true (sym (ap not_false f) ∙ e)

pass : (x : Value) → x ≢ False → not_false x ≡ true
pass Unknown h = refl
pass False h = absurd (h refl)
pass True h = refl

pub move_right : MoveRight
move_right F d p s first gs roots forced R by_cut h =
    pass _ (λ e. h (query_right first gs (roots (suc d)) p s forced R.ascending (positive R) (R.low (suc d)) by_cut ∙ e))

pub loss_right : LossRight
loss_right F d p first gs roots forced R by_cut h s l =
    ap not_false (sym (query_right first gs (roots (suc d)) p s forced R.ascending (positive R) (R.low (suc d)) by_cut) ∙ h s l)

-- over any gates and any root that settle well
module _ (F : Formula) (d : ℕ) (p : List Bool) (first : ℕ) (gs new : List Pair) (roots : ℕ → ℕ) (core : List ℕ) (r : ℕ)
    (low : (j : ℕ) → roots j / 2 < first + length gs) (long : length p ≡ upto F (suc (suc d)))
    (S : SettledWell first gs new (part_after F d p) core (roots (suc d)) r (roots (suc (suc (suc d)))))
    (known : AllTrue (reads (node_values first gs nothing (base_of p))) core)
    (refuted : (s : List Bool) → length s ≡ size F (suc (suc d)) → value first gs (forced_by core) (range_of (length p) s) (roots (suc (suc (suc d)))) ≡ False) where
  abbrev after : ℕ → ℕ
  after j = cond (eqb j (suc d)) r (roots j)

  at_new : (t : List Bool) → tests first new after (suc d) t ≡ not_false (value first new nothing (base_of t) r)
  at_new t = ap (λ b. not_false (value first new nothing (base_of t) (cond b r (roots (suc d))))) (eq-eqb (suc d) (suc d) refl)

  settles : Settles F d p (tests first gs roots) (tests first new after)
  settles = record {
    same = λ j le n t l. ap (λ b. not_false (value first new nothing (base_of t) (cond b r (roots (suc j))))) (ne_eqb (suc j) (suc d) (λ e. n (omega arith))) ∙ ap not_false (S.earlier nothing (base_of t) (roots (suc j)) (low (suc j)));
    falls = λ t l b. elim (cases_Bool (tests first gs roots (suc d) t)) [
      | inl y ↦ y
      | inr n ↦ absurd (passes _ (sym (at_new t) ∙ b) (S.falls (base_of t) (is_false _ n)))
    ];
    own = at_new _ ∙ ap not_false (S.own (base_of (take (upto F (suc d)) p)) (base_of p) refl (λ n i. unsets (upto F (suc d)) (upto F (suc (suc d))) (upto F (suc (suc (suc d)))) p (omega arith) (omega arith) long n) known);
    just = λ t l a b s ls. ap not_false (S.just (base_of t) (base_of ((t ++ drop (upto F (suc d)) p) ++ s)) (range_of (length p) s) refl
        (λ n i. agrees (upto F (suc d)) (upto F (suc (suc d))) (upto F (suc (suc (suc d)))) p (omega arith) (omega arith) long t s l (omega arith) n)
        (λ n i. range_below (length p) (t ++ drop (upto F (suc d)) p) s (omega (arith, length-append t (drop (upto F (suc d)) p), length-drop (upto F (suc d)) p)) n)
        (refuted s ls) (passes _ a) (is_false _ (sym (at_new t) ∙ b)));
  }

pub settlement_steps : SettlementSteps
settlement_steps F d p first gs roots core R fits long known refuted =
    settles F d p first gs _ roots core _ R.low long
    (settlement_right first gs (part_after F d p) core (roots (suc d)) (roots (suc (suc (suc d)))) R.ascending (positive R) (R.low _) (R.low _) fits)
    known refuted

-- what is forced is reached, whatever is known
any_way : {first : ℕ} {gs : List Pair} {v : Values} {root n : ℕ} → Reached first gs v root n → Reached first gs nothing root n
any_way at_root = at_root
any_way (by_left k i u r) = by_left k i refl (any_way r)
any_way (by_right k i u r) = by_right k i refl (any_way r)

cut_reached : (first : ℕ) (gs : List Pair) (v : Values) (root n : ℕ) → Ascending first gs → 0 < first → root < first + length gs → cut first gs v root n ≢ Unknown → Reached first gs nothing root n
cut_reached first gs v root n asc pos inside h = any_way ((reach_exact first gs v root asc pos inside n).0 (marked (eqb n 0) (get_or (reach first gs v root) n false) h))
  where
    marked : (b m : Bool) → cond b Unknown (cond m (v n) Unknown) ≢ Unknown → m ≡ true
    marked true m k = absurd (k refl)
    marked false true k = refl
    marked false false k = absurd (k refl)

module _ (F : Formula) (d : ℕ) (p : List Bool) (first : ℕ) (gs : List Pair) (roots : ℕ → ℕ) (core : List ℕ) (R : Rooted F first gs roots)
    (long : length p ≡ upto F (suc (suc d))) (fits : (l : ℕ) → In l core → l / 2 < first + length gs)
    (under : (l : ℕ) → In l core → Reached first gs nothing (roots (suc (suc (suc d))) / 2) (l / 2)) where
  abbrev more : List Pair
  more = settle_gates first gs (part_after F d p) core (roots (suc d))

  made : MadeWell first gs (gs ++ more) (part_after F d p) core (joined first gs (part_after F d p) core).literal (roots (suc d)) (length (gs ++ (joined first gs (part_after F d p) core).gates))
  made = settlement_made first gs (part_after F d p) core (roots (suc d)) R.ascending (positive R) (R.low (suc d)) fits

  new_rests : Rests first (gs ++ more) (suc (upto F (suc d))) (settle_root first gs (part_after F d p) core / 2)
  new_rests =
      rests_kept first gs (part_after F d p) core (roots (suc d)) (suc (upto F (suc d))) (suc (upto F (suc (suc (suc d))))) R.ascending (positive R) (omega arith) (R.low (suc d)) fits
      (R.rests (suc d)) (λ l i n h q. R.rests (suc (suc (suc d))) n h (on first gs (under l i) q))
      (stay_low (upto F (suc d)) (upto F (suc (suc d))) (upto F (suc (suc (suc d)))) p (omega arith) (omega arith) long)

  rooted : Rooted F first (gates_after F d p first gs roots core) (roots_after F d p first gs roots core)
  rooted = record {
    inputs = R.inputs;
    ascending = made.ascending;
    low = λ j. cond_both (eqb j (suc d)) _ _ (λ r. r / 2 < first + length (gs ++ more)) (λ _. omega (arith, made.inside)) (λ _. omega (arith, R.low j, length-append gs more));
    rests = λ j. elim (ℕ_discrete j (suc d)) [
      | yes e ↦ subst (λ k. Rests first (gs ++ more) (suc (upto F k)) (roots_after F d p first gs roots core k / 2)) (sym e)
          (subst (λ b. Rests first (gs ++ more) (suc (upto F (suc d))) (cond b (settle_root first gs (part_after F d p) core) (roots (suc d)) / 2)) (sym (eq-eqb (suc d) (suc d) refl)) new_rests)
      | no e ↦ subst (λ b. Rests first (gs ++ more) (suc (upto F j)) (cond b (settle_root first gs (part_after F d p) core) (roots j) / 2)) (sym (ne_eqb j (suc d) e))
          (rests_earlier first gs more (suc (upto F j)) (roots j / 2) R.ascending (positive R) (R.low j) (R.rests j))
    ];
  }

pub lost_right : LostRight
lost_right F d p first gs roots marks forced R long L = record {
  settlement = settlement_steps F d p first gs roots core R fits long
      (core_true marks forced known (first + length gs) (λ n i u m. cut_sound first gs known (q / 2) n (λ e. u (L.by_cut n i ∙ e)) ∙ sym (L.by_cut n i)))
      (λ s l. same_forced first gs (forced_by core) _ (range_of (length p) s) q R.ascending (core_forces marks forced (first + length gs)) ∙ L.by_core s l);
  rooted = rooted F d p first gs roots core R long fits
      (λ l i. let c = core_marked marks forced (first + length gs) l i in
      cut_reached first gs known (q / 2) (l / 2) R.ascending (positive R) (R.low _) (λ e. c.2 (L.by_cut (l / 2) c.0 ∙ e)));
}
  where
    q : ℕ
    q = roots (suc (suc (suc d)))

    known : Values
    known = reads (node_values first gs nothing (base_of p))

    core : List ℕ
    core = core_of marks forced (first + length gs)

    fits : (l : ℕ) → In l core → l / 2 < first + length gs
    fits l i = (core_marked marks forced (first + length gs) l i).0
