-- The roots at the start.
use Rattle.std.proofs.Common.{◌≡◌, ℕ, zero, suc, pred, ◌+◌, ◌/◌, ◌<◌, Bool, true, false, cond, not, eqb, ltb, ◌≢◌, List, length, get_or, sym, refl, ap, ◌∙◌, inl, inr, arith}
use Rattle.std.proofs.lemmas.Bool.{cases_lt, cond_both, lt-ltb, le-ltb, eq-eqb, ne_eqb}
use Rattle.game.specs.Prefix.{Formula, blocks, owner, upto}
use Rattle.game.proofs.Prefix.{upto_mono}
use Rattle.valuation.specs.declared.Value.{Value}
use Rattle.valuation.specs.declared.Value.TheVariants.{Unknown, False, True}
use Rattle.valuation.specs.Three.{not3, of_bool}
use Rattle.valuation.specs.Circuit.{Pair, Ascending, nothing, reads, node_values}
use Rattle.valuation.proofs.Order.{unknown≢watched}
use Rattle.valuation.proofs.Nodes.{all_known}
use Rattle.valuation.proofs.Computed.{equations_hold}
use Rattle.copies.specs.Copy.{opposite}
use Rattle.copies.specs.Claims.{value, Rests}
use Rattle.copies.proofs.Literals.{at_opposite}
use Rattle.copies.proofs.Making.{opposite_half}
use Rattle.copies.proofs.Rested.{below_input}
use Rattle.steps.specs.Steps.{base_of, not_false, is_true, last_root, first_roots, Matrix, StartsRight, StartsRooted}
use Rattle.steps.proofs.Bits.{base_in}

bool_known : (b : Bool) → of_bool b ≢ Unknown
bool_known true e = unknown≢watched false (sym e)
bool_known false e = unknown≢watched true (sym e)

opposite_test : (x : Value) → x ≢ Unknown → not_false (not3 x) ≡ not (not_false x)
opposite_test Unknown k = absurd (k refl)
opposite_test False k = refl
opposite_test True k = refl

true_test : (x : Value) → x ≢ Unknown → not_false x ≡ is_true x
true_test Unknown k = absurd (k refl)
true_test False k = refl
true_test True k = refl

module _ (F : Formula) (first : ℕ) (gs : List Pair) (out : ℕ) (asc : Ascending first gs) (long : first ≡ suc (upto F (blocks F))) (inside : out / 2 < first + length gs) where
  base_known : (t : List Bool) → length t ≡ upto F (blocks F) → (n : ℕ) → n < first → base_of t n ≢ Unknown
  base_known t l zero i e = bool_known false e
  base_known t l (suc n) i e = bool_known (get_or t n false) (sym (base_in t n (omega arith)) ∙ e)

  known : (t : List Bool) → length t ≡ upto F (blocks F) → (r : ℕ) → r / 2 < first + length gs → value first gs nothing (base_of t) r ≢ Unknown
  known t l r i = all_known first gs (base_of t) _ asc (equations_hold first gs nothing (base_of t) asc).1 (base_known t l) r i

  turned : (t : List Bool) → length t ≡ upto F (blocks F) → (r : ℕ) → r / 2 < first + length gs →
      not_false (value first gs nothing (base_of t) (opposite r)) ≡ not (not_false (value first gs nothing (base_of t) r))
  turned t l r i = ap not_false (at_opposite (reads (node_values first gs nothing (base_of t))) r) ∙ opposite_test _ (known t l r i)

  last_in : (o : Bool) → cond o out (opposite out) / 2 < first + length gs
  last_in true = inside
  last_in false = omega (arith, opposite_half out)

  at_early : (j : ℕ) → j < blocks F → first_roots F out j ≡ 1
  at_early j h = ap (λ b. cond b 1 (cond (eqb j (blocks F)) (last_root F out) (opposite (last_root F out)))) (lt-ltb j (blocks F) h)

  at_last : first_roots F out (blocks F) ≡ last_root F out
  at_last = ap (λ b. cond b 1 (cond (eqb (blocks F) (blocks F)) (last_root F out) (opposite (last_root F out)))) (le-ltb (blocks F) (blocks F) (omega arith))
      ∙ ap (λ b. cond b (last_root F out) (opposite (last_root F out))) (eq-eqb (blocks F) (blocks F) refl)

  at_past : first_roots F out (suc (blocks F)) ≡ opposite (last_root F out)
  at_past = ap (λ b. cond b 1 (cond (eqb (suc (blocks F)) (blocks F)) (last_root F out) (opposite (last_root F out)))) (le-ltb (suc (blocks F)) (blocks F) (omega arith))
      ∙ ap (λ b. cond b (last_root F out) (opposite (last_root F out))) (ne_eqb (suc (blocks F)) (blocks F) (omega arith))

  one_true : (t : List Bool) → value first gs nothing (base_of t) 1 ≡ True
  one_true t = ap not3 ((equations_hold first gs nothing (base_of t) asc).1.inputs 0 (omega arith))

  module _ (matrix : Matrix F first gs out) (t : List Bool) (l : length t ≡ upto F (blocks F)) where
    of_matrix : not_false (value first gs nothing (base_of t) out) ≡ F.matrix t
    of_matrix = true_test _ (known t l out inside) ∙ sym (matrix t)

    by_owner : (o : Bool) → not_false (value first gs nothing (base_of t) (cond o out (opposite out))) ≡ cond o (F.matrix t) (not (F.matrix t))
    by_owner true = of_matrix
    by_owner false = turned t l out inside ∙ ap not of_matrix

  opposite_in : (r : ℕ) → r / 2 < first + length gs → opposite r / 2 < first + length gs
  opposite_in r h = omega (arith, opposite_half r)

  roots_in : (j : ℕ) → first_roots F out j / 2 < first + length gs
  roots_in j =
      cond_both (ltb j (blocks F)) 1 _ (λ r. r / 2 < first + length gs) (λ _. omega arith)
      (λ _. cond_both (eqb j (blocks F)) _ _ (λ r. r / 2 < first + length gs) (λ _. last_in (owner F (pred (blocks F)))) (λ _. opposite_in (last_root F out) (last_in (owner F (pred (blocks F))))))

  roots_rest : (j : ℕ) → Rests first gs (suc (upto F j)) (first_roots F out j / 2)
  roots_rest j n h d =
      elim (cases_lt j (blocks F)) [
        | inl i ↦ omega (arith, below_input first gs d (let z : first_roots F out j / 2 < first = rw (at_early j i) (omega arith) in z), ap (λ r. r / 2) (at_early j i))
        | inr i ↦ omega (arith, upto_mono F (blocks F) j i)
      ]

pub starts_rooted : StartsRooted
starts_rooted F first gs out asc long inside = record {
  inputs = long;
  ascending = asc;
  low = roots_in F first gs out asc long inside;
  rests = roots_rest F first gs out asc long inside;
}

pub starts_right : StartsRight
starts_right F first gs out asc long inside matrix = record {
  early = λ j h t l. ap (λ r. not_false (value first gs nothing (base_of t) r)) (at_early F first gs out asc long inside (suc j) h) ∙ ap not_false (one_true F first gs out asc long inside t);
  last = λ t l. ap (λ r. not_false (value first gs nothing (base_of t) r)) (at_last F first gs out asc long inside) ∙ by_owner F first gs out asc long inside matrix t l (owner F (pred (blocks F)));
  past = λ t l. ap (λ r. not_false (value first gs nothing (base_of t) r)) (at_past F first gs out asc long inside)
      ∙ turned F first gs out asc long inside t l (last_root F out) (last_in F first gs out asc long inside (owner F (pred (blocks F))))
      ∙ ap (λ r. not (not_false (value first gs nothing (base_of t) r))) (sym (at_last F first gs out asc long inside));
}
