-- Copies are right, by induction on how a copy came to be.
use Rattle.std.proofs.Common.{◌≡◌, ℕ, ◌+◌, ◌*◌, ◌<◌, Bool, true, false, List, length, sym, ap, ◌∙◌, subst}
use Rattle.valuation.specs.declared.Value.{Value}
use Rattle.valuation.specs.declared.Value.TheVariants.{False}
use Rattle.valuation.specs.Three.{not3, of_bool, Keeps, Below}
use Rattle.valuation.specs.Circuit.{Pair, gate, Values, nothing, lit, both, Valuation}
use Rattle.valuation.proofs.Order.{keeps_and, True≢False, unknown≢watched}
use Rattle.copies.specs.Copy.{Part, stays, played, lost, constant, Copy, itself, by_play, by_polarity, by_gate, Agrees, Unset}
use Rattle.copies.specs.Claims.{CopiesJust, CopiesOwn}
use Rattle.copies.proofs.Literals.{at_node, lit_just, lit_own}

pub at_constant : (w : Values) → w 0 ≡ False → (b : Bool) → lit w (constant b) ≡ of_bool b
at_constant w z true = ap not3 z
at_constant w z false = z

module _ (first : ℕ) (old new : List Pair) (part : ℕ → Part) (t t' u w : Values) (pos : 0 < first) (zero : t 0 ≡ False)
    (U : Valuation first old nothing t' u) (W : Valuation first new nothing t w) where
  pub at_zero : w 0 ≡ False
  at_zero = W.inputs 0 pos ∙ zero

  pub at_gate : (j : ℕ) (g : Pair) → j < length new → gate new j ≡ g → lit w (2 * (first + j)) ≡ both w g
  at_gate j g i e = at_node w (first + j) ∙ W.gates j i ∙ ap (both w) e

  stay : (n : ℕ) → n < first → t' n ≡ t n → lit w (2 * n) ≡ u n
  stay n i e = at_node w n ∙ W.inputs n i ∙ sym e ∙ sym (U.inputs n i)

  fixed : (n : ℕ) → n < first → (b : Bool) → t' n ≡ of_bool b → lit w (constant b) ≡ u n
  fixed n i b e = at_constant w at_zero b ∙ sym e ∙ sym (U.inputs n i)

  -- a copy of a lost variable never has the watched value
  never : (p : Bool) (x : Value) → Keeps p (of_bool p) x
  never true x e = absurd (True≢False e)
  never false x e = absurd (True≢False (sym e))

  module _ (agree : (n : ℕ) → n < first → Agrees (part n) (t n) (t' n)) where
    agreed : (n : ℕ) → n < first → (a : Part) → part n ≡ a → Agrees a (t n) (t' n)
    agreed n i a e = subst (λ q. Agrees q (t n) (t' n)) e (agree n i)

    pub just : {n : ℕ} {p : Bool} {c : ℕ} → Copy first old new part n p c → Keeps p (lit w c) (u n)
    just (itself n p i e) h = sym (stay n i (agreed n i stays e)) ∙ h
    just (by_play n p i b e) h = sym (fixed n i b (agreed n i (played b) e)) ∙ h
    just (by_polarity n p i e) h = never p (u n) (sym (at_constant w at_zero p) ∙ h)
    just (by_gate k p i a A b B j l g) h =
        U.gates k i ∙ keeps_and p _ _ _ _ (lit_just u w (gate old k).left a p (just A)) (lit_just u w (gate old k).right b p (just B)) (sym (at_gate j _ l g) ∙ h)

  module _ (agree : (n : ℕ) → n < first → Unset (part n) (t n) (t' n)) where
    unset : (n : ℕ) → n < first → (a : Part) → part n ≡ a → Unset a (t n) (t' n)
    unset n i a e = subst (λ q. Unset q (t n) (t' n)) e (agree n i)

    pub own : {n : ℕ} {p : Bool} {c : ℕ} → Copy first old new part n p c → Below (u n) (lit w c)
    own (itself n p i e) q h = stay n i (unset n i stays e) ∙ h
    own (by_play n p i b e) q h = fixed n i b (unset n i (played b) e) ∙ h
    own (by_polarity n p i e) q h = absurd (unknown≢watched q (sym (unset n i lost e) ∙ sym (U.inputs n i) ∙ h))
    own (by_gate k p i a A b B j l g) q h =
        at_gate j _ l g ∙ keeps_and q _ _ _ _ (lit_own u w (gate old k).left a q (own A)) (lit_own u w (gate old k).right b q (own B)) (sym (U.gates k i) ∙ h)

pub copies_just : CopiesJust
copies_just first old new part t t' u w pos zero U W agree n p c = just first old new part t t' u w pos zero U W agree

pub copies_own : CopiesOwn
copies_own first old new part t t' u w pos zero U W agree n p c = own first old new part t t' u w pos zero U W agree
