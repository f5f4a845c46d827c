-- Values of literals.
use Rattle.std.proofs.Common.{◌≡◌, ℕ, ◌+◌, ◌-◌, ◌*◌, ◌/◌, ◌%◌, Bool, true, false, cond, not, sym, refl, ap, ◌∙◌, ap₂, inl, inr, arith}
use Rattle.std.proofs.lemmas.Bool.{cases_Bool, eqb-true, eqb-false, eq-eqb, ne_eqb}
use Rattle.valuation.specs.declared.Value.{Value}
use Rattle.valuation.specs.Three.{not3, Keeps, Below}
use Rattle.valuation.specs.Circuit.{Values, negated, signed, lit}
use Rattle.valuation.proofs.Order.{not_not3, keeps_not}
use Rattle.copies.specs.Copy.{opposite, turned, like}

module _ (v : Values) where
  pub plain : (l n : ℕ) → l ≡ 2 * n → lit v l ≡ v n
  plain l n e = ap₂ (λ s m. signed s (v m)) (ne_eqb (l % 2) 1 (omega arith)) (let h : l / 2 ≡ n = omega arith in h)

  pub turn : (l n : ℕ) → l ≡ 2 * n + 1 → lit v l ≡ not3 (v n)
  turn l n e = ap₂ (λ s m. signed s (v m)) (eq-eqb (l % 2) 1 (omega arith)) (let h : l / 2 ≡ n = omega arith in h)

  pub at_node : (n : ℕ) → lit v (2 * n) ≡ v n
  at_node n = plain (2 * n) n refl

  pub at_opposite : (c : ℕ) → lit v (opposite c) ≡ not3 (lit v c)
  at_opposite c =
      elim (cases_Bool (negated c)) [
        | inl e ↦ (let h = eqb-true (c % 2) 1 e in ap (λ s. lit v (cond s (c - 1) (c + 1))) e ∙ plain (c - 1) (c / 2) (omega arith) ∙ sym (not_not3 (v (c / 2))) ∙ ap not3 (sym (turn c (c / 2) (omega arith))))
        | inr e ↦ (let h = eqb-false (c % 2) 1 e in ap (λ s. lit v (cond s (c - 1) (c + 1))) e ∙ turn (c + 1) (c / 2) (omega arith) ∙ ap not3 (sym (plain c (c / 2) (omega arith))))
      ]

  like_by : (neg : Bool) (c : ℕ) → lit v (cond neg (opposite c) c) ≡ signed neg (lit v c)
  like_by true c = at_opposite c
  like_by false c = refl

  pub at_like : (l c : ℕ) → lit v (like l c) ≡ signed (negated l) (lit v c)
  at_like l c = like_by (negated l) c

keeps_signed : (neg p : Bool) (x y : Value) → Keeps (cond neg (not p) p) x y → Keeps p (signed neg x) (signed neg y)
keeps_signed true p x y h = keeps_not p x y h
keeps_signed false p x y h = h

keeps_back : (neg p : Bool) (x y : Value) → Below x y → Keeps p (signed neg x) (signed neg y)
keeps_back true p x y h = keeps_not p x y (h (not p))
keeps_back false p x y h = h p

-- the literal of a copied node, either way
module _ (u w : Values) (l c : ℕ) (p : Bool) where
  pub lit_just : Keeps (turned l p) (lit w c) (u (l / 2)) → Keeps p (lit w (like l c)) (lit u l)
  lit_just h e = keeps_signed (negated l) p (lit w c) (u (l / 2)) h (sym (at_like w l c) ∙ e)

  pub lit_own : Below (u (l / 2)) (lit w c) → Keeps p (lit u l) (lit w (like l c))
  lit_own h e = at_like w l c ∙ keeps_back (negated l) p (u (l / 2)) (lit w c) h e
