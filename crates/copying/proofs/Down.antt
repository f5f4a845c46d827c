-- The pass down, at the place i of a gate g, which stands in the list of gates at k.
use Rattle.std.proofs.Common.{◌≡◌, ℕ, suc, ◌+◌, ◌-◌, ◌/◌, ◌<◌, ◌≤◌, Bool, true, false, List, length, get_or, set, sym, ap, ◌∙◌, arith}
use Rattle.circuit.specs.declared.Gate.{Gate}
use Rattle.circuit.specs.Gates.{pair, pairs}
use Rattle.circuit.proofs.Records.{pair_at, reads_below}
use Rattle.valuation.specs.Circuit.{gate, Ascending}
use Rattle.valuation.specs.Sweep.{sweep}
use Rattle.copies.specs.Copy.{like}
use Rattle.copies.specs.Make.{needs}
use Rattle.copies.proofs.Making.{like_half}
use Rattle.copies.proofs.Passes.{sweep_gate}

module _ (first : ℕ) (gs : List Gate) (d : Gate) (i k : ℕ) (deep : first ≤ i / 2) (at : k ≡ i / 2 - first) (within : k < length gs) (asc : Ascending first (pairs gs)) where
  pub right_low : (l x : ℕ) → l ≡ (pair (get_or gs k d)).right → x ≡ like i l → x / 2 < first + length gs
  right_low l x e f = omega (arith, like_half i l, ap (λ y. y / 2) f, (reads_below gs first k (first + k) d asc within (omega arith)).1)

  -- the two literals are needed
  pub both_needed : (n : ℕ) (ms : List Bool) (l r a b : ℕ) → n ≡ suc i → l ≡ (pair (get_or gs k d)).left → a ≡ like i l → r ≡ (pair (get_or gs k d)).right → b ≡ like i r →
      get_or ms i false ≡ true → sweep (needs first (pairs gs)) i (set (set ms a true) b true) ≡ sweep (needs first (pairs gs)) n ms
  both_needed n ms l r a b s el ea er eb t =
      let p : gate (pairs gs) (i / 2 - first) ≡ pair (get_or gs k d) = ap (gate (pairs gs)) (sym at) ∙ pair_at gs k d within in
      sweep_gate first (pairs gs) i n ms s a b (ea ∙ ap (like i) (el ∙ ap (λ g. g.left) (sym p))) (eb ∙ ap (like i) (er ∙ ap (λ g. g.right) (sym p))) deep t
