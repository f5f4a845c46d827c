use Rattle.std.proofs.Common.{ℕ, ◌+◌, ◌*◌, ◌<◌, List, length, set, sym, ap, ◌∙◌, subst, arith, below_more}
use Rattle.std.proofs.lemmas.List.{get_or-set_same, get_or-set_other, map-set, length-map}
use Rattle.std.proofs.lemmas.Nat.{mod_below}
use Rattle.valuation.specs.Circuit.{Pair, blank, gate}
use Rattle.circuit.specs.Gates.{pair, pairs}
use Rattle.circuit.specs.declared.Gate.{Gate}
use Rattle.circuit_tests.proofs.tests.make_gates.Goals as goal

abbrev Low : ℕ → Pair → ℕ → Type 0
Low first p j = (p.left < 2 * (first + j)) × (p.right < 2 * (first + j))

low_more : (first : ℕ) (gs : List Gate) (k : ℕ) (g : Gate) → k < length gs → Low first (pair g) k → ((j : ℕ) → j < k → Low first (gate (pairs gs) j) j) →
    (j : ℕ) → j < k + 1 → Low first (gate (pairs (set gs k g)) j) j
low_more first gs k g h here below =
    below_more (λ j. Low first (gate (pairs (set gs k g)) j) j) k
    (λ j l. subst (λ p. Low first p j) (sym (ap (λ ps. gate ps j) (map-set pair gs k g) ∙ get_or-set_other (pairs gs) k j (pair g) blank (λ e. omega arith))) (below j l))
    (subst (λ p. Low first p k) (sym (ap (λ ps. gate ps k) (map-set pair gs k g) ∙ get_or-set_same (pairs gs) k (pair g) blank (omega (arith, length-map gs pair)))) here)

pub loop-k-preserved : goal.loop-k-preserved
loop-k-preserved c =
    let bound : 0 < 2 * (c.args.first + c.loop-k.k) = omega arith in
    low_more c.args.first c.loop-k.gates c.loop-k.k c.new-in-loop-k-2.result (omega arith)
    (subst (λ p. Low c.args.first p c.loop-k.k) (sym c.new-in-loop-k-2.ensures)
    (rw c.new.ensures (mod_below _ _ bound), rw c.new-in-loop-k.ensures (mod_below _ _ bound))) c.loop-k.invariant

pub returns : goal.returns
returns c = λ j h. c.loop-k.invariant j (omega (arith, length-map c.loop-k.gates pair))
