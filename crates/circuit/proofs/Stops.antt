-- A walk over the gates up to a literal's node.
use Rattle.std.proofs.Common.{◌≡◌, ℕ, ◌+◌, ◌-◌, ◌/◌, ◌<◌, ◌≤◌, List, map, length, take, ap, ◌∙◌, arith}
use Rattle.std.proofs.lemmas.List.{length-map, length-take-le, take-map}
use Rattle.valuation.specs.declared.Value.{Value}
use Rattle.valuation.specs.Circuit.{Values, lit, reads, values_of}
use Rattle.valuation.proofs.Walked.{walk_stop, literal_taken}
use Rattle.circuit.specs.Gates.{pairs}
use Rattle.circuit.specs.declared.Gate.{Gate}
use Rattle.circuit.proofs.Records.{length_pairs, pairs_take}

module _ (gs : List Gate) (first l : ℕ) (inside : l / 2 < first + length gs) where
  pub length_walked : length (take (l / 2 + 1 - first) gs) ≡ l / 2 + 1 - first
  length_walked = length-take-le (l / 2 + 1 - first) gs (omega arith)

  module _ {X : Type 0} (f : X → Value) (F : Values) (xs ys : List X) (room : first ≤ length xs)
      (walked : map f (take (first + length (take (l / 2 + 1 - first) gs)) ys) ≡ values_of (pairs (take (l / 2 + 1 - first) gs)) F (map f (take first xs))) where
    pub walked_up_to : map f (take (l / 2 + 1) ys) ≡ take (l / 2 + 1) (values_of (pairs gs) F (map f (take first xs)))
    walked_up_to =
        let e : length (map f (take first xs)) ≡ first = length-map (take first xs) f ∙ length-take-le first xs room in
        let p = length_pairs gs in
        let w = length_walked in
        walk_stop f (pairs gs) F (map f (take first xs)) ys (l / 2 + 1 - first) (l / 2 + 1) (first + length (take (l / 2 + 1 - first) gs)) (omega arith) (omega arith) (omega arith)
        (walked ∙ ap (λ hs. values_of hs F (map f (take first xs))) (pairs_take (l / 2 + 1 - first) gs))

    pub literal_walked : (v : Value) → v ≡ lit (reads (map f ys)) l → v ≡ lit (reads (values_of (pairs gs) F (map f (take first xs)))) l
    literal_walked v e = e ∙ literal_taken _ _ l (l / 2 + 1) (omega arith) (take-map f (l / 2 + 1) ys ∙ walked_up_to)
