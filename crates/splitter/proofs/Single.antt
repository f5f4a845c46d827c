-- The root's value worked out, at the kind with one case, where a value means itself.
use Rattle.std.proofs.Common.{◌≡◌, ℕ, ◌+◌, ◌/◌, List, map, take, sym, ap, ◌∙◌, ap₂}
use Rattle.std.proofs.lemmas.List.{map-id}
use Rattle.valuation.specs.declared.Value.{Value}
use Rattle.valuation.specs.Circuit.{Values, lit, reads, values_of}
use Rattle.circuit.specs.Gates.{pairs}
use Rattle.circuit.specs.declared.Gate.{Gate}

-- the value r of a literal, over values that had these inputs before
pub record Evaluated (gs : List Gate) (first l : ℕ) (F : Values) (before after : List Value) (r : Value) : Type 0 where
  pub value : r ≡ lit (reads (values_of (pairs gs) F (take first before))) l
  pub walked : take (l / 2 + 1) after ≡ take (l / 2 + 1) (values_of (pairs gs) F (take first before))
  pub inputs : take first after ≡ take first before

pub evaluated : (gs gs' : List Gate) (first first' l : ℕ) (F : Values) (before after xs ys : List Value) (r : Value) → gs' ≡ gs → first' ≡ first → xs ≡ before → after ≡ ys →
    r ≡ lit (reads (values_of (pairs gs') F (map (λ v. v) (take first' xs)))) l → map (λ v. v) (take (l / 2 + 1) ys) ≡ take (l / 2 + 1) (values_of (pairs gs') F (map (λ v. v) (take first' xs))) →
    take first' ys ≡ take first' xs → Evaluated gs first l F before after r
evaluated gs gs' first first' l F before after xs ys r gates_are first_is xs_are after_is value walked inputs =
    let all : values_of (pairs gs') F (map (λ v. v) (take first' xs)) ≡ values_of (pairs gs) F (take first before) =
    ap₂ (λ g k. values_of (pairs g) F (map (λ v. v) (take k xs))) gates_are first_is ∙ ap (values_of (pairs gs) F) (map-id (take first xs) ∙ ap (take first) xs_are) in
    record {
      value = value ∙ ap (λ vs. lit (reads vs) l) all;
      walked = ap (take (l / 2 + 1)) after_is ∙ sym (map-id (take (l / 2 + 1) ys)) ∙ walked ∙ ap (take (l / 2 + 1)) all;
      inputs = ap (take first) after_is ∙ ap (λ k. take k ys) (sym first_is) ∙ inputs ∙ ap (λ k. take k xs) first_is ∙ ap (take first) xs_are;
    }
