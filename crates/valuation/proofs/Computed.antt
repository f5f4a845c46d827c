-- The computed values satisfy the equations.
use Rattle.std.proofs.Common.{◌≡◌, ℕ, zero, suc, ◌+◌, ◌*◌, ◌/◌, ◌<◌, ◌≤◌, List, [], ◌∷◌, ◌++◌, map, length, take, drop, sym, refl, ap, ◌∙◌, ap₂, arith}
use Rattle.std.specs.List.{range_with_len}
use Rattle.std.proofs.lemmas.List.{get_or_append_left, get_or_push, get_or-take, length_push, length-take-le, take-append-drop, ext_get_or}
use Rattle.std.proofs.lemmas.List.FromFn.{length-map-range_with_len, get_or-map-range_with_len}
use Rattle.valuation.specs.declared.Value.{Value}
use Rattle.valuation.specs.declared.Value.TheVariants.{Unknown}
use Rattle.valuation.specs.Three.{or_else}
use Rattle.valuation.specs.Circuit.{Pair, gate, Ascending, Values, both, reads, values_of, input_values, node_values}
use Rattle.valuation.specs.Claims.{EquationsHold, OneList, SameInputs, StoppingKeeps}
use Rattle.valuation.proofs.Nodes.{half, both_same, equations_determine}

module _ (F : Values) where
  abbrev next : Pair → List Value → Value
  next g vs = or_else (F (length vs)) (both (reads vs) g)

  pub long : (gs : List Pair) (vs : List Value) → length (values_of gs F vs) ≡ length vs + length gs
  long [] vs = omega arith
  long (g ∷ gs) vs = omega (arith, long gs (vs ++ (next g vs ∷ [])), length_push vs (next g vs))

  pub front : (gs : List Pair) (vs : List Value) (n : ℕ) → n < length vs → reads (values_of gs F vs) n ≡ reads vs n
  front [] vs n i = refl
  front (g ∷ gs) vs n i = front gs (vs ++ (next g vs ∷ [])) n (omega (arith, length_push vs (next g vs))) ∙ get_or_append_left vs (next g vs ∷ []) Unknown n i

  pub equation : (gs : List Pair) (vs : List Value) → Ascending (length vs) gs → (k n : ℕ) → n ≡ length vs + k → k < length gs →
      reads (values_of gs F vs) n ≡ or_else (F n) (both (reads (values_of gs F vs)) (gate gs k))
  equation [] vs asc k n e i = absurd (omega arith)
  equation (g ∷ gs) vs asc zero n e i =
      let vs' = vs ++ (next g vs ∷ []) in
      let e' : n ≡ length vs = omega arith in
      let a : (g.left < 2 * (length vs + 0)) × (g.right < 2 * (length vs + 0)) = asc 0 i in
      front gs vs' n (omega (arith, length_push vs (next g vs))) ∙ get_or_push vs (next g vs) Unknown n (sym e')
      ∙ ap (λ m. or_else (F m) (both (reads vs) g)) (sym e')
      ∙ ap (or_else (F n)) (both_same (reads vs) (reads (values_of (g ∷ gs) F vs)) g
      (sym (front (g ∷ gs) vs (g.left / 2) (half _ _ (omega arith)))) (sym (front (g ∷ gs) vs (g.right / 2) (half _ _ (omega arith)))))
  equation (g ∷ gs) vs asc (suc k) n e i =
      let vs' = vs ++ (next g vs ∷ []) in
      let l : length vs' ≡ length vs + 1 = length_push vs (next g vs) in
      equation gs vs' (λ j h. (omega (arith, (asc (suc j) (omega arith)).0), omega (arith, (asc (suc j) (omega arith)).1))) k n (omega arith) (omega arith)

pub equations_hold : EquationsHold
equations_hold first gs F b asc =
    let start = map (λ n. or_else (F n) (b n)) (range_with_len 0 first) in
    let l : length start ≡ first = length-map-range_with_len (λ n. or_else (F n) (b n)) 0 first in (
      omega (arith, long F gs start),
      record {
        inputs = λ n i. front F gs start n (omega arith) ∙ get_or-map-range_with_len (λ n. or_else (F n) (b n)) 0 first n n Unknown i (omega arith);
        gates = λ k i. equation F gs start (rw l asc) k (first + k) (omega arith) i;
      },
    )

pub one_list : OneList
one_list first gs F b vs asc l V =
    let h = equations_hold first gs F b asc in
    ext_get_or Unknown vs (node_values first gs F b) (l ∙ sym h.0) (λ n i. equations_determine first gs F b (reads vs) (reads (node_values first gs F b)) asc V h.1 n (rw l at i))

pub same_inputs : SameInputs
same_inputs first gs F G b c asc fs bs =
    let h = equations_hold first gs F b asc in
    let V = h.1 in
    one_list first gs G c (node_values first gs F b) asc h.0 (record {
      inputs = λ n i. V.inputs n i ∙ ap₂ or_else (fs n (omega arith)) (bs n i);
      gates = λ k i. V.gates k i ∙ ap₂ or_else (fs (first + k) (omega arith)) refl;
    })

-- a list with the inputs' values gives the values of all nodes
pub from_inputs : (first : ℕ) (gs : List Pair) (F b : Values) (vs : List Value) → length vs ≡ first → ((n : ℕ) → n < first → reads vs n ≡ or_else (F n) (b n)) →
    values_of gs F vs ≡ node_values first gs F b
from_inputs first gs F b vs l e =
    ap (values_of gs F) (ext_get_or Unknown vs (input_values first F b) (l ∙ sym (length-map-range_with_len (λ n. or_else (F n) (b n)) 0 first))
    (λ n i. let h : n < first = omega arith in e n h ∙ sym (get_or-map-range_with_len (λ n. or_else (F n) (b n)) 0 first n n Unknown h (omega arith))))

-- gates one list after the other
pub values_append : (gs hs : List Pair) (F : Values) (vs : List Value) → values_of (gs ++ hs) F vs ≡ values_of hs F (values_of gs F vs)
values_append [] hs F vs = refl
values_append (g ∷ gs) hs F vs = values_append gs hs F _

-- the values that were there stay
pub values_start : (gs : List Pair) (F : Values) (vs : List Value) → take (length vs) (values_of gs F vs) ≡ vs
values_start gs F vs =
    let l = long F gs vs in
    let k : length vs ≤ length (values_of gs F vs) = omega arith in
    ext_get_or Unknown _ vs (length-take-le (length vs) (values_of gs F vs) k)
    (λ n i. let h : n < length vs = omega (arith, length-take-le (length vs) (values_of gs F vs) k) in get_or-take (length vs) (values_of gs F vs) n Unknown h ∙ front F gs vs n h)

pub values_stop : (k : ℕ) (gs : List Pair) (F : Values) (vs : List Value) → k ≤ length gs → values_of (take k gs) F vs ≡ take (length vs + k) (values_of gs F vs)
values_stop k gs F vs h =
    let us = values_of (take k gs) F vs in
    let l : length us ≡ length vs + k = long F (take k gs) vs ∙ ap (λ n. length vs + n) (length-take-le k gs h) in
    sym (values_start (drop k gs) F us)
    ∙ ap₂ take l (sym (values_append (take k gs) (drop k gs) F vs) ∙ ap (λ hs. values_of hs F vs) (take-append-drop k gs))

pub stopping_keeps : StoppingKeeps
stopping_keeps first gs hs F b =
    let is = input_values first F b in
    let l : length (node_values first gs F b) ≡ first + length gs = omega (arith, long F gs is, length-map-range_with_len (λ n. or_else (F n) (b n)) 0 first) in
    ap₂ take (sym l) (values_append gs hs F is) ∙ values_start hs F (node_values first gs F b)
