-- Good blocks and gates, one more at a time. Assumes nothing.
use Rattle.std.proofs.Common.{◌≡◌, ℕ, suc, ◌+◌, ◌-◌, ◌*◌, ◌<◌, ◌≤◌, ◌≢◌, List, [], ◌∷◌, ◌++◌, length, get_or, sym, refl, ap, ◌∙◌, subst, inl, inr, arith}
use Rattle.std.proofs.lemmas.List.{length-append, length_push, get_or_append_left, get_or_push, get_or_at}
use Rattle.std.proofs.lemmas.Bool.{cases_lt}
use Rattle.valuation.specs.Circuit.{Pair, gate}
use Rattle.question.specs.declared.prefix.Block.{Block}
use Rattle.question.specs.Blocks.{block_at, total, Alternating}
use Rattle.question.specs.Formula.{Good}
use Rattle.question.proofs.Totals.{total_push, total_within}
use Rattle.question.proofs.Steps.{Admits, Reads}

-- what holds at each place of a list holds at each of one that is longer by one
at_each_push : {X : Type 0} (P : ℕ → X → Type 0) (d : X) (xs : List X) (x : X) → ((i : ℕ) → i < length xs → P i (get_or xs i d)) → P (length xs) x →
    (i : ℕ) → i < length (xs ++ x ∷ []) → P i (get_or (xs ++ x ∷ []) i d)
at_each_push P d xs x before here i lt =
    elim (cases_lt i (length xs)) [
      | inl inside ↦ subst (P i) (sym (get_or_append_left xs (x ∷ []) d i inside)) (before i inside)
      | inr past ↦ let last : length xs ≡ i = omega (arith, length_push xs x) in subst (P i) (sym (get_or_push xs x d i last)) (subst (λ n. P n x) last here)
    ]

alternating_push : (bs : List Block) (b : Block) → Alternating bs → (0 < length bs → (block_at bs (length bs - 1)).quantifier ≢ b.quantifier) → Alternating (bs ++ b ∷ [])
alternating_push bs b before here i lt =
    let long = length_push bs b in
    let low : block_at (bs ++ b ∷ []) i ≡ block_at bs i = get_or_append_left bs (b ∷ []) _ i (omega arith) in
    elim (cases_lt (suc i) (length bs)) [
      | inl inside ↦ λ e. before i inside (ap (λ (x : Block). x.quantifier) (sym low) ∙ e ∙ ap (λ (x : Block). x.quantifier) (get_or_append_left bs (b ∷ []) _ (suc i) inside))
      | inr past ↦ λ e.
          let last : length bs ≡ suc i = omega arith in
          let place : length bs - 1 ≡ i = omega arith in
          here (omega arith) (ap (λ n. (block_at bs n).quantifier) place ∙ ap (λ (x : Block). x.quantifier) (sym low) ∙ e ∙ ap (λ (x : Block). x.quantifier) (get_or_push bs b _ (suc i) last))
    ]

pub good_block : (bs : List Block) (b : Block) → Good bs [] → Admits bs b → Good (bs ++ b ∷ []) []
good_block bs b g a =
    let long = length_push bs b in
    record {
      few = omega (arith, a.room);
      sized = at_each_push (λ _ x. (1 ≤ x.size) × (x.size ≤ 40)) _ bs b g.sized (a.some, a.few);
      small = omega (arith, a.small, total_push bs b);
      alternating = alternating_push bs b g.alternating a.differs;
      few_gates = g.few_gates;
      ascending = λ k lt. absurd (let no : ⊥ = omega arith in no);
      blocks_first = λ some. omega arith;
    }

pub good_gate : (bs : List Block) (gs : List Pair) (p : Pair) → Good bs gs → Reads bs (length gs) p.left p.right → Good bs (gs ++ p ∷ [])
good_gate bs gs p g r =
    record {
      few = g.few;
      sized = g.sized;
      small = g.small;
      alternating = g.alternating;
      few_gates = omega (arith, r.room, length_push gs p);
      ascending = at_each_push (λ k q. (q.left < 2 * (1 + total bs + k)) × (q.right < 2 * (1 + total bs + k))) _ gs p g.ascending (r.left, r.right);
      blocks_first = λ _. r.blocks;
    }

-- what comes next among good blocks and gates may come
pub admits : (bs : List Block) (b : Block) (cs : List Block) (gs : List Pair) → Good (bs ++ b ∷ cs) gs → Admits bs b
admits bs b cs gs g =
    let all = bs ++ b ∷ cs in
    let long = length-append bs (b ∷ cs) in
    let here : block_at all (length bs) ≡ b = get_or_at bs b cs _ (length bs) refl in
    let size = g.sized (length bs) (omega arith) in
    let sizes : (block_at all (length bs)).size ≡ b.size = ap (λ (x : Block). x.size) here in
    record {
      room = omega (arith, g.few);
      some = omega arith;
      few = omega arith;
      small = omega (arith, g.small, total_within bs b cs);
      differs = λ some e.
          let before : block_at all (length bs - 1) ≡ block_at bs (length bs - 1) = get_or_append_left bs (b ∷ cs) _ (length bs - 1) (omega arith) in
          let place : suc (length bs - 1) ≡ length bs = omega arith in
          g.alternating (length bs - 1) (omega arith) (ap (λ (x : Block). x.quantifier) before ∙ e ∙ ap (λ (x : Block). x.quantifier) (sym here ∙ ap (block_at all) (sym place)));
    }

pub reads_next : (bs : List Block) (gs : List Pair) (p : Pair) (hs : List Pair) → Good bs (gs ++ p ∷ hs) → Reads bs (length gs) p.left p.right
reads_next bs gs p hs g =
    let all = gs ++ p ∷ hs in
    let long = length-append gs (p ∷ hs) in
    let here : gate all (length gs) ≡ p = get_or_at gs p hs _ (length gs) refl in
    let low = g.ascending (length gs) (omega arith) in
    record {
      blocks = g.blocks_first (omega arith);
      room = omega (arith, g.few_gates);
      left = subst (λ (q : Pair). q.left < 2 * (1 + total bs + length gs)) here low.0;
      right = subst (λ (q : Pair). q.right < 2 * (1 + total bs + length gs)) here low.1;
    }
