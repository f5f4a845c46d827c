-- What a root rests on.
use Rattle.std.proofs.Common.{◌≡◌, ℕ, ◌+◌, ◌*◌, ◌/◌, ◌<◌, Bool, true, false, ◌⊎◌, List, [], ◌∷◌, ◌++◌, length, sym, refl, ap, ◌∙◌, subst, inl, inr, arith}
use Rattle.std.proofs.lemmas.List.{get_or_append_left}
use Rattle.valuation.specs.Circuit.{Pair, blank, gate, Ascending, nothing, negated, signed, Valuation, reads, node_values, Reached, at_root, by_left, by_right}
use Rattle.valuation.specs.Sweep.{In}
use Rattle.valuation.proofs.Nodes.{nodes, half, both_same}
use Rattle.valuation.proofs.Computed.{equations_hold}
use Rattle.valuation.proofs.Cut.{reached_inside}
use Rattle.copies.specs.Copy.{Part, stays, constant, opposite, copied, Copy, itself, by_play, by_polarity, by_gate, Joined, none, one, two}
use Rattle.copies.specs.Make.{joined, settle_gates}
use Rattle.copies.specs.Claims.{Rests, RestsValued, RestsEarlier, RestsKept}
use Rattle.copies.proofs.Making.{opposite_half, like_half, settlement_made}

-- ways down: whatever is known, no value stops them
module _ (first : ℕ) (gs : List Pair) where
  abbrev Down : ℕ → ℕ → Type 0
  Down = Reached first gs nothing

  pub on : {a b n : ℕ} → Down a b → Down b n → Down a n
  on p at_root = p
  on p (by_left k i u q) = by_left k i u (on p q)
  on p (by_right k i u q) = by_right k i u (on p q)

  -- from a gate, the gate itself or by way of one of its literals
  below_gate : (j : ℕ) {a n : ℕ} → Down a n → a ≡ first + j → (n ≡ first + j) ⊎ (Down ((gate gs j).left / 2) n ⊎ Down ((gate gs j).right / 2) n)
  below_gate j at_root e = inl e
  below_gate j {a} (by_left k i u q) e = go (below_gate j q e)
    where
      go : (first + k ≡ first + j) ⊎ (Down ((gate gs j).left / 2) (first + k) ⊎ Down ((gate gs j).right / 2) (first + k)) →
          ((gate gs k).left / 2 ≡ first + j) ⊎ (Down ((gate gs j).left / 2) ((gate gs k).left / 2) ⊎ Down ((gate gs j).right / 2) ((gate gs k).left / 2))
      go (inl s) = let t : k ≡ j = omega arith in inr (inl (subst (λ m. Down ((gate gs m).left / 2) ((gate gs k).left / 2)) t at_root))
      go (inr (inl d)) = inr (inl (by_left k i u d))
      go (inr (inr d)) = inr (inr (by_left k i u d))
  below_gate j {a} (by_right k i u q) e = go (below_gate j q e)
    where
      go : (first + k ≡ first + j) ⊎ (Down ((gate gs j).left / 2) (first + k) ⊎ Down ((gate gs j).right / 2) (first + k)) →
          ((gate gs k).right / 2 ≡ first + j) ⊎ (Down ((gate gs j).left / 2) ((gate gs k).right / 2) ⊎ Down ((gate gs j).right / 2) ((gate gs k).right / 2))
      go (inl s) = let t : k ≡ j = omega arith in inr (inr (subst (λ m. Down ((gate gs m).right / 2) ((gate gs k).right / 2)) t at_root))
      go (inr (inl d)) = inr (inl (by_right k i u d))
      go (inr (inr d)) = inr (inr (by_right k i u d))

  -- an input leads nowhere
  pub below_input : {a n : ℕ} → Down a n → a < first → n ≡ a
  below_input at_root h = refl
  below_input (by_left k i u q) h = absurd (omega (arith, below_input q h))
  below_input (by_right k i u q) h = absurd (omega (arith, below_input q h))

  -- what a gate rests on, its literals do, and the other way round
  rests_left : (k j : ℕ) → j < length gs → Rests first gs k (first + j) → Rests first gs k ((gate gs j).left / 2)
  rests_left k j i R n h d = R n h (on (by_left j i refl at_root) d)

  rests_right : (k j : ℕ) → j < length gs → Rests first gs k (first + j) → Rests first gs k ((gate gs j).right / 2)
  rests_right k j i R n h d = R n h (on (by_right j i refl at_root) d)

  rests_gate : (k j : ℕ) → Rests first gs k ((gate gs j).left / 2) → Rests first gs k ((gate gs j).right / 2) → Rests first gs k (first + j)
  rests_gate k j L R n h d = pick (below_gate j d refl)
    where
      pick : (n ≡ first + j) ⊎ (Down ((gate gs j).left / 2) n ⊎ Down ((gate gs j).right / 2) n) → n < k
      pick (inl e) = absurd (omega arith)
      pick (inr (inl q)) = L n h q
      pick (inr (inr q)) = R n h q

  rests_input : (k m : ℕ) → m < first → m < k → Rests first gs k m
  rests_input k m h i n j d = omega (arith, below_input d h)

  rests_half : (k : ℕ) {a b : ℕ} → a ≡ b → Rests first gs k b → Rests first gs k a
  rests_half k e R = subst (Rests first gs k) (sym e) R

pub rests_valued : RestsValued
rests_valued first gs k l b c asc pos inside R same =
    ap (signed (negated l)) (nodes first gs (λ n. Rests first gs k n → reads (node_values first gs nothing b) n ≡ reads (node_values first gs nothing c) n)
    (λ n i Q. B.inputs n i ∙ same n (Q n i at_root) ∙ sym (C.inputs n i))
    (λ j i h Q. B.gates j i ∙ both_same (reads (node_values first gs nothing b)) (reads (node_values first gs nothing c)) (gate gs j) (h _ (half _ _ (asc j i).0) (rests_left first gs k j i Q)) (h _ (half _ _ (asc j i).1) (rests_right first gs k j i Q)) ∙ sym (C.gates j i))
    (l / 2) inside R)
  where
    B : Valuation first gs nothing b (reads (node_values first gs nothing b))
    B = (equations_hold first gs nothing b asc).1

    C : Valuation first gs nothing c (reads (node_values first gs nothing c))
    C = (equations_hold first gs nothing c asc).1

-- from an old node only old ones are reached
module _ (first : ℕ) (old more : List Pair) (root : ℕ) (asc : Ascending first old) (pos : 0 < first) (inside : root < first + length old) where
  old_way : {n : ℕ} → Reached first (old ++ more) nothing root n → Reached first old nothing root n
  old_way at_root = at_root
  old_way (by_left k i u q) =
      let r = old_way q in
      let h : k < length old = omega (arith, reached_inside first old nothing root asc pos inside (first + k) r) in
      subst (λ g. Reached first old nothing root (g.left / 2)) (sym (get_or_append_left old more blank k h)) (by_left k h u r)
  old_way (by_right k i u q) =
      let r = old_way q in
      let h : k < length old = omega (arith, reached_inside first old nothing root asc pos inside (first + k) r) in
      subst (λ g. Reached first old nothing root (g.right / 2)) (sym (get_or_append_left old more blank k h)) (by_right k h u r)

pub rests_earlier : RestsEarlier
rests_earlier first old more k root asc pos inside R n h d = R n h (old_way first old more root asc pos inside d)

module _ (first : ℕ) (old new : List Pair) (part : ℕ → Part) (lo hi : ℕ) (pos : 0 < first) (some : 0 < lo) (stay : (n : ℕ) → n < hi → part n ≡ stays → n < lo) where
  constant_rests : (b : Bool) → Rests first new lo (constant b / 2)
  constant_rests true = rests_input first new lo 0 pos some
  constant_rests false = rests_input first new lo 0 pos some

  -- a gate of copies
  pair_rests : (j : ℕ) (g : Pair) → gate new j ≡ g → Rests first new lo (g.left / 2) → Rests first new lo (g.right / 2) → Rests first new lo (2 * (first + j) / 2)
  pair_rests j g e L R =
      let h : 2 * (first + j) / 2 ≡ first + j = omega arith in
      rests_half first new lo h (rests_gate first new lo j (subst (λ p. Rests first new lo (p.left / 2)) (sym e) L) (subst (λ p. Rests first new lo (p.right / 2)) (sym e) R))

  copy_rests : {n : ℕ} {p : Bool} {c : ℕ} → Copy first old new part n p c → Rests first old hi n → Rests first new lo (c / 2)
  copy_rests (itself n p i e) Q = let h : 2 * n / 2 ≡ n = omega arith in rests_half first new lo h (rests_input first new lo n i (stay n (Q n i at_root) e))
  copy_rests (by_play n p i b e) Q = constant_rests b
  copy_rests (by_polarity n p i e) Q = constant_rests p
  copy_rests (by_gate k p i a A b B j l g) Q =
      pair_rests j (copied (gate old k) a b) g
      (rests_half first new lo (like_half (gate old k).left a) (copy_rests A (rests_left first old hi k i Q)))
      (rests_half first new lo (like_half (gate old k).right b) (copy_rests B (rests_right first old hi k i Q)))

  in_left : (l : ℕ) (ks ls : List ℕ) → In l ks → In l (ks ++ ls)
  in_left l [] ls i = absurd i
  in_left l (k ∷ ks) ls (inl e) = inl e
  in_left l (k ∷ ks) ls (inr i) = inr (in_left l ks ls i)

  in_right : (l : ℕ) (ks ls : List ℕ) → In l ls → In l (ks ++ ls)
  in_right l [] ls i = i
  in_right l (k ∷ ks) ls i = inr (in_right l ks ls i)

  joined_rests : {ls : List ℕ} {e : ℕ} → Joined first old new part ls e → ((l : ℕ) → In l ls → Rests first old hi (l / 2)) → Rests first new lo (e / 2)
  joined_rests none Q = rests_input first new lo 0 pos some
  joined_rests (one l c C) Q = rests_half first new lo (like_half l c) (copy_rests C (Q l (inl refl)))
  joined_rests (two ks ls a b A B j i g) Q =
      pair_rests j _ g (joined_rests A (λ l h. Q l (in_left l ks ls h))) (joined_rests B (λ l h. Q l (in_right l ks ls h)))

pub rests_kept : RestsKept
rests_kept first old part core r lo hi asc pos some rin fits R Q stay =
    let new = old ++ settle_gates first old part core r in
    let M = settlement_made first old part core r asc pos rin fits in
    let e = (joined first old part core).literal in
    pair_rests first old new part lo hi pos some stay (length (old ++ (joined first old part core).gates)) (record { left = r; right = opposite e }) M.root
    (rests_earlier first old (settle_gates first old part core r) lo (r / 2) asc pos rin R)
    (rests_half first new lo (opposite_half e) (joined_rests first old new part lo hi pos some stay M.copies Q))
