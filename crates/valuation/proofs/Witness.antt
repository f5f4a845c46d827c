-- Fewer forced nodes and settings say no more, by way of a play that gives the forced nodes their values.
use Rattle.std.proofs.Common.{◌≡◌, ℕ, ◌+◌, ◌/◌, ◌<◌, ◌≢◌, List, length, sym, refl, ◌∙◌, inl, inr}
use Rattle.valuation.specs.declared.Value.TheVariants.{Unknown}
use Rattle.valuation.specs.Three.{or_else, Below, Agree}
use Rattle.valuation.specs.Circuit.{Pair, Ascending, Values, nothing, negated, lit, Valuation, reads, node_values}
use Rattle.valuation.specs.Claims.{CoreMore}
use Rattle.valuation.proofs.Order.{known, below_signed, below_same, below_trans, below_known, below_first, below_second}
use Rattle.valuation.proofs.Nodes.{more, unforced_more, forced_value}
use Rattle.valuation.proofs.Computed.{equations_hold}

-- play and settings together
abbrev joint : Values → Values → Values
joint p c n = or_else (p n) (c n)

abbrev known_of : ℕ → List Pair → Values → Values → Values
known_of first gs p c = reads (node_values first gs nothing (joint p c))

module _ (first : ℕ) (gs : List Pair) (F G p b c w x : Values) (asc : Ascending first gs)
    (W : Valuation first gs nothing p w) (sound : (n : ℕ) → n < first + length gs → G n ≢ Unknown → w n ≡ G n)
    (agree : (n : ℕ) → n < first → Agree (p n) (c n)) (X : Valuation first gs F b x)
    (less : (n : ℕ) → n < first + length gs → Below (F n) (G n)) (bs : (n : ℕ) → n < first → Below (b n) (c n)) where
  -- they too give the forced nodes their values
  given : (n : ℕ) → n < first + length gs → G n ≢ Unknown → known_of first gs p c n ≡ G n
  given n i k =
      below_known (w n) (known_of first gs p c n)
      (unforced_more first gs nothing p (joint p c) w (known_of first gs p c) asc W (equations_hold first gs nothing (joint p c) asc).1 (λ m j. below_first (p m) (c m)) (λ m j a. absurd (a refl)) n i)
      (λ e. k (sym (sound n i k) ∙ e))
      ∙ sound n i k

  given_less : (n : ℕ) → n < first + length gs → F n ≢ Unknown → known_of first gs p c n ≡ F n
  given_less n i k = let e = below_known (F n) (G n) (less n i) k in given n i (λ a. k (sym e ∙ a)) ∙ e

  below : (n : ℕ) → n < first + length gs → Below (x n) (known_of first gs p c n)
  below =
      unforced_more first gs F b (joint p c) x (known_of first gs p c) asc X (equations_hold first gs nothing (joint p c) asc).1
      (λ m j. below_trans (b m) (c m) (joint p c m) (bs m j) (below_second (p m) (c m) (agree m j))) given_less

  unforced : (n : ℕ) → n < first + length gs → G n ≡ Unknown → F n ≡ Unknown
  unforced n i e =
      elim (known (F n)) [
        | inl u ↦ u
        | inr k ↦ sym (below_known (F n) (G n) (less n i) k) ∙ e
      ]

pub core_more : CoreMore
core_more first gs F G p b c w x y asc W sound agree X Y less bs =
    more first gs F G b c x y asc X Y bs (λ n i. elim (known (G n)) [
      | inl e ↦ inr (unforced first gs F G p b c w x asc W sound agree X less bs n i e, e)
      | inr k ↦ inl (below_trans (x n) (known_of first gs p c n) (y n) (below first gs F G p b c w x asc W sound agree X less bs n i)
          (below_same (known_of first gs p c n) (y n) (forced_value first gs G c y Y n i k ∙ sym (given first gs F G p b c w x asc W sound agree X less bs n i k))))
    ])

-- the same for a literal, on the computed values
pub core_literal : (first : ℕ) (gs : List Pair) (F G p b c : Values) → Ascending first gs →
    ((n : ℕ) → n < first + length gs → G n ≢ Unknown → reads (node_values first gs nothing p) n ≡ G n) →
    ((n : ℕ) → n < first → Agree (p n) (c n)) →
    ((n : ℕ) → n < first + length gs → Below (F n) (G n)) → ((n : ℕ) → n < first → Below (b n) (c n)) →
    (l : ℕ) → l / 2 < first + length gs → Below (lit (reads (node_values first gs F b)) l) (lit (reads (node_values first gs G c)) l)
core_literal first gs F G p b c asc sound agree less bs l i =
    below_signed (negated l) _ _
    (core_more first gs F G p b c _ _ _ asc (equations_hold first gs nothing p asc).1 sound agree (equations_hold first gs F b asc).1 (equations_hold first gs G c asc).1 less bs (l / 2) i)
