-- A sweep marks exactly what some way leads to.
use Rattle.std.proofs.Common.{◌≡◌, ℕ, zero, suc, ◌<◌, ◌≤◌, Bool, true, false, cond, ◌⊎◌, List, [], ◌∷◌, length, get_or, set, replicate, sym, refl, ◌∙◌, inl, inr, arith, length-set}
use native.Mathlib.Decide.{ℕ_discrete}
use lib.ListN.{length-replicate, get_or-replicate}
use Rattle.std.proofs.lemmas.List.{get_or-set_same, get_or-set_other, get_or_past}
use Rattle.std.proofs.lemmas.Bool.{cases_Bool, cases_lt, false≢true}
use Rattle.valuation.specs.Sweep.{marked, sweep, swept, In, From, begin, go}
use Rattle.valuation.specs.Claims.{SweepExact}

abbrev pub on : List Bool → ℕ → Type 0
on ms i = get_or ms i false ≡ true

set_keeps : (ms : List Bool) (i j : ℕ) → j < length ms → on ms i → on (set ms j true) i
set_keeps ms i j l h =
    elim (ℕ_discrete i j) [
      | yes e ↦ rw e (get_or-set_same ms j true false l)
      | no e ↦ get_or-set_other ms j i true false e ∙ h
    ]

-- marks, one list of places at a time
length_marked : (js : List ℕ) (ms : List Bool) → length (marked js ms) ≡ length ms
length_marked [] ms = refl
length_marked (j ∷ js) ms = length_marked js (set ms j true) ∙ length-set ms j true

marked_keeps : (js : List ℕ) (ms : List Bool) (i : ℕ) → ((j : ℕ) → In j js → j < length ms) → on ms i → on (marked js ms) i
marked_keeps [] ms i l h = h
marked_keeps (j ∷ js) ms i l h =
    marked_keeps js (set ms j true) i (λ k m. omega (arith, length-set ms j true, l k (inr m))) (set_keeps ms i j (l j (inl refl)) h)

marked_sets : (js : List ℕ) (ms : List Bool) (i : ℕ) → ((j : ℕ) → In j js → j < length ms) → In i js → on (marked js ms) i
marked_sets [] ms i l m = absurd m
marked_sets (j ∷ js) ms i l (inl e) =
    marked_keeps js (set ms j true) i (λ k m. omega (arith, length-set ms j true, l k (inr m))) (rw e (get_or-set_same ms j true false (l j (inl refl))))
marked_sets (j ∷ js) ms i l (inr m) = marked_sets js (set ms j true) i (λ k n. omega (arith, length-set ms j true, l k (inr n))) m

-- a mark is an old one or one of the list
marked_only : (js : List ℕ) (ms : List Bool) (i : ℕ) → on (marked js ms) i → on ms i ⊎ In i js
marked_only [] ms i h = inl h
marked_only (j ∷ js) ms i h =
    elim (marked_only js (set ms j true) i h) [
      | inl o ↦ elim (ℕ_discrete i j) [
        | yes e ↦ inr (inl e)
        | no e ↦ inl (sym (get_or-set_other ms j i true false e) ∙ o)
      ]
      | inr m ↦ inr (inr m)
    ]

-- one place done
pub length_one : (next : ℕ → List ℕ) (i : ℕ) (ms : List Bool) → length (cond (get_or ms i false) (marked (next i) ms) ms) ≡ length ms
length_one next i ms =
    elim (cases_Bool (get_or ms i false)) [
      | inl e ↦ rw e (length_marked (next i) ms)
      | inr e ↦ rw e refl
    ]

module _ (next : ℕ → List ℕ) (down : (i j : ℕ) → In j (next i) → j < i) where
  one_keeps : (i k : ℕ) (ms : List Bool) → i < length ms → on ms k → on (cond (get_or ms i false) (marked (next i) ms) ms) k
  one_keeps i k ms l h =
      elim (cases_Bool (get_or ms i false)) [
        | inl e ↦ rw e (marked_keeps (next i) ms k (λ j m. omega (arith, down i j m)) h)
        | inr e ↦ rw e h
      ]

  -- a mark after a place is done is an old one, or the place was marked and leads there
  one_only : (i k : ℕ) (ms : List Bool) → on (cond (get_or ms i false) (marked (next i) ms) ms) k → on ms k ⊎ (on ms i × In k (next i))
  one_only i k ms h = pick (cases_Bool (get_or ms i false))
    where
      pick : (get_or ms i false ≡ true) ⊎ (get_or ms i false ≡ false) → on ms k ⊎ (on ms i × In k (next i))
      pick (inl e) = elim (marked_only (next i) ms k (rw e at h)) [ inl o ↦ inl o | inr m ↦ inr (e, m) ]
      pick (inr e) = inl (rw e at h)

  length_sweep : (n : ℕ) (ms : List Bool) → length (sweep next n ms) ≡ length ms
  length_sweep zero ms = refl
  length_sweep (suc i) ms = length_sweep i _ ∙ length_one next i ms

  sweep_keeps : (n k : ℕ) (ms : List Bool) → n ≤ length ms → on ms k → on (sweep next n ms) k
  sweep_keeps zero k ms l h = h
  sweep_keeps (suc i) k ms l h = sweep_keeps i k _ (omega (arith, length_one next i ms)) (one_keeps i k ms (omega arith) h)

  -- no place that is done gets a mark later
  sweep_done : (n k : ℕ) (ms : List Bool) → n ≤ suc k → on (sweep next n ms) k → on ms k
  sweep_done zero k ms l h = h
  sweep_done (suc i) k ms l h =
      elim (one_only i k ms (sweep_done i k _ (omega arith) h)) [
        | inl o ↦ o
        | inr m ↦ absurd (omega (arith, down i k m.1))
      ]

  sweep_closed : (n i j : ℕ) (ms : List Bool) → n ≤ length ms → i < n → In j (next i) → on (sweep next n ms) i → on (sweep next n ms) j
  sweep_closed zero i j ms l b m h = absurd (omega arith)
  sweep_closed (suc n) i j ms l b m h =
      elim (ℕ_discrete i n) [
        | yes e ↦ sweep_keeps n j _ (omega (arith, length_one next n ms)) (leads (rw e at m) (sweep_done (suc n) n ms (omega arith) (rw e at h)))
        | no e ↦ sweep_closed n i j _ (omega (arith, length_one next n ms)) (omega arith) m h
      ]
    where
      leads : In j (next n) → on ms n → on (cond (get_or ms n false) (marked (next n) ms) ms) j
      leads m' o = rw o (marked_sets (next n) ms j (λ k q. omega (arith, down n k q)) m')

  sweep_only : (P : ℕ → Type 0) → ((i j : ℕ) → P i → In j (next i) → P j) → (n : ℕ) (ms : List Bool) → ((i : ℕ) → on ms i → P i) → (i : ℕ) → on (sweep next n ms) i → P i
  sweep_only P closed zero ms h = h
  sweep_only P closed (suc n) ms h =
      sweep_only P closed n _ (λ i o. elim (one_only n i ms o) [ inl q ↦ h i q | inr q ↦ closed n i (h n q.0) q.1 ])

none_on : (size i : ℕ) → on (replicate size false) i → ⊥
none_on size i o =
    elim (cases_lt i size) [
      | inl l ↦ false≢true (sym (get_or-replicate size i false false l) ∙ o)
      | inr l ↦ false≢true (sym (get_or_past (replicate size false) i false (omega (arith, length-replicate size false))) ∙ o)
    ]

module _ (next : ℕ → List ℕ) (size : ℕ) (start : List ℕ) (down : (i j : ℕ) → In j (next i) → j < i) (fits : (i : ℕ) → In i start → i < size) where
  pub from_fits : {i : ℕ} → From next start i → i < size
  from_fits (begin i m) = fits i m
  from_fits (go i j f m) = omega (arith, from_fits f, down i j m)

  abbrev ready : List Bool
  ready = marked start (replicate size false)

  long : length ready ≡ size
  long = length_marked start (replicate size false) ∙ length-replicate size false

  from_on : {i : ℕ} → From next start i → on (swept next size start) i
  from_on (begin i m) = sweep_keeps next down size i ready (omega (arith, long)) (marked_sets start (replicate size false) i (λ j n. omega (arith, fits j n, length-replicate size false)) m)
  from_on (go i j f m) = sweep_closed next down size i j ready (omega (arith, long)) (from_fits f) m (from_on f)

  on_from : (i : ℕ) → on (swept next size start) i → From next start i
  on_from = sweep_only next down (From next start) go size ready
      (λ i o. elim (marked_only start (replicate size false) i o) [ inl q ↦ absurd (none_on size i q) | inr m ↦ begin i m ])

pub sweep_exact : SweepExact
sweep_exact next size start down fits i = (on_from next size start down fits i, from_on next size start down fits)
