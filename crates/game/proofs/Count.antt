-- How many settings of some variables pass a test, and sums over levels.
use Rattle.std.proofs.Common.{◌≡◌, ℕ, zero, suc, ◌+◌, ◌^◌, ◌<◌, ◌≤◌, min, Bool, true, false, cond, List, [], ◌∷◌, length, refl, ap, subst, pow-suc, arith}
use mathlib.Core.Bool.{false≢true}
use native.Mathlib.Decide.{ℕ_discrete, dec_le}
use Rattle.game.specs.Prefix.{sum_to}

abbrev pub count : ℕ → (List Bool → Bool) → ℕ
count zero f = cond (f []) 1 0
count (suc k) f = count k (λ s. f (false ∷ s)) + count k (λ s. f (true ∷ s))

one_le : (a b : Bool) → (a ≡ true → b ≡ true) → cond {A = ℕ} a 1 0 ≤ cond b 1 0
one_le true true h = omega arith
one_le true false h = absurd (false≢true (h refl))
one_le false b h = omega arith

pub count_le : (k : ℕ) (f g : List Bool → Bool) → ((s : List Bool) → length s ≡ k → f s ≡ true → g s ≡ true) → count k f ≤ count k g
count_le zero f g h = one_le (f []) (g []) (h [] refl)
count_le (suc k) f g h =
    let a = count_le k (λ s. f (false ∷ s)) (λ s. g (false ∷ s)) (λ s e. h (false ∷ s) (ap suc e)) in
    let b = count_le k (λ s. f (true ∷ s)) (λ s. g (true ∷ s)) (λ s e. h (true ∷ s) (ap suc e)) in
    omega arith

pub count_lt : (f g : List Bool → Bool) (x : List Bool) → ((s : List Bool) → length s ≡ length x → f s ≡ true → g s ≡ true) →
    f x ≡ false → g x ≡ true → count (length x) f < count (length x) g
count_lt f g [] h p q = rw (p, q) (omega arith)
count_lt f g (false ∷ x) h p q =
    let a = count_lt (λ s. f (false ∷ s)) (λ s. g (false ∷ s)) x (λ s e. h (false ∷ s) (ap suc e)) p q in
    let b = count_le (length x) (λ s. f (true ∷ s)) (λ s. g (true ∷ s)) (λ s e. h (true ∷ s) (ap suc e)) in
    omega arith
count_lt f g (true ∷ x) h p q =
    let a = count_lt (λ s. f (true ∷ s)) (λ s. g (true ∷ s)) x (λ s e. h (true ∷ s) (ap suc e)) p q in
    let b = count_le (length x) (λ s. f (false ∷ s)) (λ s. g (false ∷ s)) (λ s e. h (false ∷ s) (ap suc e)) in
    omega arith

pub count_pos : (g : List Bool → Bool) (x : List Bool) → g x ≡ true → 0 < count (length x) g
count_pos g x q = omega (arith, count_lt (λ _. false) g x (λ s e i. absurd (false≢true i)) refl q)

pub count_top : (k : ℕ) (f : List Bool → Bool) → count k f ≤ 2 ^ k
count_top zero f = one_le (f []) true (λ _. refl)
count_top (suc k) f = omega (arith, count_top k (λ s. f (false ∷ s)), count_top k (λ s. f (true ∷ s)), pow-suc 2 k)

pub sum_to_le : (m : ℕ) (g h : ℕ → ℕ) → ((j : ℕ) → j < m → g (suc j) ≤ h (suc j)) → sum_to m g ≤ sum_to m h
sum_to_le zero g h l = omega arith
sum_to_le (suc m) g h l = omega (arith, sum_to_le m g h (λ j b. l j (omega arith)), l m (omega arith))

pub sum_to_lt : (m i : ℕ) (g h : ℕ → ℕ) → ((j : ℕ) → j < m → g (suc j) ≤ h (suc j)) → i < m → g (suc i) < h (suc i) → sum_to m g < sum_to m h
sum_to_lt zero i g h l b s = absurd (omega arith)
sum_to_lt (suc m) i g h l b s =
    let under : (j : ℕ) → j < m → g (suc j) ≤ h (suc j) = λ j b. l j (omega arith) in
    elim (ℕ_discrete i m) [
      | yes e ↦ (let s' : g (suc m) < h (suc m) = subst (λ k. g (suc k) < h (suc k)) e s in omega (arith, sum_to_le m g h under))
      | no e ↦ omega (arith, sum_to_lt m i g h under (omega arith) s, l m (omega arith))
    ]

pub sum_to_low : (m d : ℕ) (g : ℕ → ℕ) → ((j : ℕ) → j < d → 0 < g (suc j)) → min d m ≤ sum_to m g
sum_to_low zero d g h = omega arith
sum_to_low (suc m) d g h =
    elim (dec_le (suc m) d) [
      | yes e ↦ omega (arith, sum_to_low m d g h, h m e)
      | no e ↦ omega (arith, sum_to_low m d g h)
    ]
