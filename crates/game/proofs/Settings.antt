-- Settings of some variables: whether some or every one passes a test, and a first one that does.
use Rattle.std.proofs.Common.{◌≡◌, ℕ, zero, suc, Bool, true, false, cond, not, ◌&&◌, ◌||◌, ◌⊎◌, List, [], ◌∷◌, length, sym, refl, ap, ◌∙◌, inl, inr, true≢false}
use mathlib.Core.Bool.{false≢true}
use Rattle.std.proofs.lemmas.Bool.{cases_Bool}
use Rattle.game.specs.Prefix.{wants}
use Rattle.game.specs.Game.{some_of, every_of}

or_right : (a : Bool) → a || true ≡ true
or_right true = refl
or_right false = refl

pub and_right : (a : Bool) → a && false ≡ false
and_right true = refl
and_right false = refl

pub not_not : (a : Bool) → not (not a) ≡ a
not_not true = refl
not_not false = refl

pub not_self : (a : Bool) → not a ≡ a → ⊥
not_self true e = false≢true e
not_self false e = true≢false e

pub same_or_not : (a b : Bool) → (a ≡ b) ⊎ (a ≡ not b)
same_or_not true true = inl refl
same_or_not true false = inr refl
same_or_not false true = inr refl
same_or_not false false = inl refl

-- what a player wants is its own value, and what it does not want the other
pub wants_true : (o v : Bool) → wants o v ≡ true → v ≡ o
wants_true true v e = e
wants_true false v e = sym (not_not v) ∙ ap not e

pub wants_false : (o v : Bool) → wants o v ≡ false → v ≡ not o
wants_false true v e = e
wants_false false v e = sym (not_not v) ∙ ap not e

-- a setting that passes, or one that fails, decides it
pub some_hit : (s : List Bool) (f : List Bool → Bool) → f s ≡ true → some_of (length s) f ≡ true
some_hit [] f h = h
some_hit (false ∷ s) f h = rw (some_hit s (λ r. f (false ∷ r)) h)
some_hit (true ∷ s) f h = rw (some_hit s (λ r. f (true ∷ r)) h) (or_right _)

pub every_hit : (s : List Bool) (f : List Bool → Bool) → f s ≡ false → every_of (length s) f ≡ false
every_hit [] f h = h
every_hit (false ∷ s) f h = rw (every_hit s (λ r. f (false ∷ r)) h)
every_hit (true ∷ s) f h = rw (every_hit s (λ r. f (true ∷ r)) h) (and_right _)

-- so do settings that all fail, or all pass
pub some_miss : (k : ℕ) (f : List Bool → Bool) → ((s : List Bool) → length s ≡ k → f s ≡ false) → some_of k f ≡ false
some_miss zero f h = h [] refl
some_miss (suc k) f h = rw (some_miss k (λ s. f (false ∷ s)) (λ s e. h (false ∷ s) (ap suc e)), some_miss k (λ s. f (true ∷ s)) (λ s e. h (true ∷ s) (ap suc e)))

pub every_miss : (k : ℕ) (f : List Bool → Bool) → ((s : List Bool) → length s ≡ k → f s ≡ true) → every_of k f ≡ true
every_miss zero f h = h [] refl
every_miss (suc k) f h = rw (every_miss k (λ s. f (false ∷ s)) (λ s e. h (false ∷ s) (ap suc e)), every_miss k (λ s. f (true ∷ s)) (λ s e. h (true ∷ s) (ap suc e)))

-- where none passes, each fails
pub some_none : (f : List Bool → Bool) (s : List Bool) → some_of (length s) f ≡ false → f s ≡ false
some_none f s h = elim (cases_Bool (f s)) [ inl e ↦ absurd (true≢false (sym (some_hit s f e) ∙ h)) | inr e ↦ e ]

-- the first setting that passes, false before true; without one, all true
abbrev pub first_of : ℕ → (List Bool → Bool) → List Bool
first_of zero f = []
first_of (suc k) f = cond (some_of k (λ s. f (false ∷ s))) (false ∷ first_of k (λ s. f (false ∷ s))) (true ∷ first_of k (λ s. f (true ∷ s)))

pub first_long : (k : ℕ) (f : List Bool → Bool) → length (first_of k f) ≡ k
first_long zero f = refl
first_long (suc k) f = elim (cases_Bool (some_of k (λ s. f (false ∷ s)))) [
  | inl e ↦ rw e (ap suc (first_long k (λ s. f (false ∷ s))))
  | inr e ↦ rw e (ap suc (first_long k (λ s. f (true ∷ s))))
]

pub first_passes : (k : ℕ) (f : List Bool → Bool) → some_of k f ≡ true → f (first_of k f) ≡ true
first_passes zero f h = h
first_passes (suc k) f h = elim (cases_Bool (some_of k (λ s. f (false ∷ s)))) [
  | inl e ↦ rw e (first_passes k (λ s. f (false ∷ s)) e)
  | inr e ↦ rw e (first_passes k (λ s. f (true ∷ s)) (rw e at h))
]
