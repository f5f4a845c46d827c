-- A core that is given by marks.
use Rattle.std.proofs.Common.{◌≡◌, ℕ, zero, suc, ◌+◌, ◌*◌, ◌/◌, ◌%◌, ◌<◌, ◌≤◌, Bool, true, false, cond, not, eqb, ◌≢◌, ◌⊎◌, List, [], ◌∷◌, ◌++◌, sym, refl, ap, ◌∙◌, ap₂, inl, inr, arith}
use native.Mathlib.Decide.{ℕ_discrete}
use Rattle.std.proofs.lemmas.Bool.{eq-eqb, ne_eqb, cond_both, cond-false}
use Rattle.valuation.specs.declared.Value.{Value}
use Rattle.valuation.specs.declared.Value.TheVariants.{Unknown, False, True}
use Rattle.valuation.specs.Three.{not3, or_else, of_bool}
use Rattle.valuation.specs.Circuit.{Values, negated}
use Rattle.valuation.specs.Sweep.{In}
use Rattle.valuation.proofs.Order.{unknown≢watched}
use Rattle.copies.specs.Copy.{AllTrue, forced_by}
use Rattle.copies.specs.Make.{literal_for, core_of}
use Rattle.copies.specs.Claims.{CoreTrue, CoreForces, CoreMarked, CoreSame}
use Rattle.copies.proofs.Literals.{plain, turn}
use Rattle.copies.proofs.Settled.{all_join}

literal_true : (v : Values) (n : ℕ) (x : Value) → (x ≢ Unknown → v n ≡ x) → AllTrue v (literal_for x n)
literal_true v n Unknown k = tt
literal_true v n False k = (turn v (2 * n + 1) n refl ∙ ap not3 (k (λ e. unknown≢watched true (sym e))), tt)
literal_true v n True k = (plain v (2 * n) n refl ∙ k (λ e. unknown≢watched false (sym e)), tt)

pub core_true : CoreTrue
core_true marks F v zero h = tt
core_true marks F v (suc n) h =
    all_join v (core_of marks F n) _ (core_true marks F v n (λ m i. h m (omega arith))) (one (marks n) (h n (omega arith)))
  where
    one : (b : Bool) → (F n ≢ Unknown → b ≡ true → v n ≡ F n) → AllTrue v (cond b (literal_for (F n) n) [])
    one true k = literal_true v n (F n) (λ d. k d refl)
    one false k = tt

in_append : (l : ℕ) (ks ls : List ℕ) → In l (ks ++ ls) → In l ks ⊎ In l ls
in_append l [] ls i = inr i
in_append l (k ∷ ks) ls (inl e) = inl (inl e)
in_append l (k ∷ ks) ls (inr i) = elim (in_append l ks ls i) [ inl j ↦ inl (inr j) | inr j ↦ inr j ]

literal_node : (x : Value) (n l : ℕ) → In l (literal_for x n) → (l / 2 ≡ n) × (x ≢ Unknown)
literal_node Unknown n l i = absurd i
literal_node False n l (inl e) = (omega arith, λ u. unknown≢watched true (sym u))
literal_node False n l (inr i) = absurd i
literal_node True n l (inl e) = (omega arith, λ u. unknown≢watched false (sym u))
literal_node True n l (inr i) = absurd i

pub core_marked : CoreMarked
core_marked marks F zero l i = absurd i
core_marked marks F (suc n) l i = pick (core_marked marks F n l) (in_append l (core_of marks F n) _ i)
  where
    last : (b : Bool) → In l (cond b (literal_for (F n) n) []) → (l / 2 ≡ n) × (b ≡ true) × (F n ≢ Unknown)
    last true j = let r = literal_node (F n) n l j in (r.0, refl, r.1)
    last false j = absurd j

    pick : (In l (core_of marks F n) → (l / 2 < n) × (marks (l / 2) ≡ true) × (F (l / 2) ≢ Unknown)) → In l (core_of marks F n) ⊎ In l (cond (marks n) (literal_for (F n) n) []) →
        (l / 2 < suc n) × (marks (l / 2) ≡ true) × (F (l / 2) ≢ Unknown)
    pick h (inl j) = let r = h j in (omega (arith, r.0), r.1, r.2)
    pick h (inr j) = let r = last (marks n) j in (omega (arith, r.0), ap marks r.0 ∙ r.1, λ u. r.2 (sym (ap F r.0) ∙ u))

forced_append : (ks ls : List ℕ) (n : ℕ) → forced_by (ks ++ ls) n ≡ or_else (forced_by ks n) (forced_by ls n)
forced_append [] ls n = refl
forced_append (k ∷ ks) ls n = one (eqb (k / 2) n) (not (negated k)) _ _ _ (forced_append ks ls n)
  where
    one : (b v : Bool) (x y z : Value) → x ≡ or_else y z → cond b (of_bool v) x ≡ or_else (cond b (of_bool v) y) z
    one true true x y z e = refl
    one true false x y z e = refl
    one false v x y z e = e

-- what one literal forces, at its node and elsewhere
at_own : (x : Value) (n : ℕ) → forced_by (literal_for x n) n ≡ x
at_own Unknown n = refl
at_own False n = ap₂ (λ b s. cond b (of_bool (not s)) Unknown) (eq-eqb ((2 * n + 1) / 2) n (omega arith)) (eq-eqb ((2 * n + 1) % 2) 1 (omega arith))
at_own True n = ap₂ (λ b s. cond b (of_bool (not s)) Unknown) (eq-eqb ((2 * n) / 2) n (omega arith)) (ne_eqb ((2 * n) % 2) 1 (omega arith))

at_other : (x : Value) (m n : ℕ) → m ≢ n → forced_by (literal_for x m) n ≡ Unknown
at_other Unknown m n d = refl
at_other False m n d = cond-false _ _ Unknown (ne_eqb ((2 * m + 1) / 2) n (omega arith))
at_other True m n d = cond-false _ _ Unknown (ne_eqb ((2 * m) / 2) n (omega arith))

module _ (marks : ℕ → Bool) (F : Values) where
  own : (n : ℕ) → forced_by (cond (marks n) (literal_for (F n) n) []) n ≡ cond (marks n) (F n) Unknown
  own n = by (marks n)
    where
      by : (b : Bool) → forced_by (cond b (literal_for (F n) n) []) n ≡ cond b (F n) Unknown
      by true = at_own (F n) n
      by false = refl

  other : (m n : ℕ) → m ≢ n → forced_by (cond (marks m) (literal_for (F m) m) []) n ≡ Unknown
  other m n d = cond_both (marks m) (literal_for (F m) m) [] (λ ls. forced_by ls n ≡ Unknown) (λ _. at_other (F m) m n d) (λ _. refl)

  step : (size n : ℕ) → forced_by (core_of marks F (suc size)) n ≡ or_else (forced_by (core_of marks F size) n) (forced_by (cond (marks size) (literal_for (F size) size) []) n)
  step size n = forced_append (core_of marks F size) _ n

  past : (size n : ℕ) → size ≤ n → forced_by (core_of marks F size) n ≡ Unknown
  past zero n i = refl
  past (suc size) n i = step size n ∙ ap₂ or_else (past size n (omega arith)) (other size n (omega arith))

  or_nothing : (x : Value) → or_else x Unknown ≡ x
  or_nothing Unknown = refl
  or_nothing False = refl
  or_nothing True = refl

  within : (size n : ℕ) → n < size → forced_by (core_of marks F size) n ≡ cond (marks n) (F n) Unknown
  within zero n i = absurd (omega arith)
  within (suc size) n i =
      elim (ℕ_discrete size n) [
        | yes e ↦ step size n ∙ ap₂ or_else (past size n (omega arith)) (ap (λ k. forced_by (cond (marks k) (literal_for (F k) k) []) n) e ∙ own n)
        | no e ↦ step size n ∙ ap₂ or_else (within size n (omega arith)) (other size n e) ∙ or_nothing _
      ]

pub core_forces : CoreForces
core_forces = within

pub core_same : CoreSame
core_same marks F G zero h = refl
core_same marks F G (suc n) h = ap₂ ◌++◌ (core_same marks F G n (λ m i. h m (omega arith))) (one (marks n) (h n (omega arith)))
  where
    one : (b : Bool) → (b ≡ true → F n ≡ G n) → cond b (literal_for (F n) n) [] ≡ cond b (literal_for (G n) n) []
    one true e = ap (λ x. literal_for x n) (e refl)
    one false e = refl
