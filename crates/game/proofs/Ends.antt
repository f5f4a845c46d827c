-- A turn can be taken in every state, and every loss settled, so a run that goes on reaches a verdict.
use Rattle.std.proofs.Common.{◌≡◌, ℕ, zero, suc, pred, ◌+◌, ◌*◌, ◌<◌, ◌≤◌, Bool, true, false, not, ◌&&◌, ◌≢◌, ◌⊎◌, List, [], ◌++◌, length, take, drop, sym, refl, ap, ◌∙◌, subst, inl, inr, arith, take-append-drop}
use mathlib.Core.Bool.{false≢true}
use Rattle.std.proofs.lemmas.Bool.{cases_Bool}
use Rattle.game.specs.Prefix.{Formula, wants, blocks, owner, size, upto, positions}
use Rattle.game.specs.Game.{some_of}
use Rattle.game.specs.Run.{Tests, playing, lost, Rule, any, Starts, Stuck, Moves, Possible, Settles, Reaches, start, move, loss, settle, verdict, state_of, late}
use Rattle.game.specs.Claims.{Verdict, BoundMet, NeverStuck, AlwaysSettles, VerdictsExist, AnyAllows}
use Rattle.game.proofs.Settings.{and_right, some_miss, some_none, first_of, first_long, first_passes}
use Rattle.game.proofs.Runs.{good}
use Rattle.game.proofs.Claims.{stuck_here, turns_left, one_block}

-- the tests with another one at level i
abbrev update : ℕ → (List Bool → Bool) → Tests → Tests
update zero f A zero = f
update zero f A (suc j) = A (suc j)
update (suc i) f A zero = A zero
update (suc i) f A (suc j) = update i f (λ k. A (suc k)) j

at : (i : ℕ) (f : List Bool → Bool) (A : Tests) (t : List Bool) → update i f A i t ≡ f t
at zero f A t = refl
at (suc i) f A t = at i f (λ k. A (suc k)) t

off : (i : ℕ) (f : List Bool → Bool) (A : Tests) (j : ℕ) → j ≢ i → (t : List Bool) → update i f A j t ≡ A j t
off zero f A zero n t = absurd (n refl)
off zero f A (suc j) n t = refl
off (suc i) f A zero n t = refl
off (suc i) f A (suc j) n t = off i f (λ k. A (suc k)) j (λ e. n (ap suc e)) t

and_left : (a b : Bool) → a && b ≡ true → a ≡ true
and_left true b h = refl
and_left false b h = h

and_rest : (a b : Bool) → a ≡ true → a && b ≡ false → b ≡ false
and_rest true b e h = h
and_rest false b e h = absurd (false≢true e)

module _ (F : Formula) where
  -- one of the finitely many settings passes, or none does
  turn : (Pick : Rule) → Possible F Pick → (d : ℕ) (p : List Bool) (A : Tests) → length p ≡ upto F d → Moves F Pick d p A ⊎ Stuck F d p A
  turn Pick possible d p A long = elim (cases_Bool (some_of (size F d) test)) [
    | inl h ↦ inl (possible d p (first_of (size F d) test) A long (first_long (size F d) test) (first_passes (size F d) test h))
    | inr h ↦ inr (λ s l. some_none test s (rw l h))
  ]
    where
      test : List Bool → Bool
      test s = A (suc d) (p ++ s)

  -- the weakest settlement: the test of level d + 1 and that some setting of level d + 3 passes after it and the present reply
  settling : (d : ℕ) (p : List Bool) (A : Tests) → Stuck F (suc (suc d)) p A → (B : Tests) × Settles F d p A B
  settling d p A stuck = (
    update (suc d) test A,
    record {
      same = λ j le ne t l. off (suc d) test A (suc j) (λ e. ne (ap pred e)) t;
      falls = λ t l h. and_left (A (suc d) t) (left t) (sym (at (suc d) test A t) ∙ h);
      own = at (suc d) test A (take (upto F (suc d)) p) ∙ rw own_left (and_right (A (suc d) (take (upto F (suc d)) p)));
      just = λ t l h h' s e. some_none (λ r. A (suc (suc (suc d))) ((t ++ drop (upto F (suc d)) p) ++ r)) s
          (rw e (and_rest (A (suc d) t) (left t) h (sym (at (suc d) test A t) ∙ h')));
    },
  )
    where
      left : List Bool → Bool
      left t = some_of (size F (suc (suc d))) (λ s. A (suc (suc (suc d))) ((t ++ drop (upto F (suc d)) p) ++ s))

      test : List Bool → Bool
      test t = A (suc d) t && left t

      own_left : left (take (upto F (suc d)) p) ≡ false
      own_left = rw take-append-drop (some_miss (size F (suc (suc d))) (λ s. A (suc (suc (suc d))) (p ++ s)) stuck)

  -- the tests at the start
  goal : List Bool → Bool
  goal t = wants (owner F (pred (blocks F))) (F.matrix t)

  initial : Tests
  initial = update (suc (blocks F)) (λ t. not (goal t)) (update (blocks F) goal (λ j t. true))

  initially : Starts F initial
  unfolding initial goal
  initially =
      let under : Tests = update (blocks F) goal (λ j t. true) in
      let n : (t : List Bool) → initial (blocks F) t ≡ goal t = λ t. off (suc (blocks F)) (λ t. not (goal t)) under (blocks F) (λ e. omega arith) t ∙ at (blocks F) goal (λ j t. true) t in
      record {
        early = λ j h t l. off (suc (blocks F)) (λ t. not (goal t)) under (suc j) (λ e. omega arith) t ∙ off (blocks F) goal (λ j t. true) (suc j) (λ e. omega arith) t;
        last = λ t l. n t;
        past = λ t l. at (suc (blocks F)) (λ t. not (goal t)) under t ∙ ap not (sym (n t));
      }

  module _ (some : 0 < blocks F) (Pick : Rule) (possible : Possible F Pick) where
    -- a loss is settled, or gives the verdict
    after_loss : (d n k : ℕ) (p : List Bool) (A : Tests) → Reaches F Pick n k lost d p A →
        ((e j : ℕ) (q : List Bool) (B : Tests) → Reaches F Pick n j playing e q B → Verdict F Pick) → Verdict F Pick
    after_loss zero n k p A r on = record { state = state_of (verdict r (omega arith)); word = _; said = refl }
    after_loss (suc zero) n k p A r on = record { state = state_of (verdict r (omega arith)); word = _; said = refl }
    after_loss (suc (suc d)) n k p A r on =
        let x = settling d p A (good F Pick some r).adds in
        on d (suc k) (take (upto F d) p) x.0 (settle r x.1)

    -- the number of turns rises to its bound
    goes_on : (fuel n k d : ℕ) (p : List Bool) (A : Tests) → Reaches F Pick n k playing d p A → 3 * positions F + 2 ≤ n + fuel → Verdict F Pick
    goes_on zero n k d p A r h = absurd (omega (arith, turns_left F some Pick (state_of r) refl))
    goes_on (suc fuel) n k d p A r h =
        elim (turn Pick possible d p A (good F Pick some r).long) [
          | inl m ↦ goes_on fuel (suc n) k (suc d) (p ++ m.setting) A (move r m.setting m.fits m.passes m.picked) (omega arith)
          | inr st ↦ after_loss d (suc n) k p A (loss r st) (λ e j q B t. goes_on fuel (suc n) j e q B t (omega arith))
        ]

pub never_stuck : NeverStuck
never_stuck F some Pick possible s e = turn F Pick possible s.depth s.play s.tests (good F Pick some s.reached).long

pub always_settles : AlwaysSettles
always_settles F some Pick s d e deep =
    settling F d s.play s.tests (subst (λ k. Stuck F k s.play s.tests) deep (stuck_here F some Pick s (ap late e)))

pub verdicts_exist : VerdictsExist
verdicts_exist F some Pick possible = goes_on F some Pick possible (3 * positions F + 2) 0 0 0 [] (initial F) (start (initially F)) (omega arith)

pub any_allows : AnyAllows
any_allows F = (
  λ d p s f g lp ls same h. refl,
  λ d p s A lp ls passes. record { setting = s; fits = ls; passes = passes; picked = refl },
)

pub bound_met : BoundMet
bound_met F one own = (verdicts_exist F (omega arith) any (any_allows F).1, one_block F one own)
