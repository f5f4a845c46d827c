-- Tests that fail only where the level's owner has lost: they are so at the start, and where every setting of a level is refuted its owner has lost.
use Rattle.std.proofs.Common.{◌≡◌, ℕ, zero, suc, pred, ◌<◌, ◌≤◌, Bool, true, false, not, List, [], ◌++◌, length, sym, ap, ◌∙◌, true≢false, arith, length-append}
use native.Mathlib.Decide.{ℕ_discrete}
use Rattle.game.specs.Prefix.{Formula, wants, blocks, owner, upto}
use Rattle.game.specs.Game.{value_at}
use Rattle.game.specs.Run.{Tests, Starts, Stuck}
use Rattle.game.proofs.Settings.{not_not, wants_true, wants_false}
use Rattle.game.proofs.Prefix.{level_won, level_lost, empty, no_size, at_end}

-- a play that a test refutes is lost for the level's owner
abbrev pub Sound : Formula → Tests → Type 0
Sound F A = (d : ℕ) → d ≤ blocks F → (t : List Bool) → length t ≡ upto F (suc d) → A (suc d) t ≡ false → value_at F (suc d) t ≡ not (owner F d)

module _ (F : Formula) where
  -- at the start only the last two tests refute anything, by the matrix
  pub starts_sound : 0 < blocks F → (A : Tests) → Starts F A → Sound F A
  starts_sound some A st = go (pred (blocks F)) (omega arith)
    where
      go : (n : ℕ) → blocks F ≡ suc n → Sound F A
      go n b d le t len no' =
          let last : length t ≡ upto F (suc n) → A (suc n) t ≡ wants (owner F n) (F.matrix t) = rw b at (st.last t) in
          let past : length t ≡ upto F (suc n) → A (suc (suc n)) t ≡ not (A (suc n) t) = rw b at (st.past t) in
          elim (ℕ_discrete d n) [
            | yes e ↦ at_end F (suc d) (omega arith) t ∙ wants_false (owner F d) (F.matrix t) (sym (rw e (last (rw e at len))) ∙ no')
            | no e ↦ elim (ℕ_discrete d (suc n)) [
              | yes f ↦ (let len' : length t ≡ upto F (suc (suc n)) = rw f at len in
                  let l : length t ≡ upto F (suc n) = omega (arith, no_size F (suc n) (omega arith)) in
                  let passes : A (suc n) t ≡ true = sym (not_not (A (suc n) t)) ∙ ap not (sym (past l) ∙ rw f at no') in
                  at_end F (suc d) (omega arith) t ∙ rw f (wants_true (owner F n) (F.matrix t) (sym (last l) ∙ passes) ∙ sym (not_not (owner F n))))
              | no f ↦ absurd (true≢false (sym (st.early d (omega arith) t len) ∙ no'))
            ]
          ]

  -- where every setting is refuted the level's owner has lost
  pub stuck_lost : (A : Tests) → Sound F A → (d : ℕ) → d ≤ blocks F → (p : List Bool) → length p ≡ upto F d → Stuck F d p A → value_at F d p ≡ not (owner F d)
  stuck_lost A snd d le p len st = level_lost F d p (λ s e. snd d le (p ++ s) (simp length-append (omega arith)) (st s e))

  -- a loss at level 1 or 2 decides the whole formula
  pub decided : (d : ℕ) (p : List Bool) → d ≤ 1 → length p ≡ upto F d → value_at F d p ≡ not (owner F d) → not (owner F d) ≡ value_at F 0 []
  decided zero p le len q = sym (rw (empty p len) at q)
  decided (suc zero) p le len q = sym (level_won F 0 [] p (omega arith) (q ∙ not_not (owner F 0)) ∙ sym (not_not (owner F 0)))
  decided (suc (suc d)) p le len q = absurd (omega arith)
