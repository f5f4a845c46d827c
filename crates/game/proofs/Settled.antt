-- What a settlement keeps: the tests stay sound, what is left of the play still passes, and one more play is refuted for good.
use Rattle.std.proofs.Common.{◌≡◌, ℕ, suc, pred, ◌^◌, ◌<◌, ◌≤◌, Bool, true, false, not, List, ◌++◌, length, take, drop, sym, ap, ◌∙◌, inl, inr, arith, length-append, length-drop, length-take-le, take-take}
use native.Mathlib.Decide.{ℕ_discrete}
use Rattle.std.proofs.lemmas.Bool.{cases_Bool}
use Rattle.game.specs.Prefix.{Formula, blocks, owner, size, upto, sum_to, positions}
use Rattle.game.specs.Game.{value_at}
use Rattle.game.specs.Run.{Tests, Settles}
use Rattle.game.proofs.Settings.{not_not}
use Rattle.game.proofs.Prefix.{level_won, upto_mono, no_size}
use Rattle.game.proofs.Count.{count, count_le, count_lt, count_top, sum_to_le, sum_to_lt}
use Rattle.game.proofs.Sound.{Sound, stuck_lost}

-- past the last block the test is the opposite of the last block's
abbrev pub Opposed : Formula → Tests → Type 0
Opposed F A = (t : List Bool) → length t ≡ upto F (blocks F) → A (suc (blocks F)) t ≡ not (A (blocks F) t)

-- every part of the play passes its level's test
abbrev pub Alive : Formula → ℕ → List Bool → Tests → Type 0
Alive F d p A = (j : ℕ) → j < d → A (suc j) (take (upto F (suc j)) p) ≡ true

-- how many plays of the first j blocks pass
abbrev pub passing : Formula → Tests → ℕ → ℕ
passing F A j = count (upto F j) (A j)

-- how many plays pass in all, below the last block
abbrev pub potential : Formula → Tests → ℕ
potential F A = sum_to (pred (blocks F)) (passing F A)

-- at first no more can pass than there are
pub potential_top : (F : Formula) (A : Tests) → potential F A ≤ positions F
potential_top F A = sum_to_le (pred (blocks F)) (passing F A) (λ j. 2 ^ upto F j) (λ j l. count_top (upto F (suc j)) (A (suc j)))

module _ (F : Formula) (d : ℕ) (p : List Bool) (A B : Tests) (le : suc (suc d) ≤ blocks F) (long : length p ≡ upto F (suc (suc d))) (sets : Settles F d p A B) where
  -- a play that fails anew is lost: the reply that was played wins for the opponent
  newly : Sound F A → (t : List Bool) → length t ≡ upto F (suc d) → A (suc d) t ≡ true → B (suc d) t ≡ false → value_at F (suc d) t ≡ not (owner F d)
  newly snd t len yes' no' =
      let reply = drop (upto F (suc d)) p in
      let fits : length reply ≡ size F (suc d) = simp length-drop (omega arith) in
      let lost : value_at F (suc (suc d)) (t ++ reply) ≡ not (owner F (suc (suc d))) = stuck_lost F A snd (suc (suc d)) le (t ++ reply) (simp length-append (omega arith)) (sets.just t len yes' no') in
      level_won F (suc d) t reply fits (lost ∙ not_not (owner F (suc d)))

  at_settled : Sound F A → (t : List Bool) → length t ≡ upto F (suc d) → B (suc d) t ≡ false → value_at F (suc d) t ≡ not (owner F d)
  at_settled snd t len no' = elim (cases_Bool (A (suc d) t)) [ inl e ↦ newly snd t len e no' | inr e ↦ snd d (omega arith) t len e ]

  pub settle_sound : Sound F A → Sound F B
  settle_sound snd j l t len no' =
      elim (ℕ_discrete j d) [
        | yes e ↦ rw e (at_settled snd t (rw e at len) (rw e at no'))
        | no e ↦ snd j l t len (sym (sets.same j l e t len) ∙ no')
      ]

  pub settle_opposed : Opposed F A → Opposed F B
  settle_opposed op = go (pred (blocks F)) (omega arith)
    where
      go : (n : ℕ) → blocks F ≡ suc n → Opposed F B
      go n b t len =
          let l : length t ≡ upto F (suc (blocks F)) = omega (arith, no_size F (blocks F) (omega arith)) in
          let last : B (suc n) t ≡ A (suc n) t = sets.same n (omega arith) (λ q. omega arith) t (len ∙ ap (upto F) b) in
          sets.same (blocks F) (omega arith) (λ q. omega arith) t l ∙ op t len ∙ ap not (rw b (sym last))

  pub settle_alive : Alive F (suc (suc d)) p A → Alive F d (take (upto F d) p) B
  settle_alive al j l =
      let h : upto F (suc j) ≤ upto F d = upto_mono F (suc j) d l in
      let lx : length (take (upto F (suc j)) p) ≡ upto F (suc j) = length-take-le (upto F (suc j)) p (omega arith) in
      rw (take-take (upto F (suc j)) (upto F d) p h) (sets.same j (omega arith) (λ q. omega arith) (take (upto F (suc j)) p) lx ∙ al j (omega arith))

  -- no level's test passes more often than before
  passing_le : (j : ℕ) → j < pred (blocks F) → passing F B (suc j) ≤ passing F A (suc j)
  passing_le j l =
      elim (ℕ_discrete j d) [
        | yes e ↦ rw e (count_le (upto F (suc d)) (B (suc d)) (A (suc d)) sets.falls)
        | no e ↦ count_le (upto F (suc j)) (B (suc j)) (A (suc j)) (λ t len h. sym (sets.same j (omega arith) e t len) ∙ h)
      ]

  -- the present play passed, and now fails
  pub settle_less : Alive F (suc (suc d)) p A → potential F B < potential F A
  settle_less al =
      let x = take (upto F (suc d)) p in
      let lx : length x ≡ upto F (suc d) = length-take-le (upto F (suc d)) p (omega arith) in
      let c : count (upto F (suc d)) (B (suc d)) < count (upto F (suc d)) (A (suc d)) = rw lx at (count_lt (B (suc d)) (A (suc d)) x (λ s e h. sets.falls s (e ∙ lx) h) sets.own (al d (omega arith))) in
      sum_to_lt (pred (blocks F)) d (passing F B) (passing F A) passing_le (omega arith) c
