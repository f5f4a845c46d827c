-- The value of a position is what a player wants exactly if that player has a strategy that wins from there.
use Rattle.std.proofs.Common.{◌≡◌, ℕ, zero, suc, ◌+◌, ◌-◌, ◌<◌, ◌≤◌, Bool, true, false, not, List, [], ◌++◌, length, take, drop, sym, refl, ap, ◌∙◌, inl, inr, arith, length-append, length-drop, length-take-le, take_all, take-take, take_at, take-add}
use native.Mathlib.Decide.{ℕ_discrete}
use Rattle.std.proofs.lemmas.Bool.{cases_Bool}
use Rattle.game.specs.Prefix.{Player, wants, Formula, blocks, owner, size, upto}
use Rattle.game.specs.Game.{some_of, value_at}
use Rattle.game.specs.Strategy.{Strategy, Follows, WinsFrom, PositionsDecided, StrategiesDecide, OpeningsDecided}
use Rattle.game.proofs.Settings.{not_not, not_self, same_or_not, wants_true, wants_false, some_none, first_of, first_long, first_passes}
use Rattle.game.proofs.Prefix.{level_won, level_lost, upto_mono, at_end}

module _ (F : Formula) (o : Player) where
  -- the test of a setting of level d + 1 after the play t: the rest is won for the player
  good_setting : ℕ → List Bool → List Bool → Bool
  good_setting d t s = wants o (value_at F (suc d) (t ++ s))

  -- the strategy that plays the first setting with which the rest is won
  best : Strategy F o
  best = record { setting = λ d t. first_of (size F d) (good_setting d t); fits = λ d l e t h. first_long (size F d) (good_setting d t) }

  -- at the player's own block it keeps what is won
  own_step : (d : ℕ) → owner F d ≡ o → (p : List Bool) → value_at F d p ≡ o → value_at F (suc d) (p ++ best.setting d p) ≡ o
  unfolding good_setting best
  own_step d e p v = elim (cases_Bool (some_of (size F d) (good_setting d p))) [
    | inl h ↦ wants_true o _ (first_passes (size F d) (good_setting d p) h)
    | inr h ↦ absurd (not_self o (sym (lost h) ∙ v))
  ]
    where
      lost : some_of (size F d) (good_setting d p) ≡ false → value_at F d p ≡ not o
      lost h = level_lost F d p (λ s l. wants_false o _ (some_none (good_setting d p) s (rw l h)) ∙ ap not (sym e)) ∙ ap not e

  -- at the opponent's block no setting loses it
  other_step : (d : ℕ) → owner F d ≡ not o → (p : List Bool) → value_at F d p ≡ o → (s : List Bool) → length s ≡ size F d → value_at F (suc d) (p ++ s) ≡ o
  other_step d e p v s l = elim (same_or_not (value_at F (suc d) (p ++ s)) o) [
    | inl h ↦ h
    | inr h ↦ absurd (not_self o (sym e ∙ sym (level_won F d p s l (h ∙ sym e)) ∙ v))
  ]

  module _ (t : List Bool) (full : length t ≡ upto F (blocks F)) where
    step : (d : ℕ) → d < blocks F → Follows F o best d t → value_at F d (take (upto F d) t) ≡ o → value_at F (suc d) (take (upto F (suc d)) t) ≡ o
    step d l f v = elim (same_or_not (owner F d) o) [
      | inl e ↦ rw (f d (omega arith) l e) (own_step d e (take (upto F d) t) v)
      | inr e ↦ (let h : upto F (suc d) ≤ upto F (blocks F) = upto_mono F (suc d) (blocks F) l in
          rw (take-add (upto F d) (size F d) t)
          (other_step d e (take (upto F d) t) v (take (size F d) (drop (upto F d) t)) (length-take-le (size F d) (drop (upto F d) t) (simp length-drop (omega arith)))))
    ]

    -- by the k blocks that are left
    won : (k d : ℕ) → blocks F ≡ k + d → Follows F o best d t → value_at F d (take (upto F d) t) ≡ o → F.matrix t ≡ o
    won zero d e f v =
        let n : blocks F ≡ d = omega arith in
        let all : take (upto F d) t ≡ t = take_all (upto F d) t (omega (arith, ap (upto F) n)) in
        sym (at_end F d (omega arith) t) ∙ rw all at v
    won (suc k) d e f v = won k (suc d) (omega arith) (λ j l. f j (omega arith)) (step d (omega arith) f v)

  best_wins : (d : ℕ) → d ≤ blocks F → (p : List Bool) → value_at F d p ≡ o → WinsFrom F o best d p
  best_wins d l p v t full e f = won t full (blocks F - d) d (omega arith) f (rw e v)

  module _ (σ : Strategy F o) where
    -- what wins from here wins after the next block, if that is played by the strategy or is the opponent's
    extends : (d : ℕ) (p s : List Bool) → length p ≡ upto F d → (owner F d ≡ o → s ≡ σ.setting d p) → WinsFrom F o σ d p → WinsFrom F o σ (suc d) (p ++ s)
    extends d p s lp own w t full e f =
        let front : take (upto F d) t ≡ p = sym (take-take (upto F d) (upto F (suc d)) t (omega arith)) ∙ ap (take (upto F d)) e ∙ take_at p s (upto F d) lp in
        w t full front (λ j l b mine. elim (ℕ_discrete j d) [
          | yes i ↦ rw (i, front) (e ∙ ap (λ x. p ++ x) (own (rw i at mine)))
          | no i ↦ f j (omega arith) b mine
        ])

    -- by the k blocks that are left, a strategy that wins shows the value
    worth : (k d : ℕ) → blocks F ≡ k + d → (p : List Bool) → length p ≡ upto F d → WinsFrom F o σ d p → value_at F d p ≡ o
    worth zero d e p lp w =
        let n : blocks F ≡ d = omega arith in
        at_end F d (omega arith) p ∙ w p (lp ∙ ap (upto F) (sym n)) (take_all (upto F d) p (omega arith)) (λ j l b. absurd (omega arith))
    worth (suc k) d e p lp w = elim (same_or_not (owner F d) o) [
      | inl mine ↦
          (let l : length (σ.setting d p) ≡ size F d = σ.fits d (omega arith) mine p lp in
          level_won F d p (σ.setting d p) l
          (worth k (suc d) (omega arith) (p ++ σ.setting d p) (simp length-append (omega arith)) (extends d p (σ.setting d p) lp (λ _. refl) w) ∙ sym mine) ∙ mine)
      | inr theirs ↦
          (let turned : not (owner F d) ≡ o = ap not theirs ∙ not_not o in
          level_lost F d p (λ s l. worth k (suc d) (omega arith) (p ++ s) (simp length-append (omega arith)) (extends d p s lp (λ mine. absurd (not_self o (sym theirs ∙ mine))) w) ∙ sym turned) ∙ turned)
    ]

pub positions_decided : PositionsDecided
positions_decided F o d l p lp =
    (λ v. (best F o, best_wins F o d l p v), λ x. worth F o x.0 (blocks F - d) d (omega arith) p lp x.1)

pub strategies_decide : StrategiesDecide
strategies_decide F = (positions_decided F true 0 (omega arith) [] refl, positions_decided F false 0 (omega arith) [] refl)

pub openings_decided : OpeningsDecided
openings_decided F some s l =
    let at = positions_decided F F.first 1 some s (omega arith) in
    (λ x. at.0 x.wins, λ y. record { fits = l; wins = at.1 y })
