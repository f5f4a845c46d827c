-- The prefix: how many variables its parts have, and one block of the game, where a setting that wins wins it and it is lost where every setting loses.
use Rattle.std.proofs.Common.{◌≡◌, ℕ, zero, suc, pred, ◌-◌, ◌<◌, ◌≤◌, Bool, true, false, not, List, [], ◌∷◌, ◌++◌, length, take, drop, refl, ap, ◌∙◌, append-nil, arith, length-drop, length-take-le, take_all, drop_at}
use native.Mathlib.Decide.{dec_le}
use lib.Seq.{take-append-le, drop-append-le}
use Rattle.game.specs.Prefix.{Formula, blocks, owner, head0, tail, rest, size, upto, part, LastLevel}
use Rattle.game.specs.Game.{value, value_at}
use Rattle.game.proofs.Settings.{some_hit, every_hit, some_miss, every_miss}

-- a setting with which the first block's owner wins
wins : (m : List Bool → Bool) (o : Bool) (ks : List ℕ) (t s : List Bool) → length s ≡ head0 ks →
    value m (not o) (tail ks) (t ++ s) ≡ o → value m o ks t ≡ o
wins m o [] t [] e h = rw append-nil at h
wins m o [] t (x ∷ s) e h = absurd (omega arith)
wins m true (k ∷ ks) t s e h = rw (← e) (some_hit s (λ r. value m false ks (t ++ r)) h)
wins m false (k ∷ ks) t s e h = rw (← e) (every_hit s (λ r. value m true ks (t ++ r)) h)

-- every setting loses for the first block's owner
loses : (m : List Bool → Bool) (o : Bool) (ks : List ℕ) (t : List Bool) →
    ((s : List Bool) → length s ≡ head0 ks → value m (not o) (tail ks) (t ++ s) ≡ not o) → value m o ks t ≡ not o
loses m o [] t h = rw append-nil at (h [] refl)
loses m true (k ∷ ks) t h = some_miss k (λ r. value m false ks (t ++ r)) h
loses m false (k ∷ ks) t h = every_miss k (λ r. value m true ks (t ++ r)) h

pub empty : {A : Type 0} (l : List A) → length l ≡ 0 → l ≡ []
empty [] e = refl
empty (x ∷ l) e = absurd (omega arith)

tail_length : (ks : List ℕ) → length (tail ks) ≡ pred (length ks)
tail_length [] = refl
tail_length (k ∷ ks) = refl

module _ (F : Formula) where
  -- the same at level d + 1
  pub level_won : (d : ℕ) (t s : List Bool) → length s ≡ size F d → value_at F (suc d) (t ++ s) ≡ owner F d → value_at F d t ≡ owner F d
  level_won d = wins F.matrix (owner F d) (rest F d)

  pub level_lost : (d : ℕ) (t : List Bool) → ((s : List Bool) → length s ≡ size F d → value_at F (suc d) (t ++ s) ≡ not (owner F d)) → value_at F d t ≡ not (owner F d)
  level_lost d = loses F.matrix (owner F d) (rest F d)

  -- more blocks have no fewer variables
  pub upto_mono : (i d : ℕ) → i ≤ d → upto F i ≤ upto F d
  upto_mono i zero h = let e : i ≡ 0 = omega arith in rw e (omega arith)
  upto_mono i (suc d) h =
      elim (dec_le i d) [
        | yes l ↦ omega (arith, upto_mono i d l)
        | no g ↦ (let e : i ≡ suc d = omega arith in rw e (omega arith))
      ]

  rest_length : (j : ℕ) → length (rest F j) ≡ blocks F - j
  rest_length zero = omega arith
  rest_length (suc j) = omega (arith, tail_length (rest F j), rest_length j)

  -- past the last block nothing is left
  pub no_size : (j : ℕ) → blocks F ≤ j → size F j ≡ 0
  no_size j h = rw (empty (rest F j) (omega (arith, rest_length j)))

  pub at_end : (j : ℕ) → blocks F ≤ j → (t : List Bool) → value_at F j t ≡ F.matrix t
  at_end j h t = rw (empty (rest F j) (omega (arith, rest_length j)))

  -- what was played before stays as a play grows
  pub front_stays : (j d : ℕ) (p s : List Bool) → j ≤ d → length p ≡ upto F d → take (upto F j) (p ++ s) ≡ take (upto F j) p
  front_stays j d p s l e = take-append-le (upto F j) p s (omega (arith, upto_mono j d l))

  pub part_long : (j d : ℕ) (p : List Bool) → j < d → length p ≡ upto F d → length (part F j p) ≡ size F j
  part_long j d p l e =
      let h : upto F (suc j) ≤ upto F d = upto_mono (suc j) d l in
      length-take-le (size F j) (drop (upto F j) p) (simp length-drop (omega arith))

  pub part_stays : (j d : ℕ) (p s : List Bool) → j < d → length p ≡ upto F d → part F j (p ++ s) ≡ part F j p
  part_stays j d p s l e =
      let h : upto F (suc j) ≤ upto F d = upto_mono (suc j) d l in
      ap (take (size F j)) (drop-append-le (upto F j) p s (omega arith))
      ∙ take-append-le (size F j) (drop (upto F j) p) s (simp length-drop (omega arith))

  pub part_new : (d : ℕ) (p s : List Bool) → length p ≡ upto F d → length s ≡ size F d → part F d (p ++ s) ≡ s
  part_new d p s e l = ap (take (size F d)) (drop_at p s (upto F d) e) ∙ take_all (size F d) s (omega arith)

pub last_level : LastLevel
last_level F some = let e : blocks F ≡ suc (pred (blocks F)) = omega arith in (no_size F (blocks F) (omega arith), ap (owner F) e)
