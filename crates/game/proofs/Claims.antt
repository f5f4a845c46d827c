-- What is claimed of every run, read off the invariants.
use Rattle.std.proofs.Common.{◌≡◌, ℕ, zero, suc, pred, ◌+◌, ◌*◌, ◌^◌, ◌<◌, ◌≤◌, Bool, not, List, [], ◌∷◌, length, sym, refl, ap, ◌∙◌, subst, mul-le-mul_right, mul_comm, add-mul, mul-suc, arith}
use Rattle.game.specs.Prefix.{Formula, blocks, owner, upto, sum_to, positions}
use Rattle.game.specs.Game.{value_at}
use Rattle.game.specs.Run.{Tests, Phase, playing, lost, over, Rule, Stuck, State, late}
use Rattle.game.specs.Claims.{RefutationsSound, VerdictsRight, OpeningsWin, TurnsCounted, TurnsBounded, TurnsLeft, Verdict}
use Rattle.game.specs.Claims.{GrantsSuffice, Within, total, TurnsPaid, PlaysPass, RulesKept}
use Rattle.game.proofs.Settings.{not_not, not_self}
use Rattle.game.proofs.Strategies.{positions_decided}
use Rattle.game.proofs.Sound.{stuck_lost, decided}
use Rattle.game.proofs.Runs.{Adds, Good, good, enough}

late_most : (w : Phase) → late w ≤ 1
late_most playing = omega arith
late_most lost = omega arith
late_most (over v) = omega arith

-- from a loss on, the level is stuck
late_stuck : (F : Formula) (w : Phase) (d : ℕ) (p : List Bool) (A : Tests) → late w ≡ 1 → Adds F w d p A → Stuck F d p A
late_stuck F playing d p A e x = absurd (omega arith)
late_stuck F lost d p A e x = x
late_stuck F (over v) d p A e x = x.0

module _ (F : Formula) (some : 0 < blocks F) (Pick : Rule) (s : State F Pick) where
  here : Good F Pick s.turns s.settlements s.phase s.depth s.play s.tests
  here = good F Pick some s.reached

  pub stuck_here : late s.phase ≡ 1 → Stuck F s.depth s.play s.tests
  stuck_here e = late_stuck F s.phase s.depth s.play s.tests e here.adds

  lost_here : late s.phase ≡ 1 → value_at F s.depth s.play ≡ not (owner F s.depth)
  lost_here e = stuck_lost F s.tests here.sound s.depth here.deep s.play here.long (stuck_here e)

  judged : (v : Bool) → s.phase ≡ over v → (s.depth ≤ 1) × (v ≡ not (owner F s.depth))
  judged v e =
      let x : Adds F (over v) s.depth s.play s.tests = subst (λ w. Adds F w s.depth s.play s.tests) e here.adds in
      (x.1, x.2)

  verdict_value : (v : Bool) → s.phase ≡ over v → v ≡ value_at F 0 []
  verdict_value v e = (judged v e).1 ∙ decided F s.depth s.play (judged v e).0 here.long (lost_here (ap late e))

  left : s.phase ≡ playing → s.turns ≤ 3 * positions F + 1
  left e = omega (arith, enough F Pick here, ap late e)

pub refutations_sound : RefutationsSound
refutations_sound F some Pick s = (here F some Pick s).sound

pub verdicts_right : VerdictsRight
verdicts_right F some Pick x =
    let value = verdict_value F some Pick x.state x.word x.said in
    (value, (positions_decided F x.word 0 (omega arith) [] refl).0 (sym value))

pub openings_win : OpeningsWin
openings_win F some Pick s late one = record {
  fits = omega (arith, (here F some Pick s).long, ap (upto F) one);
  wins = subst (λ d. value_at F d s.play ≡ not (owner F d)) one (lost_here F some Pick s late) ∙ not_not F.first;
}

pub turns_counted : TurnsCounted
turns_counted F some Pick s = (here F some Pick s).turns

pub turns_bounded : TurnsBounded
turns_bounded F some Pick s = omega (arith, enough F Pick (here F some Pick s), late_most s.phase)

pub turns_left : TurnsLeft
turns_left = left

-- with one block that its owner wins there is no settlement, and the verdict comes by a loss at level 2
pub one_block : (F : Formula) → blocks F ≡ 1 → value_at F 0 [] ≡ F.first → (Pick : Rule) (x : Verdict F Pick) → x.state.turns ≡ 3 * positions F + 2
one_block F one own Pick x = deeper s.depth refl
  where
    s : State F Pick
    s = x.state

    some : 0 < blocks F
    some = omega arith

    none : positions F ≡ 0
    none = ap (λ n. sum_to (pred n) (λ j. 2 ^ upto F j)) one

    deeper : (d : ℕ) → s.depth ≡ d → s.turns ≡ 3 * positions F + 2
    deeper zero h = absurd (not_self F.first (ap (λ d. not (owner F d)) (sym h) ∙ sym (judged F some Pick s x.word x.said).1 ∙ verdict_value F some Pick s x.word x.said ∙ own))
    deeper (suc d) h = omega (arith, none, (here F some Pick s).paid, (here F some Pick s).turns, (judged F some Pick s x.word x.said).0, ap late x.said)

pub grants_suffice : GrantsSuffice
grants_suffice F some Pick s e c used h =
    let most = 3 * positions F + 1 in
    let more : 3 * positions F + 2 ≡ most + 1 = omega arith in
    rw (more, add-mul most 1 c) (omega (arith, mul-le-mul_right c (left F some Pick s e), mul_comm c s.turns))

total_low : (c : ℕ) (xs : List ℕ) → Within c xs → length xs ≤ total xs
total_low c [] h = omega arith
total_low c (x ∷ xs) h = omega (arith, total_low c xs h.2)

total_top : (c : ℕ) (xs : List ℕ) → Within c xs → total xs ≤ c * length xs
total_top c [] h = omega arith
total_top c (x ∷ xs) h = omega (arith, total_top c xs h.2, mul-suc c (length xs))

pub turns_paid : TurnsPaid
turns_paid F some Pick s c costs count within = (
  omega (arith, total_low c costs within),
  λ grants next granted e most. omega (arith, grants_suffice F some Pick s e c (total costs) (rw (← count) (total_top c costs within))),
)

pub plays_pass : PlaysPass
plays_pass F some Pick s = let g = here F some Pick s in (g.deep, g.long, g.alive)

pub rules_kept : RulesKept
rules_kept F some Pick steady s = (here F some Pick s).kept steady
