-- What holds of every run, by whatever rule for moves. S is `positions F`.
use Rattle.std.specs.Prelude.{◌≡◌, ℕ, suc, ◌+◌, ◌*◌, ◌<◌, ◌≤◌, Bool, true, false, not, ◌⊎◌, List, [], ◌∷◌, length, take}
use Rattle.game.specs.Prefix.{Formula, blocks, owner, upto, part, positions}
use Rattle.game.specs.Game.{value_at, Opening}
use Rattle.game.specs.Strategy.{HasWin}
use Rattle.game.specs.Run.{Tests, playing, lost, over, Rule, any, Steady, Stuck, Moves, Possible, Settles, State, late}

-- A play at which a level's test fails is lost for that level's owner.
abbrev pub RefutationsSound : Type 0
RefutationsSound = (F : Formula) → 0 < blocks F → (Pick : Rule) (s : State F Pick) →
    (d : ℕ) → d ≤ blocks F → (t : List Bool) → length t ≡ upto F (suc d) → s.tests (suc d) t ≡ false → value_at F (suc d) t ≡ not (owner F d)

-- A run that has reached a verdict.
pub record Verdict (F : Formula) (Pick : Rule) : Type 0 where
  pub state : State F Pick
  pub word : Bool
  pub said : state.phase ≡ over word

-- A verdict is the formula's value, and the player whom it names has a winning strategy.
abbrev pub VerdictsRight : Type 0
VerdictsRight = (F : Formula) → 0 < blocks F → (Pick : Rule) (x : Verdict F Pick) → (x.word ≡ value_at F 0 []) × HasWin F x.word 0 []

-- After a loss at level 2, and after the verdict that follows it, the first block's play is an opening.
abbrev pub OpeningsWin : Type 0
OpeningsWin = (F : Formula) → 0 < blocks F → (Pick : Rule) (s : State F Pick) → late s.phase ≡ 1 → s.depth ≡ 1 → Opening F s.play

-- Turns come by threes to a settlement: there are 3 × settlements + level - 1 of them, and 1 more from a loss until its settlement and after the verdict.
abbrev pub TurnsCounted : Type 0
TurnsCounted = (F : Formula) → 0 < blocks F → (Pick : Rule) (s : State F Pick) → s.turns ≡ 3 * s.settlements + s.depth + late s.phase

-- Every run has at most 3 S + 2 turns.
abbrev pub TurnsBounded : Type 0
TurnsBounded = (F : Formula) → 0 < blocks F → (Pick : Rule) (s : State F Pick) → s.turns ≤ 3 * positions F + 2

-- While a ticket is out it has had at most 3 S + 1.
abbrev pub TurnsLeft : Type 0
TurnsLeft = (F : Formula) → 0 < blocks F → (Pick : Rule) (s : State F Pick) → s.phase ≡ playing → s.turns ≤ 3 * positions F + 1

-- The bound is met: on one block that its owner wins, some run reaches a verdict, and every run that does takes 3 S + 2 turns.
abbrev pub BoundMet : Type 0
BoundMet = (F : Formula) → blocks F ≡ 1 → value_at F 0 [] ≡ F.first →
    Verdict F any × ((Pick : Rule) (x : Verdict F Pick) → x.state.turns ≡ 3 * positions F + 2)

-- Where at most c steps a turn are used and a ticket is out, (3 S + 2) × c steps cover a further turn.
abbrev pub GrantsSuffice : Type 0
GrantsSuffice = (F : Formula) → 0 < blocks F → (Pick : Rule) (s : State F Pick) → s.phase ≡ playing →
    (c used : ℕ) → used ≤ c * s.turns → used + c ≤ (3 * positions F + 2) * c

-- each of the turns' costs is at least 1 and at most c
abbrev pub Within : ℕ → List ℕ → Type 0
Within c [] = Unit {0}
Within c (x ∷ xs) = (1 ≤ x) × (x ≤ c) × Within c xs

-- the sum of the costs
abbrev pub total : List ℕ → ℕ
total [] = 0
total (x ∷ xs) = x + total xs

-- Where each turn costs at least 1 and at most c steps, there are no more turns than steps used, and with grants of (3 S + 2) × c no turn is left unpaid.
abbrev pub TurnsPaid : Type 0
TurnsPaid = (F : Formula) → 0 < blocks F → (Pick : Rule) (s : State F Pick) → (c : ℕ) (costs : List ℕ) → length costs ≡ s.turns → Within c costs →
    (s.turns ≤ total costs) ×
    ((grants next : ℕ) → (3 * positions F + 2) * c ≤ grants → s.phase ≡ playing → next ≤ c → total costs + next ≤ grants)

-- The play is of the blocks below the level, and every part of it still passes its level's test.
abbrev pub PlaysPass : Type 0
PlaysPass = (F : Formula) → 0 < blocks F → (Pick : Rule) (s : State F Pick) →
    (s.depth ≤ blocks F) × (length s.play ≡ upto F s.depth) × ((j : ℕ) → j < s.depth → s.tests (suc j) (take (upto F (suc j)) s.play) ≡ true)

-- Every block's play still meets the rule, with the present test of its level.
abbrev pub RulesKept : Type 0
RulesKept = (F : Formula) → 0 < blocks F → (Pick : Rule) → Steady F Pick → (s : State F Pick) (j : ℕ) → j < s.depth →
    Pick j (take (upto F j) s.play) (s.tests (suc j)) (part F j s.play) ≡ true

-- While a ticket is out, there is a move or the level has lost.
abbrev pub NeverStuck : Type 0
NeverStuck = (F : Formula) → 0 < blocks F → (Pick : Rule) → Possible F Pick → (s : State F Pick) → s.phase ≡ playing →
    Moves F Pick s.depth s.play s.tests ⊎ Stuck F s.depth s.play s.tests

-- After a loss at level 3 or above there is a settlement.
abbrev pub AlwaysSettles : Type 0
AlwaysSettles = (F : Formula) → 0 < blocks F → (Pick : Rule) (s : State F Pick) (d : ℕ) → s.phase ≡ lost → s.depth ≡ suc (suc d) →
    (B : Tests) × Settles F d s.play s.tests B

-- Some run reaches a verdict.
abbrev pub VerdictsExist : Type 0
VerdictsExist = (F : Formula) → 0 < blocks F → (Pick : Rule) → Possible F Pick → Verdict F Pick

-- Where no further rule is set, both conditions on rules hold.
abbrev pub AnyAllows : Type 0
AnyAllows = (F : Formula) → Steady F any × Possible F any
