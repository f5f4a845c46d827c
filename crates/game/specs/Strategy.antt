-- Strategies, and what they have to do with the value.
use Rattle.std.specs.Prelude.{◌≡◌, ℕ, suc, ◌<◌, ◌≤◌, Bool, true, false, ◌↔◌, List, [], ◌++◌, length, take}
use Rattle.game.specs.Prefix.{Player, existential, universal, Formula, blocks, owner, size, upto}
use Rattle.game.specs.Game.{value_at, Opening}

-- A strategy of a player: from the play before each block of its own, a setting of that block.
pub record Strategy (F : Formula) (o : Player) : Type 0 where
  pub setting : ℕ → List Bool → List Bool
  pub fits : (d : ℕ) → d < blocks F → owner F d ≡ o → (t : List Bool) → length t ≡ upto F d → length (setting d t) ≡ size F d

-- The full play t follows the strategy after the first d blocks: at each block of its player, what is played is what the strategy gives.
abbrev pub Follows : (F : Formula) (o : Player) → Strategy F o → ℕ → List Bool → Type 0
Follows F o σ d t = (j : ℕ) → d ≤ j → j < blocks F → owner F j ≡ o →
    take (upto F (suc j)) t ≡ take (upto F j) t ++ σ.setting j (take (upto F j) t)

-- The strategy wins after the play p of the first d blocks: every full play that begins with p and then follows it gives the matrix the value that its player wants.
abbrev pub WinsFrom : (F : Formula) (o : Player) → Strategy F o → ℕ → List Bool → Type 0
WinsFrom F o σ d p = (t : List Bool) → length t ≡ upto F (blocks F) → take (upto F d) t ≡ p → Follows F o σ d t → F.matrix t ≡ o

-- the player has a strategy that wins after the play p of the first d blocks
abbrev pub HasWin : Formula → Player → ℕ → List Bool → Type 0
HasWin F o d p = (σ : Strategy F o) × WinsFrom F o σ d p

-- After any play, the value is what a player wants exactly if that player has a strategy that wins from there.
abbrev pub PositionsDecided : Type 0
PositionsDecided = (F : Formula) (o : Player) (d : ℕ) → d ≤ blocks F → (p : List Bool) → length p ≡ upto F d → (value_at F d p ≡ o) ↔ HasWin F o d p

-- The value is true exactly if the existential player has a winning strategy, false exactly if the universal player has one.
abbrev pub StrategiesDecide : Type 0
StrategiesDecide = (F : Formula) →
    ((value_at F 0 [] ≡ true) ↔ HasWin F existential 0 []) × ((value_at F 0 [] ≡ false) ↔ HasWin F universal 0 [])

-- An opening is a setting of the first block after which its owner has a winning strategy.
abbrev pub OpeningsDecided : Type 0
OpeningsDecided = (F : Formula) → 0 < blocks F → (s : List Bool) → length s ≡ size F 0 → Opening F s ↔ HasWin F F.first 1 s
