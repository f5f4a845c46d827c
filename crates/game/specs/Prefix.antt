-- A prenex quantified Boolean formula, its players and its levels. Level d + 1 is reached at depth d, where d blocks are set.
use Rattle.std.specs.Prelude.{◌≡◌, ℕ, zero, suc, pred, ◌+◌, ◌^◌, ◌<◌, Bool, true, false, cond, not, List, [], ◌∷◌, length, take, drop}

-- A player is the value that it wants the matrix to have.
abbrev pub Player : Type 0
Player = Bool

-- the existential player
abbrev pub existential : Player
existential = true

-- the universal player
abbrev pub universal : Player
universal = false

-- whether the player wants this value
abbrev pub wants : Player → Bool → Bool
wants o v = cond o v (not v)

-- The owner of the first block, the number of variables of each block, and the matrix as a function of a full play.
-- A play of some blocks is the list of their variables' values, one block after the other; the owners alternate.
pub record Formula : Type 0 where
  pub first : Player
  pub sizes : List ℕ
  pub matrix : List Bool → Bool

-- the number of blocks
abbrev pub blocks : Formula → ℕ
blocks F = length F.sizes

-- the owner of level d + 1: past the last block too, there the player who does not own it
abbrev pub owner : Formula → ℕ → Player
owner F zero = F.first
owner F (suc d) = not (owner F d)

-- the first number of a list, or 0
abbrev pub head0 : List ℕ → ℕ
head0 [] = 0
head0 (k ∷ ks) = k

-- the list without its first number
abbrev pub tail : List ℕ → List ℕ
tail [] = []
tail (k ∷ ks) = ks

-- the sizes of the blocks after the first d
abbrev pub rest : Formula → ℕ → List ℕ
rest F zero = F.sizes
rest F (suc d) = tail (rest F d)

-- the number of variables of level d + 1: none past the last block
abbrev pub size : Formula → ℕ → ℕ
size F d = head0 (rest F d)

-- the number of variables of the first d blocks
abbrev pub upto : Formula → ℕ → ℕ
upto F zero = 0
upto F (suc d) = upto F d + size F d

-- The level past the last block has no variables, and belongs to the player who does not own the last block.
abbrev pub LastLevel : Type 0
LastLevel = (F : Formula) → 0 < blocks F → (size F (blocks F) ≡ 0) × (owner F (blocks F) ≡ not (owner F (pred (blocks F))))

-- of a play, the part that is level d + 1's block
abbrev pub part : Formula → ℕ → List Bool → List Bool
part F d p = take (size F d) (drop (upto F d) p)

-- g 1 + .. + g m
abbrev pub sum_to : ℕ → (ℕ → ℕ) → ℕ
sum_to zero g = 0
sum_to (suc m) g = sum_to m g + g (suc m)

-- how many plays there are of the first block, of the first two, .. and of all blocks but the last, together
abbrev pub positions : Formula → ℕ
positions F = sum_to (pred (blocks F)) (λ j. 2 ^ upto F j)
