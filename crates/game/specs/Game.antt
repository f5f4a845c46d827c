-- The value of a prenex formula: block by block as it is usually defined, and on an alternating prefix.
use Rattle.std.specs.Prelude.{◌≡◌, ℕ, zero, suc, ◌<◌, Bool, true, false, not, ◌&&◌, ◌||◌, List, [], ◌∷◌, ◌++◌, map, length, slice_index_or}
use Rattle.game.specs.Prefix.{Player, Formula, owner, rest, size}

-- whether some setting of k variables passes
abbrev pub some_of : ℕ → (List Bool → Bool) → Bool
some_of zero f = f []
some_of (suc k) f = some_of k (λ s. f (false ∷ s)) || some_of k (λ s. f (true ∷ s))

-- whether every setting of k variables passes
abbrev pub every_of : ℕ → (List Bool → Bool) → Bool
every_of zero f = f []
every_of (suc k) f = every_of k (λ s. f (false ∷ s)) && every_of k (λ s. f (true ∷ s))

-- A block: its owner and its number of variables.
pub record Block : Type 0 where
  pub player : Player
  pub width : ℕ

-- an existential block is true if some setting passes, a universal one if every setting does
abbrev pub quantified : Player → ℕ → (List Bool → Bool) → Bool
quantified true = some_of
quantified false = every_of

-- the value of the blocks that are left after the play t: with none left, that of the matrix
abbrev pub game_value : (List Bool → Bool) → List Block → List Bool → Bool
game_value m [] t = m t
game_value m (b ∷ bs) t = quantified b.player b.width (λ s. game_value m bs (t ++ s))

-- the same where the owners alternate, from the owner of the first block left and the blocks' sizes
abbrev pub value : (List Bool → Bool) → Player → List ℕ → List Bool → Bool
value m o [] t = m t
value m true (k ∷ ks) t = some_of k (λ s. value m false ks (t ++ s))
value m false (k ∷ ks) t = every_of k (λ s. value m true ks (t ++ s))

-- the value after the play t of the first d blocks
abbrev pub value_at : Formula → ℕ → List Bool → Bool
value_at F d t = value F.matrix (owner F d) (rest F d) t

-- An opening: a setting of the first block with which its owner wins.
pub record Opening (F : Formula) (s : List Bool) : Type 0 where
  pub fits : length s ≡ size F 0
  pub wins : value_at F 1 s ≡ F.first

-- neighbouring blocks have different owners
abbrev pub Alternates : List Block → Type 0
Alternates [] = Unit {0}
Alternates (b ∷ []) = Unit {0}
Alternates (b ∷ c ∷ bs) = (c.player ≡ not b.player) × Alternates (c ∷ bs)

-- the formula of a list of blocks, one at least
abbrev pub formula_of : (List Bool → Bool) → Block → List Block → Formula
formula_of m b bs = record { first = b.player; sizes = map (λ c. c.width) (b ∷ bs); matrix = m }

-- What the formula of alternating blocks has in common with them: its value, each owner and each size.
pub record Same (m : List Bool → Bool) (b : Block) (bs : List Block) : Type 0 where
  pub values : value_at (formula_of m b bs) 0 [] ≡ game_value m (b ∷ bs) []
  pub owners : (d : ℕ) → d < length (b ∷ bs) → owner (formula_of m b bs) d ≡ (slice_index_or (b ∷ bs) d b).player
  pub sizes : (d : ℕ) → d < length (b ∷ bs) → size (formula_of m b bs) d ≡ (slice_index_or (b ∷ bs) d b).width

-- The game on an alternating prefix is that of its blocks.
abbrev pub SameGame : Type 0
SameGame = (m : List Bool → Bool) (b : Block) (bs : List Block) → Alternates (b ∷ bs) → Same m b bs
