-- Blocks of a prefix, outermost first.
use Rattle.std.specs.Prelude.{ℕ, suc, ◌+◌, ◌<◌, ◌≤◌, ◌≢◌, List, [], ◌∷◌, length, slice_index_or}
use Rattle.question.specs.declared.prefix.Quantifier.TheVariants.{Existential}
use Rattle.question.specs.declared.prefix.Block.{Block}

-- the block at a place, counted from 0
abbrev pub block_at : List Block → ℕ → Block
block_at bs i = slice_index_or bs i (record { quantifier = Existential; size = 0 })

-- how many variables the blocks have
unfoldable pub total : List Block → ℕ
total [] = 0
total (b ∷ bs) = b.size + total bs

-- each block has 1 to 40 variables
abbrev pub Sized : List Block → Type 0
Sized bs = (i : ℕ) → i < length bs → (1 ≤ (block_at bs i).size) × ((block_at bs i).size ≤ 40)

-- neighbours have different quantifiers
abbrev pub Alternating : List Block → Type 0
Alternating bs = (i : ℕ) → suc i < length bs → (block_at bs i).quantifier ≢ (block_at bs (suc i)).quantifier
