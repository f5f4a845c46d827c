-- The blocks of a question and the levels of its game.
use Rattle.std.proofs.Common.{◌≡◌, ℕ, zero, suc, ◌+◌, ◌^◌, ◌<◌, ◌≤◌, Bool, not, ◌≢◌, List, [], ◌∷◌, map, length, drop, sym, refl, ap, ◌∙◌, ap₂, arith, pow_mono}
use Rattle.std.proofs.lemmas.List.{length-map, take_all}
use Rattle.game.specs.Prefix.{blocks, owner, size, upto, rest, head0, tail}
use Rattle.game.specs.Game.{game_value, value_at, Alternates}
use Rattle.game.proofs.Blocks.{same_game}
use Rattle.question.specs.declared.prefix.Quantifier.{Quantifier}
use Rattle.question.specs.declared.prefix.Quantifier.TheVariants.{Existential, Universal}
use Rattle.question.specs.declared.prefix.Block.{Block}
use Rattle.question.specs.Blocks.{block_at, total, Sized, Alternating}
use Rattle.question.specs.Formula.{Formula}
use Rattle.search.specs.Answers.{ceiling}
use Rattle.runs.specs.State.{before, width}
use Rattle.runs.specs.Settle.{is_universal, universal_at}
use Rattle.runs.specs.Law.{player_of, matrix_of, as_block, question_value, game_of, widest}
use Rattle.runs.proofs.Shape.{before_suc}

-- the sizes that are left
abbrev sizes_of : List Block → List ℕ
sizes_of bs = map (λ b. b.size) bs

tail_drop : (bs : List Block) (d : ℕ) → tail (sizes_of (drop d bs)) ≡ sizes_of (drop (suc d) bs)
tail_drop [] zero = refl
tail_drop [] (suc d) = refl
tail_drop (b ∷ bs) zero = refl
tail_drop (b ∷ bs) (suc d) = tail_drop bs d

rest_is : (f : Formula) (d : ℕ) → rest (game_of f) d ≡ sizes_of (drop d f.blocks)
rest_is f zero = refl
rest_is f (suc d) = ap tail (rest_is f d) ∙ tail_drop f.blocks d

head_drop : (bs : List Block) (d : ℕ) → head0 (sizes_of (drop d bs)) ≡ width bs d
head_drop [] zero = refl
head_drop [] (suc d) = refl
head_drop (b ∷ bs) zero = refl
head_drop (b ∷ bs) (suc d) = head_drop bs d

-- a level's size is its block's
pub size_is : (f : Formula) (d : ℕ) → size (game_of f) d ≡ width f.blocks d
size_is f d = ap head0 (rest_is f d) ∙ head_drop f.blocks d

-- the variables below a level
pub upto_is : (f : Formula) (d : ℕ) → upto (game_of f) d ≡ before f.blocks d
unfolding total
upto_is f zero = refl
upto_is f (suc d) = ap₂ (λ a b. a + b) (upto_is f d) (size_is f d) ∙ sym (before_suc f.blocks d)

pub blocks_is : (f : Formula) → blocks (game_of f) ≡ length f.blocks
blocks_is f = length-map f.blocks (λ b. b.size)

-- all variables
pub all_is : (f : Formula) → upto (game_of f) (blocks (game_of f)) ≡ total f.blocks
all_is f = upto_is f (blocks (game_of f)) ∙ ap total (take_all (blocks (game_of f)) f.blocks (omega (arith, blocks_is f)))

-- no block is larger than the largest
pub width_widest : (bs : List Block) (d : ℕ) → width bs d ≤ widest bs
width_widest [] zero = omega arith
width_widest [] (suc d) = omega arith
width_widest (b ∷ bs) zero = omega arith
width_widest (b ∷ bs) (suc d) = omega (arith, width_widest bs d)

-- .. and none has more than 40 variables
pub widest_low : (bs : List Block) → Sized bs → widest bs ≤ 40
widest_low [] sized = omega arith
widest_low (b ∷ bs) sized = omega (arith, sized 0 (omega arith), widest_low bs (λ i h. sized (suc i) (omega arith)))

pub ceiling_mono : (a b : ℕ) → a ≤ b → ceiling a ≤ ceiling b
ceiling_mono a b h = let p : 2 ^ (a + 1) ≤ 2 ^ (b + 1) = pow_mono (omega arith) in omega arith

-- whose levels are universal
universal_first : (q : Quantifier) → is_universal q ≡ not (player_of q)
universal_first Existential = refl
universal_first Universal = refl

pub owner_is : (f : Formula) (d : ℕ) → universal_at f.blocks d ≡ not (owner (game_of f) d)
owner_is f zero = universal_first (block_at f.blocks 0).quantifier
owner_is f (suc d) = ap not (owner_is f d)

other : (a b : Quantifier) → a ≢ b → player_of b ≡ not (player_of a)
other Existential Existential h = absurd (h refl)
other Existential Universal h = refl
other Universal Existential h = refl
other Universal Universal h = absurd (h refl)

-- a block's quantifier names its level's owner
pub player_is : (f : Formula) → Alternating f.blocks → (d : ℕ) → d < length f.blocks → owner (game_of f) d ≡ player_of (block_at f.blocks d).quantifier
player_is f alt zero h = refl
player_is f alt (suc d) h = ap not (player_is f alt d (omega arith)) ∙ sym (other _ _ (alt d h))

alternates : (bs : List Block) → Alternating bs → Alternates (map as_block bs)
alternates [] alt = tt
alternates (b ∷ []) alt = tt
alternates (b ∷ c ∷ bs) alt = (other _ _ (alt 0 (omega arith)), alternates (c ∷ bs) (λ i h. alt (suc i) (omega arith)))

same_sizes : (bs : List Block) → map (λ c. c.width) (map as_block bs) ≡ sizes_of bs
same_sizes [] = refl
same_sizes (b ∷ bs) = ap (λ ks. b.size ∷ ks) (same_sizes bs)

value_of : (m : List Bool → Bool) (bs : List Block) → 0 < length bs → Alternating bs →
    game_value m (map as_block bs) [] ≡ value_at (record { first = player_of (block_at bs 0).quantifier; sizes = sizes_of bs; matrix = m }) 0 []
value_of m [] h alt = absurd (omega arith)
value_of m (b ∷ bs) h alt =
    sym (same_game m (as_block b) (map as_block bs) (alternates (b ∷ bs) alt)).values
    ∙ ap (λ ks. value_at (record { first = player_of b.quantifier; sizes = ks; matrix = m }) 0 []) (same_sizes (b ∷ bs))

-- the question's value is the game's
pub question_is : (f : Formula) → 0 < length f.blocks → Alternating f.blocks → question_value f ≡ value_at (game_of f) 0 []
question_is f h alt = value_of (matrix_of f) f.blocks h alt
