-- The variables of blocks that are put together. Assumes nothing.
use Rattle.std.proofs.Common.{◌≡◌, ℕ, zero, suc, ◌+◌, ◌≤◌, List, [], ◌∷◌, ◌++◌, take, sym, refl, ap, ◌∙◌, add_assoc, zero-add, arith}
use Rattle.question.specs.declared.prefix.Block.{Block}
use Rattle.question.specs.Blocks.{block_at, total}

pub total_append : (bs cs : List Block) → total (bs ++ cs) ≡ total bs + total cs
unfolding total
total_append [] cs = sym (zero-add (total cs))
total_append (b ∷ bs) cs = ap (λ n. b.size + n) (total_append bs cs) ∙ sym (add_assoc b.size (total bs) (total cs))

pub total_push : (bs : List Block) (b : Block) → total (bs ++ b ∷ []) ≡ total bs + b.size
unfolding total
total_push bs b = total_append bs (b ∷ []) ∙ omega arith

pub total_within : (bs : List Block) (b : Block) (cs : List Block) → total bs + b.size ≤ total (bs ++ b ∷ cs)
unfolding total
total_within bs b cs = omega (arith, total_append bs (b ∷ cs))

-- one block more: past the last there is none
pub total_take_more : (bs : List Block) (i : ℕ) → total (take (suc i) bs) ≡ total (take i bs) + (block_at bs i).size
unfolding total
total_take_more [] zero = refl
total_take_more [] (suc i) = refl
total_take_more (b ∷ bs) zero = omega arith
total_take_more (b ∷ bs) (suc i) = ap (λ n. b.size + n) (total_take_more bs i) ∙ sym (add_assoc b.size (total (take i bs)) (block_at bs i).size)

pub total_take_le : (bs : List Block) (i : ℕ) → total (take i bs) ≤ total bs
unfolding total
total_take_le [] zero = omega arith
total_take_le [] (suc i) = omega arith
total_take_le (b ∷ bs) zero = omega arith
total_take_le (b ∷ bs) (suc i) = omega (arith, total_take_le bs i)
