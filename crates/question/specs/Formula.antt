-- A prenex quantified Boolean formula over and-gates, when it is well formed, and the bytes that encode it.
use Rattle.std.specs.Prelude.{◌≡◌, ℕ, ◌+◌, ◌*◌, ◌/◌, ◌%◌, ◌<◌, ◌≤◌, List, [], ◌∷◌, ◌++◌, length, take}
use Rattle.std.specs.List.{flat_map}
use Rattle.valuation.specs.Circuit.{Pair, Ascending}
use Rattle.question.specs.declared.prefix.Quantifier.{Quantifier}
use Rattle.question.specs.declared.prefix.Quantifier.TheVariants.{Existential, Universal}
use Rattle.question.specs.declared.prefix.Block.{Block}
use Rattle.question.specs.Blocks.{total, Sized, Alternating}

-- the blocks, outermost first; the gates, whose nodes follow those of the variables; the output literal, the matrix
pub record Formula : Type 0 where
  pub blocks : List Block
  pub gates : List Pair
  pub output : ℕ

-- the formula with these blocks, the first n gates of a table and this output
abbrev pub formula_of : List Block → List Pair → ℕ → ℕ → Formula
formula_of bs table n output = record { blocks = bs; gates = take n table; output = output }

-- blocks and gates that a well-formed formula may begin with
pub record Good (bs : List Block) (gs : List Pair) : Type 0 where
  pub few : length bs ≤ 16
  pub sized : Sized bs
  pub small : total bs ≤ 128
  pub alternating : Alternating bs
  pub few_gates : length gs ≤ 2000
  pub ascending : Ascending (1 + total bs) gs
  -- a gate only after some block
  pub blocks_first : 0 < length gs → 0 < length bs

-- a good beginning with some block, and an output literal of some node
pub record WellFormed (f : Formula) : Type 0 where
  pub good : Good f.blocks f.gates
  pub some : 0 < length f.blocks
  pub output : f.output < 2 * (1 + total f.blocks + length f.gates)

-- a number in two bytes, the low one first
abbrev pub two : ℕ → List ℕ
two n = n % 256 ∷ n / 256 ∷ []

-- the byte of a quantifier
abbrev pub byte_of : Quantifier → ℕ
byte_of Existential = 0
byte_of Universal = 1

-- the record of a block: the length of its body and its kind in two bytes each, then the body
abbrev pub block_bytes : Block → List ℕ
block_bytes b = 3 ∷ 0 ∷ 1 ∷ 0 ∷ byte_of b.quantifier ∷ two b.size

-- the record of a gate
abbrev pub gate_bytes : Pair → List ℕ
gate_bytes p = 4 ∷ 0 ∷ 2 ∷ 0 ∷ (two p.left ++ two p.right)

-- the record of the output
abbrev pub output_bytes : ℕ → List ℕ
output_bytes l = 2 ∷ 0 ∷ 3 ∷ 0 ∷ two l

-- the records of blocks, then those of gates
abbrev pub written : List Block → List Pair → List ℕ
written bs gs = flat_map block_bytes bs ++ flat_map gate_bytes gs

-- all records of a formula
abbrev pub encode : Formula → List ℕ
encode f = written f.blocks f.gates ++ output_bytes f.output

-- these bytes encode this formula
abbrev pub Encodes : Formula → List ℕ → Type 0
Encodes f bytes = bytes ≡ encode f
