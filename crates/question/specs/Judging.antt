-- What judging bytes gives: the formula that they encode, or the first rule that they break.
use Rattle.std.specs.Prelude.{◌≡◌, ℕ, zero, suc, List, [], ◌∷◌, ◌++◌, length, drop, Some, Ok, Err, Result}
use Rattle.valuation.specs.Circuit.{Pair}
use Rattle.circuit.specs.declared.Literal.{Literal}
use Rattle.question.specs.declared.prefix.Block.{Block}
use Rattle.question.specs.declared.records.Refusal.{Refusal}
use Rattle.question.specs.declared.records.Refusal.TheVariants.{Incomplete}
use Rattle.question.specs.declared.records.Record.{Record}
use Rattle.question.specs.declared.records.Record.TheVariants.{Block as block, Gate as gate, Output as output}
use Rattle.question.specs.Formula.{Formula, Good, WellFormed, Encodes, written, block_bytes, gate_bytes, output_bytes}
use Rattle.question.specs.declared.frame.Frame.{Frame}
use Rattle.question.specs.Rules.{blocks_of, rules, first, next}

-- a gate's two literals as numbers
abbrev pub pair_of : Literal → Literal → Pair
pair_of l r = record { left = l.code; right = r.code }

-- the bytes of a record
abbrev pub bytes_of : Record → List ℕ
bytes_of (block b) = block_bytes b
bytes_of (gate l r) = gate_bytes (pair_of l r)
bytes_of (output l) = output_bytes l.code

-- the record that was read stands at the front
abbrev pub Front : List ℕ → Result Record Refusal → Type 0
Front rest (Ok x) = rest ≡ bytes_of x ++ drop (length (bytes_of x)) rest
Front rest (Err why) = Unit {0}

-- goes on after a record, or ends
abbrev pub after : (List Block → List Pair → List ℕ → Result Formula Refusal) → List Block → List Pair → List ℕ → Result Record Refusal → Result Formula Refusal
after more bs gs rest (Err why) = Err why
after more bs gs rest (Ok (block b)) = more (bs ++ b ∷ []) gs (drop 7 rest)
after more bs gs rest (Ok (gate l r)) = more bs (gs ++ pair_of l r ∷ []) (drop 8 rest)
after more bs gs rest (Ok (output l)) = Ok (record { blocks = bs; gates = gs; output = l.code })

-- what at most n records give after these blocks and gates
unfoldable pub judged : ℕ → List Block → List Pair → List ℕ → Result Formula Refusal
judged zero bs gs rest = Err Incomplete
judged (suc n) bs gs rest = after (judged n) bs gs rest (next bs (length gs) rest)

-- the whole: there are no more records than bytes
abbrev pub judgement : List ℕ → Result Formula Refusal
judgement bytes = judged (suc (length bytes)) [] [] bytes

-- the bytes are good records up to some place, and what follows breaks a rule and none that is tested before it
pub record Breaks (bytes : List ℕ) (why : Refusal) : Type 0 where
  pub blocks : List Block
  pub gates : List Pair
  pub rest : List ℕ
  pub split : bytes ≡ written blocks gates ++ rest
  pub good : Good blocks gates
  pub broken : first (rules blocks (length gates) rest) ≡ Some why

-- a judgement that is right: the formula is well formed and the bytes encode it, or they break the rule
abbrev pub Right : List ℕ → Result Formula Refusal → Type 0
Right bytes (Ok f) = WellFormed f × Encodes f bytes
Right bytes (Err why) = Breaks bytes why

-- the frame of the formula that the definition gives, and it is right
pub record Outlined (bytes : List ℕ) (o : Frame) : Type 0 where
  pub formula : Formula
  pub judgement : judgement bytes ≡ Ok formula
  pub right : Right bytes (Ok formula)
  pub blocks : blocks_of o.prefix ≡ formula.blocks
  pub gates : o.gates ≡ length formula.gates
  pub output : o.output.code ≡ formula.output

-- what judging bytes in code promises
abbrev pub Outlines : List ℕ → Result Frame Refusal → Type 0
Outlines bytes (Ok o) = Outlined bytes o
Outlines bytes (Err why) = (judgement bytes ≡ Err why) × Right bytes (Err why)
