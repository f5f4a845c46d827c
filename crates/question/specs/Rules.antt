-- The rules that the records of a question's bytes are judged by, in the order in which they are tested.
use Rattle.std.specs.Prelude.{◌≡◌, ℕ, ◌+◌, ◌-◌, ◌*◌, ◌≤◌, Bool, true, false, cond, not, ◌&&◌, ◌||◌, List, [], ◌∷◌, length, take, Some, None, Ok, Err, Option, Result, ◌==◌, nat_lt, slice_index}
use Rattle.question.specs.declared.prefix.Quantifier.{Quantifier}
use Rattle.question.specs.declared.prefix.Quantifier.TheVariants.{Existential, Universal}
use Rattle.question.specs.declared.prefix.Block.{Block}
use Rattle.question.specs.declared.prefix.Prefix.{Prefix}
use Rattle.question.specs.declared.records.Refusal.{Refusal}
use Rattle.question.specs.declared.records.Refusal.TheVariants.{Incomplete, Malformed, Misplaced, BlockLimits, SameQuantifier, TooManyGates, BadLiteral, TableSize}
use Rattle.question.specs.declared.records.Kind.{Kind}
use Rattle.question.specs.declared.records.Kind.TheVariants as kind
use Rattle.question.specs.declared.records.Record.{Record}
use Rattle.question.specs.declared.records.Record.TheVariants as record'
use Rattle.question.specs.Blocks.{block_at, total}

-- the blocks that a prefix holds
abbrev pub blocks_of : Prefix → List Block
blocks_of p = take p.count p.blocks

-- each refusal's number
abbrev pub number_of : Refusal → ℕ
number_of Incomplete = 1
number_of Malformed = 2
number_of Misplaced = 3
number_of BlockLimits = 4
number_of SameQuantifier = 5
number_of TooManyGates = 6
number_of BadLiteral = 7
number_of TableSize = 8

-- the number of two bytes, the low one first
abbrev pub word : List ℕ → ℕ → ℕ
word bs i = slice_index bs i + 256 * slice_index bs (i + 1)

-- the kind that a head names, where its length is right for it
abbrev pub kind_of : ℕ → ℕ → Option Kind
kind_of k n = cond (k == 1 && n == 3) (Some kind.Block) (cond (k == 2 && n == 4) (Some kind.Gate) (cond (k == 3 && n == 2) (Some kind.Output) None))

-- the kind of a number, if there is one
abbrev pub kind_read : ℕ → Result Kind Refusal
kind_read k = cond (k == 1) (Ok kind.Block) (cond (k == 2) (Ok kind.Gate) (cond (k == 3) (Ok kind.Output) (Err Malformed)))

-- the length of a record's body
abbrev pub body : Kind → ℕ
body kind.Block = 3
body kind.Gate = 4
body kind.Output = 2

-- blocks come first, at least one, then gates, then the output: n gates have been read
abbrev pub misplaced : Kind → List Block → ℕ → Bool
misplaced kind.Block bs n = nat_lt 0 n
misplaced kind.Gate bs n = length bs == 0
misplaced kind.Output bs n = length bs == 0

-- a block's byte, count or total is outside its limits, or it is the 17th
abbrev pub outside : List Block → ℕ → ℕ → Bool
outside bs byte count = nat_lt 1 byte || (count == 0 || (nat_lt 40 count || (nat_lt 128 (total bs + count) || nat_lt 15 (length bs))))

-- 0 is existential, 1 universal
abbrev pub quantifier_of : ℕ → Quantifier
quantifier_of byte = cond (byte == 0) Existential Universal

-- the quantifier of a byte, if it is 0 or 1
abbrev pub quantifier_read : ℕ → Result Quantifier Refusal
quantifier_read byte = cond (nat_lt 1 byte) (Err BlockLimits) (Ok (quantifier_of byte))

-- the same quantifier
abbrev pub same : Quantifier → Quantifier → Bool
same Existential Existential = true
same Existential Universal = false
same Universal Existential = false
same Universal Universal = true

-- the last block has this quantifier
abbrev pub repeats : List Block → Quantifier → Bool
repeats bs q = nat_lt 0 (length bs) && same (block_at bs (length bs - 1)).quantifier q

-- the literals that a gate after n gates may read, and an output: those below this one
abbrev pub limit : List Block → ℕ → ℕ
limit bs n = 2 * (1 + total bs + n)

-- the rules on a whole record in its place, each with whether it is broken
abbrev pub content_rules : Kind → List Block → ℕ → List ℕ → List (Refusal × Bool)
content_rules kind.Block bs n rest = (BlockLimits, outside bs (slice_index rest 4) (word rest 5)) ∷ (SameQuantifier, repeats bs (quantifier_of (slice_index rest 4))) ∷ []
content_rules kind.Gate bs n rest = (TooManyGates, nat_lt 1999 n) ∷ (BadLiteral, not (nat_lt (word rest 4) (limit bs n)) || not (nat_lt (word rest 6) (limit bs n))) ∷ []
content_rules kind.Output bs n rest = (BadLiteral, not (nat_lt (word rest 4) (limit bs n))) ∷ (Misplaced, nat_lt 6 (length rest)) ∷ []

-- the rules after the head
abbrev pub kind_rules : Option Kind → List Block → ℕ → List ℕ → List (Refusal × Bool)
kind_rules None bs n rest = (Malformed, true) ∷ []
kind_rules (Some k) bs n rest = (Misplaced, misplaced k bs n) ∷ (Incomplete, nat_lt (length rest) (4 + body k)) ∷ content_rules k bs n rest

-- all rules on what follows these blocks and n gates, in the order in which they are tested
abbrev pub rules : List Block → ℕ → List ℕ → List (Refusal × Bool)
rules bs n rest = (Incomplete, nat_lt (length rest) 4) ∷ kind_rules (kind_of (word rest 2) (word rest 0)) bs n rest

-- the first rule that is broken
abbrev pub first : List (Refusal × Bool) → Option Refusal
first [] = None
first (r ∷ rs) = cond r.1 (Some r.0) (first rs)

-- the record of a kind
abbrev pub record_of : Kind → List ℕ → Record
record_of kind.Block rest = record'.Block (record { quantifier = quantifier_of (slice_index rest 4); size = word rest 5 })
record_of kind.Gate rest = record'.Gate (record { code = word rest 4 }) (record { code = word rest 6 })
record_of kind.Output rest = record'.Output (record { code = word rest 4 })

-- the record at the front; with no kind any will do, since a rule is broken
abbrev pub record_at : Option Kind → List ℕ → Record
record_at None rest = record_of kind.Output rest
record_at (Some k) rest = record_of k rest

-- a refusal, or else this
abbrev pub unless : {X : Type 0} → Option Refusal → X → Result X Refusal
unless (Some r) x = Err r
unless None x = Ok x

-- the next record, or the first rule that what follows breaks
abbrev pub next : List Block → ℕ → List ℕ → Result Record Refusal
next bs n rest = unless (first (rules bs n rest)) (record_at (kind_of (word rest 2) (word rest 0)) rest)

-- what is known of a record whose head and place are good, and which is whole
pub record Framed (bs : List Block) (n : ℕ) (rest : List ℕ) (k : Kind) : Type 0 where
  pub named : kind_of (word rest 2) (word rest 0) ≡ Some k
  pub whole : 4 + body k ≤ length rest
  pub remaining : first (rules bs n rest) ≡ first (content_rules k bs n rest)
