-- A bench with its tables as the definitions see them: plain numbers and lists.
use Rattle.std.specs.Prelude.{ℕ, ◌+◌, Bool, false, ◌&&◌, List, length, take, Some, None, Option, ◌==◌, nat_le, slice_index_or}
use Rattle.circuit.specs.declared.Literal.{Literal}
use Rattle.valuation.specs.declared.Value.{Value}
use Rattle.valuation.specs.Circuit.{Pair}
use Rattle.question.specs.declared.prefix.Block.{Block}
use Rattle.question.specs.Blocks.{block_at, total}
use Rattle.copying.specs.declared.places.Copies.{Copies}
use Rattle.runs.specs.declared.Phase.{Phase}
use Rattle.runs.specs.declared.Phase.TheVariants.{Playing, Lost, Over}
use Rattle.runs.specs.declared.Desk.{Desk}

-- The gate table: the stamp that it is bound to, the node of its first gate, how many gates are in use, and all entries.
pub record GateSheet : Type 0 where
  pub bound : Option ℕ
  pub first : ℕ
  pub used : ℕ
  pub entries : List Pair

-- Any other table: the stamp that it is bound to, how many entries may hold something (the others are zero), and all entries.
pub record Sheet (X : Type 0) : Type 0 where
  pub bound : Option ℕ
  pub used : ℕ
  pub entries : List X

-- The play, and the work lists: values and forced values by node, marks, and copies in both polarities.
pub record Sheets : Type 0 where
  pub play : Sheet Value
  pub values : Sheet Value
  pub forced : Sheet Value
  pub marks : Sheet Bool
  pub copies : Sheet Copies

-- The question's blocks, the number of its gates and its output literal; the bench's numbers; the tables.
pub record State : Type 0 where
  pub blocks : List Block
  pub count : ℕ
  pub output : ℕ
  pub desk : Desk
  pub gates : GateSheet
  pub sheets : Sheets

-- how many variables the first d blocks have
abbrev pub before : List Block → ℕ → ℕ
before bs d = total (take d bs)

-- how many variables block d + 1 has: none past the last block
abbrev pub width : List Block → ℕ → ℕ
width bs d = (block_at bs d).size

-- the first gate's node
abbrev pub first_node : List Block → ℕ
first_node bs = 1 + total bs

-- level j's root
abbrev pub root_in : List Literal → ℕ → ℕ
root_in roots j = (slice_index_or roots j (record { code = 1 })).code

abbrev pub root_at : Desk → ℕ → ℕ
root_at d j = root_in d.roots j

-- the gates in use
abbrev pub in_use : GateSheet → List Pair
in_use g = take g.used g.entries

-- whether a table is bound to a stamp
abbrev pub bound_to : ℕ → Option ℕ → Bool
bound_to n None = false
bound_to n (Some k) = k == n

-- whether every table is
abbrev pub all_bound : ℕ → GateSheet → Sheets → Bool
all_bound n g t = bound_to n g.bound && bound_to n t.play.bound && bound_to n t.values.bound && bound_to n t.forced.bound && bound_to n t.marks.bound && bound_to n t.copies.bound

-- whether the play has an entry for each variable, and each work list one for each node that a full gate table has
abbrev pub roomy : ℕ → ℕ → Sheets → Bool
roomy variables entries t =
    nat_le variables (length t.play.entries) && nat_le (1 + variables + entries) (length t.values.entries) && nat_le (1 + variables + entries) (length t.forced.entries)
    && nat_le (1 + variables + entries) (length t.marks.entries) && nat_le (1 + variables + entries) (length t.copies.entries)

-- how many nodes the marks may be on: all while a slip is out, else none
abbrev pub shown : Phase → ℕ → ℕ
shown Playing nodes = 0
shown Lost nodes = nodes
shown Over nodes = 0

-- whether the bench is at a level, and the tables have the counts in use with which it left them
abbrev pub in_shape : List Block → Desk → GateSheet → Sheets → Bool
in_shape bs d g t =
    nat_le d.depth (length bs) && g.first == first_node bs && g.used == d.gates && t.play.used == before bs d.depth
    && t.marks.used == shown d.phase (first_node bs + d.gates)

-- whether the tables are the bench's own, in the shape in which it left them
abbrev pub own : State → Bool
own s = all_bound s.desk.stamp s.gates s.sheets && in_shape s.blocks s.desk s.gates s.sheets && roomy (total s.blocks) (length s.gates.entries) s.sheets
