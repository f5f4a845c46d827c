-- What a load gives and leaves, and when.
use Rattle.std.specs.Prelude.{◌≡◌, ℕ, ◌+◌, ◌-◌, ◌*◌, ◌≤◌, Bool, false, cond, ◌||◌, ◌⊎◌, ◌↔◌, List, ◌++◌, length, replicate, Ok, Err, vec_items, Result, nat_lt}
use Rattle.valuation.specs.Circuit.{Pair, blank}
use Rattle.circuit.specs.declared.Gate.{Gate}
use Rattle.circuit.specs.Gates.{empty, pair, pairs}
use Rattle.question.specs.declared.frame.Frame.{Frame}
use Rattle.question.specs.declared.question.Question.{Question}
use Rattle.question.specs.declared.loading.Rejected.{Rejected}
use Rattle.question.specs.declared.records.Refusal.{Refusal}
use Rattle.question.specs.declared.records.Refusal.TheVariants.{TableSize}
use Rattle.question.specs.Formula.{Formula, WellFormed, Encodes, encode}
use Rattle.question.specs.Rules.{word}
use Rattle.question.specs.Judging.{judgement, Right, Outlined, Breaks}
use Rattle.question.specs.Questions.{formula}

-- the gate whose record is the k-th
abbrev pub pair_at : List ℕ → ℕ → Pair
pair_at records k = record { left = word records (8 * k + 4); right = word records (8 * k + 6) }

-- the k-th entry of a table that n such records fill
abbrev pub entry_of : List ℕ → ℕ → ℕ → Pair
entry_of records n k = cond (nat_lt k n) (pair_at records k) blank

-- the record of that entry: with these literals, and empty after the last
abbrev pub Entry : List ℕ → ℕ → ℕ → Gate → Type 0
Entry records n k g = (pair g ≡ entry_of records n k) × (n ≤ k → g ≡ empty)

-- the outcome of a load: the formula and the gate table after it, or why it is refused and the table
pub data Loaded : Type 0 where
  accepted : Formula → List Pair → Loaded
  refused : Refusal → List Gate → Loaded

-- what a load's result shows
abbrev pub shown : Result Question Rejected → Loaded
shown (Ok q) = accepted (formula q) (pairs (vec_items q.table))
shown (Err e) = refused e.refusal (vec_items e.table)

-- the gate table after a load: the gates, then zeros
abbrev pub cells : Formula → ℕ → List Pair
cells f entries = f.gates ++ replicate (entries - length f.gates) blank

-- fewer entries than gates, or too many
abbrev pub unfit : ℕ → ℕ → Bool
unfit gates entries = nat_lt entries gates || nat_lt 8000 entries

-- what a judgement leads to with this table
abbrev pub loaded_as : Result Formula Refusal → List Gate → Loaded
loaded_as (Err why) table = refused why table
loaded_as (Ok f) table = cond (unfit (length f.gates) (length table)) (refused TableSize table) (accepted f (cells f (length table)))

-- what judging bytes in code for a table with so many entries promises
abbrev pub Fitted : List ℕ → ℕ → Result Frame Refusal → Type 0
Fitted bytes entries (Ok o) = Outlined bytes o × (unfit o.gates entries ≡ false)
Fitted bytes entries (Err why) = Right bytes (judgement bytes) × ((table : List Gate) → length table ≡ entries → loaded_as (judgement bytes) table ≡ refused why table)

-- what loading bytes into a table gives
abbrev pub loaded : List ℕ → List Gate → Loaded
loaded bytes table = loaded_as (judgement bytes) table

-- the table's size allows the formula
abbrev pub Room : Formula → ℕ → Type 0
Room f entries = (length f.gates ≤ entries) × (entries ≤ 8000)

-- accepted exactly if the bytes encode a well-formed formula and the table's size allows it; the question is that formula, and the table holds its gates, then zeros
abbrev pub AcceptedExactly : List ℕ → List Gate → Loaded → Type 0
AcceptedExactly bytes table out = (f : Formula) (after : List Pair) → (out ≡ accepted f after) ↔ (WellFormed f × Encodes f bytes × Room f (length table) × (after ≡ cells f (length table)))

-- the bytes break a rule first, or encode a well-formed formula that the table's size does not allow
abbrev pub Faulty : List ℕ → ℕ → Refusal → Type 0
Faulty bytes entries why = Breaks bytes why ⊎ ((why ≡ TableSize) × ((f : Formula) × WellFormed f × Encodes f bytes × (Room f entries → ⊥)))

-- refused exactly by the first rule that is broken, and the table is as it was
abbrev pub RefusedExactly : List ℕ → List Gate → Loaded → Type 0
RefusedExactly bytes table out = (why : Refusal) (after : List Gate) → (out ≡ refused why after) ↔ ((after ≡ table) × Faulty bytes (length table) why)

-- no two well-formed formulas share an encoding
abbrev pub OneEncoding : Type 0
OneEncoding = (f g : Formula) → WellFormed f → WellFormed g → encode f ≡ encode g → f ≡ g
