-- The premises of the law over runs are met on every question, over every meaning that is kept: by calls of each kind, and by runs that go to their end.
use Rattle.std.specs.Prelude.{◌≡◌, ℕ, ◌+◌, ◌*◌, ◌≤◌, false, ◌≢◌, ◌⊎◌, List, [], ◌∷◌, length, replicate, Some, None}
use Rattle.valuation.specs.declared.Value.TheVariants.{Unknown}
use Rattle.copying.specs.Places.{none}
use Rattle.question.specs.Blocks.{total}
use Rattle.question.specs.Formula.{Formula, WellFormed}
use Rattle.search.specs.Queries.{Query}
use Rattle.search.specs.Answers.{Answer, Keeps, ceiling}
use Rattle.runs.specs.declared.Phase.TheVariants.{Lost, Over}
use Rattle.runs.specs.declared.Refusal.TheVariants.{Foreign, Full}
use Rattle.runs.specs.State.{Sheet, Sheets, State}
use Rattle.runs.specs.Papers.{stub_of}
use Rattle.runs.specs.Turn.{query_of, reply_by, turn_refusal, after_answer}
use Rattle.runs.specs.Settle.{settle_refusal}
use Rattle.runs.specs.Ends.{opened}
use Rattle.runs.specs.Calls.{Handed, same, others, handed, Call, turn, settle, top_up, step, run, Told, all_turns, all_verdicts}
use Rattle.runs.specs.Law.{widest, most_turns, Fresh}

-- a table of zeros that is not bound
abbrev pub zeros : {X : Type 0} → ℕ → X → Sheet X
zeros n x = record { bound = None; used = 0; entries = replicate n x }

-- the play and the work lists, just long enough
abbrev pub least_sheets : ℕ → ℕ → Sheets
least_sheets variables entries =
    let nodes = 1 + variables + entries in
    record { play = zeros variables Unknown; values = zeros nodes Unknown; forced = zeros nodes Unknown; marks = zeros nodes false; copies = zeros nodes none }

-- a bench fresh from open on them, by the formula, the number of gate entries, the stamp and the grant
abbrev pub new_bench : Formula → ℕ → ℕ → ℕ → State
new_bench f entries stamp grant = opened f entries (least_sheets (total f.blocks) entries) stamp grant

-- the tables of a bench, handed to another
abbrev pub tables_of : State → Handed
tables_of s = others s.gates s.sheets

-- the steps of a turn at most, whatever the level
abbrev pub one_turn : Formula → ℕ
one_turn f = ceiling (widest f.blocks)

-- calls on a bench, all with its present ticket: a settlement, a turn with another bench's tables, a top_up, and a turn
abbrev pub four_calls : Formula → (Query → Answer) → State → State → List Call
four_calls f m s other =
    settle (stub_of s.desk) same
    ∷ turn (stub_of s.desk) (tables_of other) (reply_by m (handed (tables_of other) s))
    ∷ top_up (one_turn f)
    ∷ turn (stub_of s.desk) same (reply_by m (step (top_up (one_turn f)) s))
    ∷ []

-- Such a run: its bench is fresh, its replies are the meaning's, the settlement and the first turn are refused, the second turn is accepted.
pub record Met (f : Formula) (m : Query → Answer) (s other : State) : Type 0 where
  pub fresh : Fresh f s
  pub told : Told m (four_calls f m s other) s
  pub no_slip : settle_refusal (stub_of s.desk) s ≡ Some Foreign
  pub not_own : turn_refusal (stub_of s.desk) (reply_by m (handed (tables_of other) s)) (handed (tables_of other) s) ≡ Some Foreign
  -- exactly one turn is accepted, with the meaning's answer
  pub turns :
      let s' = step (top_up (one_turn f)) s in
      all_turns (four_calls f m s other) s ≡ record { query = query_of s'; answer = m (query_of s'); after = after_answer (m (query_of s')) s' } ∷ []

-- There is such a run for every question, every meaning that is kept, every table size, every two stamps and every grant.
abbrev pub PremisesMet : Type 0
PremisesMet = (f : Formula) → WellFormed f → (m : Query → Answer) → Keeps m → (entries : ℕ) → length f.gates ≤ entries → entries ≤ 8000 → (stamp other grant : ℕ) → stamp ≢ other →
    Met f m (new_bench f entries stamp grant) (new_bench f entries other grant)

-- the verdict was given, once
abbrev pub Decided : List Call → State → Type 0
Decided cs s = ((run cs s).desk.phase ≡ Over) × (length (all_verdicts cs s) ≡ 1)

-- the gates of the settlement that is due, past level 2, exceed the free entries
abbrev pub Stopped : State → Type 0
Stopped s = (s.desk.phase ≡ Lost) × (2 ≤ s.desk.depth) × (settle_refusal (stub_of s.desk) s ≡ Some Full)

-- A run to its end.
pub record Ended (m : Query → Answer) (s : State) : Type 0 where
  pub calls : List Call
  pub told : Told m calls s
  pub end : Decided calls s ⊎ Stopped (run calls s)

-- From every fresh bench with the grants of the bound a run goes to its end: the verdict, unless the gate table is full.
abbrev pub RunsEnd : Type 0
RunsEnd = (f : Formula) → WellFormed f → (m : Query → Answer) → Keeps m → (s : State) → Fresh f s → most_turns f * one_turn f ≤ s.desk.grants → Ended m s
