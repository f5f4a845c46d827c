-- Runs: lists of turns, settlements and top-ups on one bench.
use Rattle.std.specs.Prelude.{◌≡◌, ℕ, ◌<◌, ◌≤◌, Bool, true, false, cond, ◌&&◌, List, [], ◌∷◌, ◌++◌, take, drop, Some, None, Option}
use Rattle.valuation.specs.declared.Value.{Value}
use Rattle.search.specs.Queries.{Query}
use Rattle.search.specs.Answers.{Answer, Right, ceiling}
use Rattle.runs.specs.declared.Stub.{Stub}
use Rattle.runs.specs.declared.Place.{Place}
use Rattle.runs.specs.declared.Verdict.{Verdict}
use Rattle.runs.specs.declared.Refusal.{Refusal}
use Rattle.runs.specs.State.{GateSheet, Sheets, State, all_bound, own}
use Rattle.runs.specs.Papers.{ticket_present}
use Rattle.runs.specs.Turn.{query_of, reply_by, turn_refusal, turned}
use Rattle.runs.specs.Settle.{settle_refusal, settled, concludes, verdict_of}
use Rattle.runs.specs.Grants.{topped}

-- The tables that a call is handed: the bench's own, as the previous call left them, or others.
pub data Handed : Type 0 where
  same : Handed
  others : GateSheet → Sheets → Handed

-- A call, with the paper and the tables that it is handed; a turn with the searcher's reply, where it is asked.
pub data Call : Type 0 where
  turn : Stub → Handed → Option Answer → Call
  settle : Stub → Handed → Call
  top_up : ℕ → Call

-- the bench with the tables that it is handed
abbrev pub handed : Handed → State → State
handed same s = s
handed (others g t) s = record { blocks = s.blocks; count = s.count; output = s.output; desk = s.desk; gates = g; sheets = t }

-- the bench after a call, with its own tables
abbrev pub returned : Handed → State → State → State
returned same s s' = s'
returned (others g t) s s' = record { blocks = s'.blocks; count = s'.count; output = s'.output; desk = s'.desk; gates = s.gates; sheets = s.sheets }

-- the bench after a call, refused or not
abbrev pub step : Call → State → State
step (turn p h r) s = returned h s (turned p r (handed h s))
step (settle p h) s = returned h s (settled p (handed h s))
step (top_up n) s = record { blocks = s.blocks; count = s.count; output = s.output; desk = topped n s.desk; gates = s.gates; sheets = s.sheets }

-- the bench after a list of calls
abbrev pub run : List Call → State → State
run [] s = s
run (c ∷ cs) s = run cs (step c s)

-- of other tables at least one is not bound to the bench's stamp
abbrev pub Elsewhere : ℕ → Handed → Type 0
Elsewhere stamp same = Unit {0}
Elsewhere stamp (others g t) = all_bound stamp g t ≡ false

-- A right reply to a query: a right answer that is paid for, with a need of at least 1 and within the ceiling; or spent, below the ceiling.
abbrev pub RightReply : Query → ℕ → Option Answer → Type 0
RightReply q purse (Some a) = Right q a.outcome × (1 ≤ a.need) × (a.need ≤ ceiling q.free) × (a.need ≤ purse)
RightReply q purse None = purse < ceiling q.free

-- whether a turn asks the searcher
abbrev pub asks : Stub → State → Bool
asks p s = ticket_present s.desk p && own s

-- a call as a run may have it: the bench's own tables or some of another stamp, and a right reply where the searcher is asked
abbrev pub Fair : Call → State → Type 0
Fair (turn p h r) s = Elsewhere s.desk.stamp h × (asks p (handed h s) ≡ true → RightReply (query_of (handed h s)) s.desk.purse r)
Fair (settle p h) s = Elsewhere s.desk.stamp h
Fair (top_up n) s = Unit {0}

-- a list of such calls
abbrev pub Fairly : List Call → State → Type 0
Fairly [] s = Unit {0}
Fairly (c ∷ cs) s = Fair c s × Fairly cs (step c s)

-- the replies are those of a meaning
abbrev pub Told : (Query → Answer) → List Call → State → Type 0
Told m [] s = Unit {0}
Told m (turn p h r ∷ cs) s = Elsewhere s.desk.stamp h × (r ≡ reply_by m (handed h s)) × Told m cs (step (turn p h r) s)
Told m (settle p h ∷ cs) s = Elsewhere s.desk.stamp h × Told m cs (step (settle p h) s)
Told m (top_up n ∷ cs) s = Told m cs (step (top_up n) s)

-- whether no refusal stands
abbrev pub accepted : Option Refusal → Bool
accepted None = true
accepted (Some why) = false

-- An accepted turn: the query, the answer, and the bench after it.
pub record Turned : Type 0 where
  pub query : Query
  pub answer : Answer
  pub after : State

-- the accepted turn of a call, if it is one
abbrev pub turn_of : Stub → Handed → Option Answer → State → List Turned
turn_of p h None s = []
turn_of p h (Some a) s = cond (accepted (turn_refusal p (Some a) (handed h s))) (record { query = query_of (handed h s); answer = a; after = step (turn p h (Some a)) s } ∷ []) []

abbrev pub turns_of : Call → State → List Turned
turns_of (turn p h r) s = turn_of p h r s
turns_of (settle p h) s = []
turns_of (top_up n) s = []

-- A verdict, and the play with which it was given.
pub record Said : Type 0 where
  pub verdict : Verdict
  pub play : List Value

-- the verdict of a call, if it gives one
abbrev pub verdicts_of : Call → State → List Said
verdicts_of (turn p h r) s = []
verdicts_of (settle p h) s = cond (accepted (settle_refusal p (handed h s)) && concludes s.desk.depth) (record { verdict = verdict_of (handed h s); play = (handed h s).sheets.play.entries } ∷ []) []
verdicts_of (top_up n) s = []

-- all accepted turns of a run, in order
unfoldable pub all_turns : List Call → State → List Turned
all_turns [] s = []
all_turns (c ∷ cs) s = turns_of c s ++ all_turns cs (step c s)

-- all verdicts of a run
unfoldable pub all_verdicts : List Call → State → List Said
all_verdicts [] s = []
all_verdicts (c ∷ cs) s = verdicts_of c s ++ all_verdicts cs (step c s)

-- the setting that an opening's place has in the play
abbrev pub setting_at : Option Place → List Value → Option (List Value)
setting_at None play = None
setting_at (Some at) play = Some (take at.to (drop at.from play))
