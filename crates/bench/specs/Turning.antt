-- What a turn asks, what it needs of the tables, and what it answers.
use Rattle.std.specs.Prelude.{◌≡◌, ℕ, suc, ◌+◌, ◌/◌, ◌<◌, ◌≤◌, take, Some, None, vec_items, vec_len, Option, Result, slice_index_or}
use Rattle.question.specs.declared.frame.Frame.{Frame}
use Rattle.question.specs.Blocks.{total}
use Rattle.question.specs.Rules.{blocks_of}
use Rattle.search.specs.declared.Reply.{Reply}
use Rattle.search.specs.declared.Reply.TheVariants.{Move, NoMove, Spent}
use Rattle.search.specs.Queries.{Query}
use Rattle.search.specs.Answers.{Answer}
use Rattle.asking.specs.declared.Level.{Level}
use Rattle.asking.specs.Asked.{asked_of, reply_at}
use Rattle.runs.specs.declared.Phase.{Phase}
use Rattle.runs.specs.declared.Phase.TheVariants.{Playing, Lost, Over}
use Rattle.runs.specs.declared.Desk.{Desk}
use Rattle.runs.specs.declared.Stub.{Stub}
use Rattle.runs.specs.declared.Refused.{Refused}
use Rattle.runs.specs.Refusals.{answered}
use Rattle.runs.specs.Papers.{stub_of}
use Rattle.runs.specs.State.{Sheets, State, before, width}
use Rattle.runs.specs.Turn.{reply_by, answer_sheets, turn_refusal, turned}
use Rattle.bench.specs.declared.GateTable.{GateTable}
use Rattle.bench.specs.declared.Lists.{Lists}
use Rattle.bench.specs.declared.Ticket.{Ticket}
use Rattle.bench.specs.declared.Turned.{Turned}
use Rattle.bench.specs.declared.Turned.TheVariants as outcome

-- what a bench asks at its level
abbrev pub level_of : Frame → Desk → Level
level_of f d =
    record {
      variables = total (blocks_of f.prefix);
      root = slice_index_or d.roots (suc d.depth) (record { code = 1 });
      below = before (blocks_of f.prefix) d.depth;
      free = width (blocks_of f.prefix) d.depth;
      allowance = d.purse;
    }

-- a number after a move, and after no move
abbrev pub move_or_zero : Reply → ℕ → ℕ
move_or_zero (Move need) n = n
move_or_zero (NoMove need) n = 0
move_or_zero Spent n = 0

abbrev pub no_move_or_zero : Reply → ℕ → ℕ
no_move_or_zero (Move need) n = 0
no_move_or_zero (NoMove need) n = n
no_move_or_zero Spent n = 0

-- A level that may ask, with its tables.
pub record Ready (l : Level) (g : GateTable) (t : Lists) : Type 0 where
  pub variables : l.variables ≤ 128
  pub first : g.first ≡ 1 + l.variables
  pub rooted : l.root.code / 2 < g.first + g.table.used
  pub inside : l.below + l.free ≤ l.variables
  pub few_free : l.free ≤ 40
  pub play : l.variables ≤ vec_len t.play.entries
  pub set : t.play.used ≡ l.below
  pub values : g.first + g.table.used ≤ vec_len t.values.entries
  pub forced : g.first + g.table.used ≤ vec_len t.forced.entries
  pub marks : g.first + g.table.used ≤ vec_len t.marks.entries
  pub shown : t.marks.used ≡ 0

-- the query there, and the reply of a meaning
abbrev pub asked_over : Level → GateTable → Lists → Query
asked_over l g t = asked_of l (take g.table.used (vec_items g.table.entries)) (vec_items t.play.entries)

abbrev pub reply_over : (Query → Answer) → Level → GateTable → Lists → Option Answer
reply_over m l g t = reply_at m l (take g.table.used (vec_items g.table.entries)) (vec_items t.play.entries)

-- the tables after a reply
abbrev pub sheets_after : ℕ → Option Answer → Sheets → Sheets
sheets_after below None t = t
sheets_after below (Some a) t = answer_sheets below a.outcome t

-- the paper that a turn leaves: a ticket after a move, a slip after a loss
abbrev pub paper_of : Phase → Stub → Turned
paper_of Playing p = outcome.Moved (record { stub = p })
paper_of Lost p = outcome.Lost (record { stub = p })
paper_of Over p = outcome.Moved (record { stub = p })

-- what a turn answers: a refusal with the ticket, or the next paper
abbrev pub turn_answer : (Query → Answer) → Ticket → State → Result Turned (Refused Ticket)
turn_answer m t s = answered (turn_refusal t.stub (reply_by m s) s) t (paper_of (turned t.stub (reply_by m s) s).desk.phase (stub_of (turned t.stub (reply_by m s) s).desk))

-- the bench and the tables after it
abbrev pub after_turn : (Query → Answer) → Ticket → State → State
after_turn m t s = turned t.stub (reply_by m s) s
