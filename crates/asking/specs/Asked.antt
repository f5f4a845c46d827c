-- What a level asks, and what the reply leaves in the lists.
use Rattle.std.specs.Prelude.{◌≡◌, ℕ, ◌+◌, ◌/◌, ◌<◌, ◌≤◌, Bool, List, map, length, take, drop, replicate, Some, None, Option}
use Rattle.valuation.specs.declared.Value.{Value}
use Rattle.valuation.specs.declared.Value.TheVariants.{Unknown}
use Rattle.valuation.specs.Three.{of_bool}
use Rattle.valuation.specs.Circuit.{Ascending}
use Rattle.circuit.specs.declared.Gate.{Gate}
use Rattle.circuit.specs.Gates.{pairs}
use Rattle.search.specs.declared.Reply.{Reply}
use Rattle.search.specs.declared.Reply.TheVariants.{Spent}
use Rattle.search.specs.Queries.{Query}
use Rattle.search.specs.Answers.{Outcome, moves, loses, Answer, paid}
use Rattle.runs.specs.Turn.{level_query, within, with_part}
use Rattle.asking.specs.declared.Level.{Level}

-- the query of a level
abbrev pub asked_of : Level → List Gate → List Value → Query
asked_of l gs play = level_query l.variables (pairs gs) l.root.code play l.below l.free

-- what a meaning replies to it
abbrev pub reply_at : (Query → Answer) → Level → List Gate → List Value → Option Answer
reply_at m l gs play = within l.allowance (m (asked_of l gs play))

-- A level that may ask: its numbers are within their limits, and the play leaves its block unset.
pub record Fit (l : Level) (gs : List Gate) (play : List Value) : Type 0 where
  pub few_variables : l.variables ≤ 128
  pub few_gates : length gs ≤ 8000
  pub ascending : Ascending (1 + l.variables) (pairs gs)
  pub rooted : l.root.code / 2 < 1 + l.variables + length gs
  pub inside : l.below + l.free ≤ l.variables
  pub few_free : l.free ≤ 40
  pub long : l.variables ≤ length play
  pub unset : take l.free (drop l.below play) ≡ replicate l.free Unknown

-- a list of zeros, with an entry at least for each node
pub record Zero {X : Type 0} (zero : X) (nodes : ℕ) (xs : List X) : Type 0 where
  pub long : nodes ≤ length xs
  pub all : xs ≡ replicate (length xs) zero

-- what is replied: no answer is spent
abbrev pub reply_for : Option Answer → Reply
reply_for None = Spent
reply_for (Some a) = paid a.outcome a.need

-- the play after an outcome: a move's setting stands in the level's block
abbrev pub play_by : ℕ → Outcome → List Value → List Value
play_by below (moves setting) play = with_part below (map of_bool setting) play
play_by below (loses core) play = play

abbrev pub play_for : ℕ → Option Answer → List Value → List Value
play_for below None play = play
play_for below (Some a) play = play_by below a.outcome play

-- the marks after an outcome: the core of a no move at their front
abbrev pub marks_in : Outcome → List Bool → List Bool
marks_in (moves setting) marks = marks
marks_in (loses core) marks = with_part 0 core marks

abbrev pub marks_over : Option Answer → List Bool → List Bool
marks_over None marks = marks
marks_over (Some a) marks = marks_in a.outcome marks
