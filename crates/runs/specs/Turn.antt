-- A turn: what the searcher is asked, and what its reply makes of a bench.
use Rattle.std.specs.Prelude.{ℕ, suc, ◌+◌, ◌-◌, ◌/◌, Bool, cond, ◌&&◌, List, ◌++◌, map, length, take, drop, Some, None, Option, nat_lt}
use Rattle.std.specs.List.{range_with_len}
use Rattle.question.specs.Blocks.{total}
use Rattle.valuation.specs.declared.Value.{Value}
use Rattle.valuation.specs.Three.{of_bool}
use Rattle.valuation.specs.Circuit.{Pair, nothing, reads, settings_from, node_values}
use Rattle.valuation.specs.Reach.{cut}
use Rattle.search.specs.Queries.{Query}
use Rattle.search.specs.Answers.{Outcome, moves, loses, Answer}
use Rattle.runs.specs.declared.Phase.{Phase}
use Rattle.runs.specs.declared.Phase.TheVariants.{Playing, Lost}
use Rattle.runs.specs.declared.Desk.{Desk}
use Rattle.runs.specs.declared.Stub.{Stub}
use Rattle.runs.specs.declared.Refusal.{Refusal}
use Rattle.runs.specs.declared.Refusal.TheVariants.{Spent, Foreign}
use Rattle.runs.specs.Refusals.{unless}
use Rattle.runs.specs.State.{Sheet, Sheets, State, before, width, root_at, in_use, own}
use Rattle.runs.specs.Papers.{ticket_present}

-- the values of all nodes under a play
abbrev pub values_under : ℕ → List Pair → List Value → List Value
values_under first gs play = node_values first gs nothing (settings_from 1 play)

-- the forced list of a turn: of the nodes reached from the root those that are known, but for node 0
abbrev pub cut_list : ℕ → List Pair → ℕ → List Value → List Value
cut_list first gs root play = map (cut first gs (reads (values_under first gs play)) (root / 2)) (range_with_len 0 (first + length gs))

-- the query of a level: its block is the range, after the `below` variables that are played
abbrev pub level_query : ℕ → List Pair → ℕ → List Value → ℕ → ℕ → Query
level_query variables gs root play below free =
    record { variables = variables; gates = gs; root = root; start = 1 + below; forced = cut_list (1 + variables) gs root play; free = free }

-- the query of a turn
abbrev pub query_of : State → Query
query_of s =
    level_query (total s.blocks) (in_use s.gates) (root_at s.desk (suc s.desk.depth)) s.sheets.play.entries (before s.blocks s.desk.depth) (width s.blocks s.desk.depth)

-- what comes of an answer within an allowance: none where the need passes it
abbrev pub within : ℕ → Answer → Option Answer
within allowance a = cond (nat_lt allowance a.need) None (Some a)

-- the reply that a meaning gives in a turn
abbrev pub reply_by : (Query → Answer) → State → Option Answer
reply_by m s = within s.desk.purse (m (query_of s))

-- a list with other entries from a place on
abbrev pub with_part : {X : Type 0} → ℕ → List X → List X → List X
with_part a ys xs = take a xs ++ (ys ++ drop (a + length ys) xs)

-- a bench's numbers after a paid turn
abbrev pub paid : Phase → ℕ → ℕ → Desk → Desk
paid phase depth need d =
    record {
      stamp = d.stamp;
      phase = phase;
      depth = depth;
      gates = d.gates;
      roots = d.roots;
      turns = d.turns + 1;
      settlements = d.settlements;
      purse = d.purse - need;
      steps = d.steps + need;
      grants = d.grants;
    }

-- the play with the level's block set
abbrev pub played : ℕ → List Bool → Sheet Value → Sheet Value
played below setting t = record { bound = t.bound; used = below + length setting; entries = with_part below (map of_bool setting) t.entries }

-- the marks with a core
abbrev pub marked_by : List Bool → Sheet Bool → Sheet Bool
marked_by core t = record { bound = t.bound; used = length core; entries = with_part 0 core t.entries }

-- the tables after an answer
abbrev pub answer_sheets : ℕ → Outcome → Sheets → Sheets
answer_sheets below (moves setting) t = record { play = played below setting t.play; values = t.values; forced = t.forced; marks = t.marks; copies = t.copies }
answer_sheets below (loses core) t = record { play = t.play; values = t.values; forced = t.forced; marks = marked_by core t.marks; copies = t.copies }

-- the numbers after an answer
abbrev pub answer_desk : Outcome → ℕ → Desk → Desk
answer_desk (moves setting) need d = paid Playing (suc d.depth) need d
answer_desk (loses core) need d = paid Lost d.depth need d

-- a bench after an answer: after a move one level up, after no move with the core in the marks
abbrev pub after_answer : Answer → State → State
after_answer a s =
    record {
      blocks = s.blocks;
      count = s.count;
      output = s.output;
      desk = answer_desk a.outcome a.need s.desk;
      gates = s.gates;
      sheets = answer_sheets (before s.blocks s.desk.depth) a.outcome s.sheets;
    }

-- refused as spent where there is no answer
abbrev pub spent_by : Option Answer → Option Refusal
spent_by None = Some Spent
spent_by (Some a) = None

abbrev pub after_reply : Option Answer → State → State
after_reply None s = s
after_reply (Some a) s = after_answer a s

-- whether a turn is refused, by the ticket and the searcher's reply
abbrev pub turn_refusal : Stub → Option Answer → State → Option Refusal
turn_refusal p r s = cond (ticket_present s.desk p && own s) (spent_by r) (Some Foreign)

-- the bench and the tables after a turn
abbrev pub turned : Stub → Option Answer → State → State
turned p r s = unless (turn_refusal p r s) s (after_reply r s)
