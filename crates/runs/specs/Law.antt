-- The law over runs: what holds of any two lists of calls on two benches that were opened on one question.
use Rattle.std.specs.Prelude.{◌≡◌, ℕ, ◌+◌, ◌*◌, ◌≤◌, max, Bool, true, ◌≢◌, ◌⊎◌, List, [], ◌∷◌, map, length, take, Some, None, Option}
use Rattle.valuation.specs.declared.Value.{Value}
use Rattle.valuation.specs.Three.{of_bool}
use Rattle.valuation.specs.Circuit.{nothing}
use Rattle.copies.specs.Claims.{value}
use Rattle.steps.specs.Steps.{base_of, is_true}
use Rattle.game.specs.Prefix.{Player, existential, universal, positions}
use Rattle.game.specs.Prefix as prefix
use Rattle.game.specs.Game.{game_value, Opening}
use Rattle.game.specs.Game as game
use Rattle.game.specs.Strategy.{HasWin}
use Rattle.question.specs.declared.prefix.Quantifier.{Quantifier}
use Rattle.question.specs.declared.prefix.Quantifier.TheVariants.{Existential, Universal}
use Rattle.question.specs.declared.prefix.Block.{Block}
use Rattle.question.specs.Blocks.{block_at, total}
use Rattle.question.specs.Formula.{Formula, WellFormed}
use Rattle.search.specs.Queries.{Query}
use Rattle.search.specs.Answers.{Answer, Keeps, ceiling}
use Rattle.runs.specs.declared.Stub.{Stub}
use Rattle.runs.specs.declared.Refusal.TheVariants.{Spent, Full}
use Rattle.runs.specs.State.{Sheets, State, first_node, in_use}
use Rattle.runs.specs.Papers.{ticket_present, slip_present}
use Rattle.runs.specs.Turn.{query_of, turn_refusal}
use Rattle.runs.specs.Settle.{settle_refusal}
use Rattle.runs.specs.Ends.{open_refusal, opened}
use Rattle.runs.specs.Calls.{Handed, handed, Call, run, RightReply, asks, Fairly, Told, Turned, Said, all_turns, all_verdicts, setting_at}

-- whom a quantifier's blocks belong to
abbrev pub player_of : Quantifier → Player
player_of Existential = existential
player_of Universal = universal

-- the truth of the matrix under a full play
abbrev pub matrix_of : Formula → List Bool → Bool
matrix_of f t = is_true (value (first_node f.blocks) f.gates nothing (base_of t) f.output)

-- a block as the game has it
abbrev pub as_block : Block → game.Block
as_block b = record { player = player_of b.quantifier; width = b.size }

-- the question's value: block by block, some setting or every setting, and with no block left the matrix
abbrev pub question_value : Formula → Bool
question_value f = game_value (matrix_of f) (map as_block f.blocks) []

-- the question as a game between alternating players
abbrev pub game_of : Formula → prefix.Formula
game_of f = record { first = player_of (block_at f.blocks 0).quantifier; sizes = map (λ b. b.size) f.blocks; matrix = matrix_of f }

-- the size of the largest block
abbrev pub widest : List Block → ℕ
widest [] = 0
widest (b ∷ bs) = max b.size (widest bs)

-- the most turns: S sums 2^v(j) for j from 1 to n - 1, where v(j) is the number of variables of blocks 1 to j
abbrev pub most_turns : Formula → ℕ
most_turns f = 3 * positions (game_of f) + 2

-- A bench fresh from open on a formula: any table size that a load allows, any lists that open accepts, any stamp and grant.
pub record Fresh (f : Formula) (s : State) : Type 0 where
  pub entries : ℕ
  pub sheets : Sheets
  pub stamp : ℕ
  pub grant : ℕ
  pub room : length f.gates ≤ entries
  pub few : entries ≤ 8000
  pub accepted : open_refusal (total f.blocks) entries sheets ≡ None
  pub is : s ≡ opened f entries sheets stamp grant

-- a fact of each element
abbrev pub All : {X : Type 0} → (X → Type 0) → List X → Type 0
All P [] = Unit {0}
All P (x ∷ xs) = P x × All P xs

-- a fact of the k-th elements of two lists, for every k that both reach
abbrev pub Abreast : {X : Type 0} → (X → X → Type 0) → List X → List X → Type 0
Abreast R [] ys = Unit {0}
Abreast R (x ∷ xs) [] = Unit {0}
Abreast R (x ∷ xs) (y ∷ ys) = R x y × Abreast R xs ys

-- A handed-over setting wins: it sets every variable of block 1, and after it the owner of block 1 has a strategy that wins against every reply.
pub record Wins (f : Formula) (setting : List Value) : Type 0 where
  pub bits : List Bool
  pub is : setting ≡ map of_bool bits
  pub opening : Opening (game_of f) bits
  pub strategy : HasWin (game_of f) (game_of f).first 1 bits

-- an opening that is there wins; it is there exactly if the owner of block 1 wins
abbrev pub HandsOver : Formula → Bool → Option (List Value) → Type 0
HandsOver f word (Some setting) = (word ≡ (game_of f).first) × Wins f setting
HandsOver f word None = word ≢ (game_of f).first

-- A verdict is the question's value, the player whom it names has a winning strategy, and the opening wins.
pub record RightVerdict (f : Formula) (x : Said) : Type 0 where
  pub word : x.verdict.word ≡ question_value f
  pub strategy : HasWin (game_of f) x.verdict.word 0 []
  pub opening : HandsOver f x.verdict.word (setting_at x.verdict.opening x.play)

-- What holds of one run on a fresh bench s, where s' is the bench after it: s' answers to its present paper and own tables, ..
pub record SoundRun (f : Formula) (cs : List Call) (s : State) : Type 0 where
  -- the turn count is the number of accepted turns
  pub counted : length (all_turns cs s) ≡ (run cs s).desk.turns
  pub bounded : length (all_turns cs s) ≤ most_turns f
  -- once the grants reach the bound no right reply is spent
  pub paid : (p : Stub) (h : Handed) (r : Option Answer) → (asks p (handed h (run cs s)) ≡ true → RightReply (query_of (handed h (run cs s))) (run cs s).desk.purse r) →
      most_turns f * ceiling (widest f.blocks) ≤ (run cs s).desk.grants → turn_refusal p r (handed h (run cs s)) ≢ Some Spent
  -- with the present paper and own tables a turn is refused only as spent, a settlement only as full
  pub turns : (p : Stub) (r : Option Answer) → ticket_present (run cs s).desk p ≡ true → (turn_refusal p r (run cs s) ≡ None) ⊎ (turn_refusal p r (run cs s) ≡ Some Spent)
  pub settles : (p : Stub) → slip_present (run cs s).desk p ≡ true → (settle_refusal p (run cs s) ≡ None) ⊎ (settle_refusal p (run cs s) ≡ Some Full)
  pub verdicts : All (RightVerdict f) (all_verdicts cs s)

-- Accepted turns leave equal plays of all variables and equal gates in use.
pub record SameTurn (f : Formula) (x y : Turned) : Type 0 where
  pub play : take (total f.blocks) x.after.sheets.play.entries ≡ take (total f.blocks) y.after.sheets.play.entries
  pub gates : in_use x.after.gates ≡ in_use y.after.gates

-- Verdicts carry the same word, equal openings and equal counts.
pub record SameVerdict (x y : Said) : Type 0 where
  pub verdict : x.verdict ≡ y.verdict
  pub setting : setting_at x.verdict.opening x.play ≡ setting_at y.verdict.opening y.play

-- What holds of two runs alike.
pub record SameRuns (f : Formula) (cs₁ cs₂ : List Call) (s₁ s₂ : State) : Type 0 where
  pub turns : Abreast (SameTurn f) (all_turns cs₁ s₁) (all_turns cs₂ s₂)
  pub verdicts : All (λ x. All (SameVerdict x) (all_verdicts cs₂ s₂)) (all_verdicts cs₁ s₁)

-- The replies of two runs agree on equal queries.
abbrev pub Agreeing : List Turned → List Turned → Type 0
Agreeing xs ys = All (λ x. All (λ y. x.query ≡ y.query → x.answer ≡ y.answer) ys) xs

-- Every run with right replies is sound.
abbrev pub FairRuns : Type 0
FairRuns = (f : Formula) → WellFormed f → (s : State) → Fresh f s → (cs : List Call) → Fairly cs s → SoundRun f cs s

-- Two runs whose replies agree on equal queries go alike.
abbrev pub AgreeingRuns : Type 0
AgreeingRuns = (f : Formula) → WellFormed f → (s₁ s₂ : State) → Fresh f s₁ → Fresh f s₂ → (cs₁ cs₂ : List Call) → Fairly cs₁ s₁ → Fairly cs₂ s₂ →
    Agreeing (all_turns cs₁ s₁) (all_turns cs₂ s₂) → SameRuns f cs₁ cs₂ s₁ s₂

-- Two benches on one question, each over any searcher that keeps its meaning.
pub record TwoRuns (f : Formula) (m₁ m₂ : Query → Answer) (cs₁ cs₂ : List Call) (s₁ s₂ : State) : Type 0 where
  pub first : SoundRun f cs₁ s₁
  pub second : SoundRun f cs₂ s₂
  -- with equal meanings the runs go alike
  pub alike : ((q : Query) → m₁ q ≡ m₂ q) → SameRuns f cs₁ cs₂ s₁ s₂

-- The law over runs.
abbrev pub RunLaw : Type 0
RunLaw = (f : Formula) → WellFormed f → (m₁ m₂ : Query → Answer) → Keeps m₁ → Keeps m₂ → (s₁ s₂ : State) → Fresh f s₁ → Fresh f s₂ →
    (cs₁ cs₂ : List Call) → Told m₁ cs₁ s₁ → Told m₂ cs₂ s₂ → TwoRuns f m₁ m₂ cs₁ cs₂ s₁ s₂
