-- The run as a relation: what a turn and a settlement may do, knowing nothing of how a move or a stronger test is found.
use Rattle.std.specs.Prelude.{◌≡◌, ℕ, suc, pred, ◌<◌, ◌≤◌, Bool, true, false, not, ◌≢◌, List, [], ◌++◌, length, take, drop}
use Rattle.game.specs.Prefix.{Formula, wants, blocks, owner, size, upto}

-- For each level a test on plays of the blocks up to it: level i's root is not false there.
abbrev pub Tests : Type 0
Tests = ℕ → List Bool → Bool

-- a ticket is out; a level has lost and its slip is out; over, with the verdict
pub data Phase : Type 0 where
  playing lost : Phase
  over : Bool → Phase

-- A further rule for moves: whether, at a depth, after a play and with the level's test, a setting may be played.
abbrev pub Rule : Type 0
Rule = ℕ → List Bool → (List Bool → Bool) → List Bool → Bool

-- no further rule
abbrev pub any : Rule
any d p f s = true

-- a rule that looks at a level's test only at plays of the blocks up to that level
abbrev pub Steady : Formula → Rule → Type 0
Steady F Pick = (d : ℕ) (p s : List Bool) (f g : List Bool → Bool) → length p ≡ upto F d → length s ≡ size F d →
    ((t : List Bool) → length t ≡ upto F (suc d) → f t ≡ g t) → Pick d p f s ≡ true → Pick d p g s ≡ true

-- The tests at the start: true below the last block, there what its owner wants of the matrix, and past it the opposite.
pub record Starts (F : Formula) (A : Tests) : Type 0 where
  pub early : (j : ℕ) → suc j < blocks F → (t : List Bool) → length t ≡ upto F (suc j) → A (suc j) t ≡ true
  pub last : (t : List Bool) → length t ≡ upto F (blocks F) → A (blocks F) t ≡ wants (owner F (pred (blocks F))) (F.matrix t)
  pub past : (t : List Bool) → length t ≡ upto F (blocks F) → A (suc (blocks F)) t ≡ not (A (blocks F) t)

-- after the play p, level d + 1's test fails for every setting of its block
abbrev pub Stuck : Formula → ℕ → List Bool → Tests → Type 0
Stuck F d p A = (s : List Bool) → length s ≡ size F d → A (suc d) (p ++ s) ≡ false

-- a setting that may be played
pub record Moves (F : Formula) (Pick : Rule) (d : ℕ) (p : List Bool) (A : Tests) : Type 0 where
  pub setting : List Bool
  pub fits : length setting ≡ size F d
  pub passes : A (suc d) (p ++ setting) ≡ true
  pub picked : Pick d p (A (suc d)) setting ≡ true

-- where some setting passes, the rule lets one be played
abbrev pub Possible : Formula → Rule → Type 0
Possible F Pick = (d : ℕ) (p s : List Bool) (A : Tests) → length p ≡ upto F d → length s ≡ size F d → A (suc d) (p ++ s) ≡ true → Moves F Pick d p A

-- A settlement after level d + 3 lost under the play p, from the tests A to the tests B: level d + 1's test alone changes, and only by failing more often.
-- It fails at the present play of the blocks up to level d + 1. Where else it fails anew, the present play of level d + 2 after it refutes level d + 3 for every setting.
pub record Settles (F : Formula) (d : ℕ) (p : List Bool) (A B : Tests) : Type 0 where
  pub same : (j : ℕ) → j ≤ blocks F → j ≢ d → (t : List Bool) → length t ≡ upto F (suc j) → B (suc j) t ≡ A (suc j) t
  pub falls : (t : List Bool) → length t ≡ upto F (suc d) → B (suc d) t ≡ true → A (suc d) t ≡ true
  pub own : B (suc d) (take (upto F (suc d)) p) ≡ false
  pub just : (t : List Bool) → length t ≡ upto F (suc d) → A (suc d) t ≡ true → B (suc d) t ≡ false → Stuck F (suc (suc d)) (t ++ drop (upto F (suc d)) p) A

-- `Reaches F Pick n k w d p A`: some run by the rule Pick, with n accepted turns and k settlements, is in the phase w at depth d, with the play p and the tests A.
-- A verdict is no settlement: after a loss at level 1 or 2 it is true exactly if that level is universal.
pub data Reaches (F : Formula) (Pick : Rule) : ℕ → ℕ → Phase → ℕ → List Bool → Tests → Type 0 where
  start : {A : Tests} → Starts F A → Reaches F Pick 0 0 playing 0 [] A
  move : {n k d : ℕ} {p : List Bool} {A : Tests} → Reaches F Pick n k playing d p A →
      (s : List Bool) → length s ≡ size F d → A (suc d) (p ++ s) ≡ true → Pick d p (A (suc d)) s ≡ true → Reaches F Pick (suc n) k playing (suc d) (p ++ s) A
  loss : {n k d : ℕ} {p : List Bool} {A : Tests} → Reaches F Pick n k playing d p A → Stuck F d p A → Reaches F Pick (suc n) k lost d p A
  settle : {n k d : ℕ} {p : List Bool} {A B : Tests} → Reaches F Pick n k lost (suc (suc d)) p A → Settles F d p A B →
      Reaches F Pick n (suc k) playing d (take (upto F d) p) B
  verdict : {n k d : ℕ} {p : List Bool} {A : Tests} → Reaches F Pick n k lost d p A → d ≤ 1 → Reaches F Pick n k (over (not (owner F d))) d p A

-- A state that a run reaches.
pub record State (F : Formula) (Pick : Rule) : Type 0 where
  pub turns : ℕ
  pub settlements : ℕ
  pub phase : Phase
  pub depth : ℕ
  pub play : List Bool
  pub tests : Tests
  pub reached : Reaches F Pick turns settlements phase depth play tests

-- the state at the end of a run
abbrev pub state_of : {F : Formula} {Pick : Rule} {n k : ℕ} {w : Phase} {d : ℕ} {p : List Bool} {A : Tests} → Reaches F Pick n k w d p A → State F Pick
state_of {F} {Pick} {n} {k} {w} {d} {p} {A} r = record { turns = n; settlements = k; phase = w; depth = d; play = p; tests = A; reached = r }

-- 1 from a loss until its settlement, and after the verdict
abbrev pub late : Phase → ℕ
late playing = 0
late lost = 1
late (over v) = 1
