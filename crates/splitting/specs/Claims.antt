-- What is claimed of the splitter's meaning.
use Rattle.std.specs.Prelude.{◌≡◌, ℕ, ◌+◌, ◌/◌, ◌<◌, ◌≤◌, Bool, ◌≢◌, ◌⊎◌, List, [], ◌∷◌, ◌++◌, length, take}
use Rattle.valuation.specs.declared.Value.TheVariants.{Unknown, False}
use Rattle.valuation.specs.Circuit.{Pair, Ascending, Values, lit, Valuation}
use Rattle.valuation.specs.Sweep.{From}
use Rattle.search.specs.Queries.{Query}
use Rattle.search.specs.Answers.{Keeps, only, loses}
use Rattle.splitting.specs.Blame.{blames, core}
use Rattle.splitting.specs.Tree.{root_at, splits}

-- the splitter keeps what every searcher keeps
abbrev pub SplitterKeeps : Type 0
SplitterKeeps = Keeps splits

-- With only the blamed forced nodes forced and the same settings, every blamed node keeps its value.
abbrev pub BlameKeeps : Type 0
BlameKeeps = (first : ℕ) (gs : List Pair) (F b v w : Values) (root : ℕ) → Ascending first gs → 0 < first → root / 2 < first + length gs →
    Valuation first gs F b v → Valuation first gs (only (core first gs F v (root / 2)) F) b w → lit v root ≢ Unknown →
    (n : ℕ) → From (blames first gs F v) (root / 2 ∷ []) n → w n ≡ v n

-- the nodes of the tree: the start, and two below each where the root is unknown and a variable unset
pub data Node (q : Query) : List Bool → Type 0 where
  start : Node q []
  below : (s : List Bool) (b : Bool) → Node q s → root_at q s ≡ Unknown → length s < q.free → Node q (s ++ (b ∷ []))

-- a branch ends where the root is known or no variable is unset
pub record End (q : Query) (s : List Bool) : Type 0 where
  pub node : Node q s
  pub ends : (root_at q s ≢ Unknown) ⊎ (length s ≡ q.free)

-- The tree covers every setting once: each begins with exactly one end of a branch.
abbrev pub EverySettingCovered : Type 0
EverySettingCovered = (q : Query) (t : List Bool) → length t ≡ q.free →
    (n : ℕ) × ((n ≤ q.free) × End q (take n t) × ((m : ℕ) → m ≤ q.free → End q (take m t) → m ≡ n))

-- no move: every branch ends refuted
abbrev pub NoMoveRefutes : Type 0
NoMoveRefutes = (q : Query) (c : List Bool) → (splits q).outcome ≡ loses c → (s : List Bool) → End q s → root_at q s ≡ False
