-- What is claimed of the values of a circuit. F and G are forced, b and c are settings of the inputs.
use Rattle.std.specs.Prelude.{◌≡◌, ℕ, ◌+◌, ◌/◌, ◌<◌, true, false, ◌≢◌, ◌↔◌, List, ◌++◌, length, take, slice_index_or}
use Rattle.valuation.specs.declared.Value.{Value}
use Rattle.valuation.specs.declared.Value.TheVariants.{Unknown}
use Rattle.valuation.specs.Three.{Below, Agree}
use Rattle.valuation.specs.Sweep.{swept, In, From}
use Rattle.valuation.specs.Reach.{reach, cut}
use Rattle.valuation.specs.Circuit.{Pair, Ascending, Values, nothing, lit, Valuation, reads, node_values, Reached}

-- the computed values satisfy the equation of each node ..
abbrev pub EquationsHold : Type 0
EquationsHold = (first : ℕ) (gs : List Pair) (F b : Values) → Ascending first gs →
    (length (node_values first gs F b) ≡ first + length gs) × Valuation first gs F b (reads (node_values first gs F b))

-- .. and nothing else does
abbrev pub EquationsDetermine : Type 0
EquationsDetermine = (first : ℕ) (gs : List Pair) (F b v w : Values) → Ascending first gs →
    Valuation first gs F b v → Valuation first gs F b w → (n : ℕ) → n < first + length gs → v n ≡ w n

-- so a list that satisfies them is the computed one
abbrev pub OneList : Type 0
OneList = (first : ℕ) (gs : List Pair) (F b : Values) (vs : List Value) → Ascending first gs →
    length vs ≡ first + length gs → Valuation first gs F b (reads vs) → vs ≡ node_values first gs F b

-- they rest on nothing but what is forced and set of the circuit's nodes
abbrev pub SameInputs : Type 0
SameInputs = (first : ℕ) (gs : List Pair) (F G b c : Values) → Ascending first gs →
    ((n : ℕ) → n < first + length gs → F n ≡ G n) → ((n : ℕ) → n < first → b n ≡ c n) → node_values first gs F b ≡ node_values first gs G c

-- More information in, more out: every forced node of x has its forced value in y, and y forces no other.
abbrev pub MoreKnown : Type 0
MoreKnown = (first : ℕ) (gs : List Pair) (F G b c x y : Values) → Ascending first gs →
    Valuation first gs F b x → Valuation first gs G c y →
    ((n : ℕ) → n < first → Below (b n) (c n)) →
    ((n : ℕ) → n < first + length gs → F n ≢ Unknown → y n ≡ F n) →
    ((n : ℕ) → n < first + length gs → F n ≡ Unknown → G n ≡ Unknown) →
    (n : ℕ) → n < first + length gs → Below (x n) (y n)

-- the same where y forces nothing
abbrev pub UnforcedMore : Type 0
UnforcedMore = (first : ℕ) (gs : List Pair) (F b c x y : Values) → Ascending first gs →
    Valuation first gs F b x → Valuation first gs nothing c y →
    ((n : ℕ) → n < first → Below (b n) (c n)) →
    ((n : ℕ) → n < first + length gs → F n ≢ Unknown → y n ≡ F n) →
    (n : ℕ) → n < first + length gs → Below (x n) (y n)

-- more settings, the same nodes forced
abbrev pub SettingsMore : Type 0
SettingsMore = (first : ℕ) (gs : List Pair) (F b c x y : Values) → Ascending first gs →
    Valuation first gs F b x → Valuation first gs F c y → ((n : ℕ) → n < first → Below (b n) (c n)) →
    (n : ℕ) → n < first + length gs → Below (x n) (y n)

-- The play p, with values w, gives the nodes forced in G their values, and agrees with the settings c where both are known. Then
-- fewer of these nodes forced (F) and settings b below c say no more.
abbrev pub CoreMore : Type 0
CoreMore = (first : ℕ) (gs : List Pair) (F G p b c w x y : Values) → Ascending first gs →
    Valuation first gs nothing p w → ((n : ℕ) → n < first + length gs → G n ≢ Unknown → w n ≡ G n) →
    ((n : ℕ) → n < first → Agree (p n) (c n)) →
    Valuation first gs F b x → Valuation first gs G c y →
    ((n : ℕ) → n < first + length gs → Below (F n) (G n)) →
    ((n : ℕ) → n < first → Below (b n) (c n)) →
    (n : ℕ) → n < first + length gs → Below (x n) (y n)

-- with every input known, every node is
abbrev pub AllKnown : Type 0
AllKnown = (first : ℕ) (gs : List Pair) (b v : Values) → Ascending first gs → Valuation first gs nothing b v →
    ((n : ℕ) → n < first → b n ≢ Unknown) → (l : ℕ) → l / 2 < first + length gs → lit v l ≢ Unknown

-- gates appended later change no earlier node ..
abbrev pub AppendingKeeps : Type 0
AppendingKeeps = (first : ℕ) (gs hs : List Pair) (F b v w : Values) → Ascending first gs →
    Valuation first gs F b v → Valuation first (gs ++ hs) F b w → (n : ℕ) → n < first + length gs → w n ≡ v n

-- .. so a computation may stop at the node that is asked for
abbrev pub StoppingKeeps : Type 0
StoppingKeeps = (first : ℕ) (gs hs : List Pair) (F b : Values) →
    take (first + length gs) (node_values first (gs ++ hs) F b) ≡ node_values first gs F b

-- a sweep marks exactly what some way leads to
abbrev pub SweepExact : Type 0
SweepExact = (next : ℕ → List ℕ) (size : ℕ) (start : List ℕ) → ((i j : ℕ) → In j (next i) → j < i) → ((i : ℕ) → In i start → i < size) →
    (i : ℕ) → (slice_index_or (swept next size start) i false ≡ true) ↔ From next start i

-- the computed marks are on the reached nodes
abbrev pub ReachExact : Type 0
ReachExact = (first : ℕ) (gs : List Pair) (v : Values) (root : ℕ) → Ascending first gs → 0 < first → root < first + length gs →
    (n : ℕ) → (slice_index_or (reach first gs v root) n false ≡ true) ↔ Reached first gs v root n

-- The cut: z is known of the lower play b₀ alone, y of the play b that has the range set too; x forces what z knows of the
-- reached nodes, but for node 0, and has else only the settings that b adds. Each reached node has the same value in x and y.
abbrev pub CutExact : Type 0
CutExact = (first : ℕ) (gs : List Pair) (root : ℕ) (F b₀ b c x y z : Values) → Ascending first gs →
    Valuation first gs nothing b₀ z → Valuation first gs nothing b y → Valuation first gs F c x →
    ((n : ℕ) → n < first → Below (b₀ n) (b n)) →
    ((n : ℕ) → n < first → b₀ n ≡ Unknown → c n ≡ b n) →
    F 0 ≡ Unknown → c 0 ≡ b 0 → 0 < first →
    ((n : ℕ) → Reached first gs z root n → n ≢ 0 → F n ≡ z n) →
    (n : ℕ) → n < first + length gs → Reached first gs z root n → x n ≡ y n

-- the same as computed: with the cut of the lower play forced, each reached node has its value under play and setting together
abbrev pub CutRight : Type 0
CutRight = (first : ℕ) (gs : List Pair) (root : ℕ) (b₀ b c : Values) → Ascending first gs → 0 < first → root < first + length gs →
    ((n : ℕ) → n < first → Below (b₀ n) (b n)) →
    ((n : ℕ) → n < first → b₀ n ≡ Unknown → c n ≡ b n) → c 0 ≡ b 0 →
    (n : ℕ) → Reached first gs (reads (node_values first gs nothing b₀)) root n →
    reads (node_values first gs (cut first gs (reads (node_values first gs nothing b₀)) root) c) n ≡ reads (node_values first gs nothing b) n

-- what the cut forces has that value
abbrev pub CutSound : Type 0
CutSound = (first : ℕ) (gs : List Pair) (v : Values) (root n : ℕ) → cut first gs v root n ≢ Unknown → v n ≡ cut first gs v root n
