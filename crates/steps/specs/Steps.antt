-- The start, turns and settlements on a circuit are steps of the abstract run.
use Rattle.std.specs.Prelude.{◌≡◌, ℕ, suc, pred, ◌+◌, ◌/◌, ◌<◌, Bool, true, false, cond, ◌≢◌, List, ◌++◌, map, length, replicate, ◌==◌, nat_lt}
use Rattle.game.specs.Prefix.{Formula, blocks, owner, size, upto}
use Rattle.game.specs.Run.{Tests, Starts, Stuck, Settles}
use Rattle.valuation.specs.declared.Value.{Value}
use Rattle.valuation.specs.declared.Value.TheVariants.{Unknown, False, True}
use Rattle.valuation.specs.Three.{of_bool}
use Rattle.valuation.specs.Circuit.{Pair, Ascending, Values, nothing, reads, settings_from, node_values}
use Rattle.valuation.specs.Sweep.{In}
use Rattle.valuation.specs.Reach.{cut}
use Rattle.copies.specs.Copy.{Part, opposite, AllTrue, forced_by}
use Rattle.copies.specs.Make.{Nodes, part_by, core_of, settle_gates, settle_root}
use Rattle.copies.specs.Claims.{value, Rests}

-- the settings of the inputs by a play: bit n for variable n + 1; what is not played is unknown
abbrev pub base_of : List Bool → Values
base_of t = settings_from 1 (map of_bool t)

-- A table of plays, with the entries after the play p not set, gives the same settings.
abbrev pub PlaysSet : Type 0
PlaysSet = (p : List Bool) (k : ℕ) → settings_from 1 (map of_bool p ++ replicate k Unknown) ≡ base_of p

-- the variables after the first k set to s, and no other
abbrev pub range_of : ℕ → List Bool → Values
range_of k s = settings_from (suc k) (map of_bool s)

-- whether a value is not false
abbrev pub not_false : Value → Bool
not_false Unknown = true
not_false False = false
not_false True = true

-- the test of level j: its root is not false there
abbrev pub tests : ℕ → List Pair → (ℕ → ℕ) → Tests
tests first gs roots j t = not_false (value first gs nothing (base_of t) (roots j))

-- The circuit of a run. Its inputs are node 0 and the variables, its gates ascend, and level j's root rests only on blocks 1 to j.
pub record Rooted (F : Formula) (first : ℕ) (gs : List Pair) (roots : ℕ → ℕ) : Type 0 where
  pub inputs : first ≡ suc (upto F (blocks F))
  pub ascending : Ascending first gs
  pub low : (j : ℕ) → roots j / 2 < first + length gs
  pub rests : (j : ℕ) → Rests first gs (suc (upto F j)) (roots j / 2)

-- level n's root at the start, with n blocks: the output, or its opposite for a universal block n
abbrev pub last_root : Formula → ℕ → ℕ
last_root F out = cond (owner F (pred (blocks F))) out (opposite out)

-- the roots at the start: literal 1 below level n, and past it the opposite of level n's
abbrev pub first_roots : Formula → ℕ → ℕ → ℕ
first_roots F out j = cond (nat_lt j (blocks F)) 1 (cond (j == blocks F) (last_root F out) (opposite (last_root F out)))

-- whether a value is true
abbrev pub is_true : Value → Bool
is_true Unknown = false
is_true False = false
is_true True = true

-- the matrix of a formula is the output of a circuit
abbrev pub Matrix : Formula → ℕ → List Pair → ℕ → Type 0
Matrix F first gs out = (t : List Bool) → F.matrix t ≡ is_true (value first gs nothing (base_of t) out)

-- The roots at the start give the tests at the start ..
abbrev pub StartsRight : Type 0
StartsRight = (F : Formula) (first : ℕ) (gs : List Pair) (out : ℕ) → Ascending first gs → first ≡ suc (upto F (blocks F)) → out / 2 < first + length gs →
    Matrix F first gs out → Starts F (tests first gs (first_roots F out))

-- .. and rest on the blocks up to their levels.
abbrev pub StartsRooted : Type 0
StartsRooted = (F : Formula) (first : ℕ) (gs : List Pair) (out : ℕ) → Ascending first gs → first ≡ suc (upto F (blocks F)) → out / 2 < first + length gs →
    Rooted F first gs (first_roots F out)

-- what a turn forces under the play p: the known ones of the nodes reached from the root
abbrev pub Forces : ℕ → List Pair → ℕ → List Bool → Values → Type 0
Forces first gs root p forced = (n : ℕ) → n < first + length gs → forced n ≡ cut first gs (reads (node_values first gs nothing (base_of p))) (root / 2) n

-- In a turn's query, with these nodes forced and only the range set, the root has its value under play and setting together.
abbrev pub QueryRight : Type 0
QueryRight = (first : ℕ) (gs : List Pair) (root : ℕ) (p s : List Bool) (forced : Values) → Ascending first gs → 0 < first → root / 2 < first + length gs →
    Forces first gs root p forced → value first gs forced (range_of (length p) s) root ≡ value first gs nothing (base_of (p ++ s)) root

-- So a setting that is not refuted passes its level's test ..
abbrev pub MoveRight : Type 0
MoveRight = (F : Formula) (d : ℕ) (p s : List Bool) (first : ℕ) (gs : List Pair) (roots : ℕ → ℕ) (forced : Values) → Rooted F first gs roots →
    Forces first gs (roots (suc d)) p forced → value first gs forced (range_of (length p) s) (roots (suc d)) ≢ False → tests first gs roots (suc d) (p ++ s) ≡ true

-- .. and where every setting is refuted, the level is lost.
abbrev pub LossRight : Type 0
LossRight = (F : Formula) (d : ℕ) (p : List Bool) (first : ℕ) (gs : List Pair) (roots : ℕ → ℕ) (forced : Values) → Rooted F first gs roots →
    Forces first gs (roots (suc d)) p forced →
    ((s : List Bool) → length s ≡ size F d → value first gs forced (range_of (length p) s) (roots (suc d)) ≡ False) → Stuck F d p (tests first gs roots)

-- the nodes of level d + 1's block
abbrev pub block_of : Formula → ℕ → Nodes
block_of F d = record { start = suc (upto F d); stop = suc (upto F (suc d)) }

-- what a settlement after a loss at level d + 3 does with the inputs
abbrev pub part_after : Formula → ℕ → List Bool → ℕ → Part
part_after F d p = part_by (block_of F (suc d)) (block_of F (suc (suc d))) (base_of p)

-- the gates after it, and the roots
abbrev pub gates_after : Formula → ℕ → List Bool → ℕ → List Pair → (ℕ → ℕ) → List ℕ → List Pair
gates_after F d p first gs roots core = gs ++ settle_gates first gs (part_after F d p) core (roots (suc d))

abbrev pub roots_after : Formula → ℕ → List Bool → ℕ → List Pair → (ℕ → ℕ) → List ℕ → ℕ → ℕ
roots_after F d p first gs roots core j = cond (j == suc d) (settle_root first gs (part_after F d p) core) (roots j)

-- After a loss at level d + 3 whose core alone refutes every setting and is known of the play, the settlement is one of the abstract run.
abbrev pub SettlementSteps : Type 0
SettlementSteps = (F : Formula) (d : ℕ) (p : List Bool) (first : ℕ) (gs : List Pair) (roots : ℕ → ℕ) (core : List ℕ) → Rooted F first gs roots →
    ((l : ℕ) → In l core → l / 2 < first + length gs) → length p ≡ upto F (suc (suc d)) →
    AllTrue (reads (node_values first gs nothing (base_of p))) core →
    ((s : List Bool) → length s ≡ size F (suc (suc d)) → value first gs (forced_by core) (range_of (length p) s) (roots (suc (suc (suc d)))) ≡ False) →
    Settles F d p (tests first gs roots) (tests first (gates_after F d p first gs roots core) (roots_after F d p first gs roots core))

-- A lost turn, from what a searcher promises: with the forced nodes that it marks, and no other, every setting is refuted.
pub record LostTurn (first : ℕ) (gs : List Pair) (root : ℕ) (p : List Bool) (width : ℕ) (marks : ℕ → Bool) (forced : Values) : Type 0 where
  pub by_cut : Forces first gs root p forced
  pub by_core : (s : List Bool) → length s ≡ width → value first gs (λ n. cond (marks n) (forced n) Unknown) (range_of (length p) s) root ≡ False

-- Its settlement, by the marks, is one of the abstract run, and its circuit again one of a run.
pub record LostSteps (F : Formula) (d : ℕ) (p : List Bool) (first : ℕ) (gs : List Pair) (roots : ℕ → ℕ) (core : List ℕ) : Type 0 where
  pub settlement : Settles F d p (tests first gs roots) (tests first (gates_after F d p first gs roots core) (roots_after F d p first gs roots core))
  pub rooted : Rooted F first (gates_after F d p first gs roots core) (roots_after F d p first gs roots core)

abbrev pub LostRight : Type 0
LostRight = (F : Formula) (d : ℕ) (p : List Bool) (first : ℕ) (gs : List Pair) (roots : ℕ → ℕ) (marks : ℕ → Bool) (forced : Values) → Rooted F first gs roots →
    length p ≡ upto F (suc (suc d)) → LostTurn first gs (roots (suc (suc (suc d)))) p (size F (suc (suc d))) marks forced →
    LostSteps F d p first gs roots (core_of marks forced (first + length gs))
