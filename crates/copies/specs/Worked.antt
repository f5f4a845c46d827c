-- Worked settlements, computed, and two shortcuts that are wrong.
use Rattle.std.specs.Prelude.{◌≡◌, ℕ, ◌+◌, Bool, true, false, List, [], ◌∷◌, ◌++◌, length, slice_index_or}
use Rattle.valuation.specs.declared.Value.{Value}
use Rattle.valuation.specs.declared.Value.TheVariants.{False, True}
use Rattle.valuation.specs.Three.{of_bool}
use Rattle.valuation.specs.Circuit.{Pair, nothing, reads, settings_from, node_values}
use Rattle.copies.specs.Copy.{Part, stays, played, lost}
use Rattle.copies.specs.Make.{Nodes, part_by, core_of, settle_gates, settle_root}
use Rattle.copies.specs.Claims.{value}

abbrev pub pair : ℕ → ℕ → Pair
pair l r = record { left = l; right = r }

-- A settlement to be worked out: the circuit, the play of the levels below the lost one, the nodes of that level and of the one below it,
-- the core's marks by nodes, and the root that is replaced.
pub record Case : Type 0 where
  pub first : ℕ
  pub gates : List Pair
  pub play : List Value
  pub below : Nodes
  pub mine : Nodes
  pub marks : List Bool
  pub root : ℕ

-- its core, of the values under the play
abbrev pub case_core : Case → List ℕ
case_core c = core_of (λ n. slice_index_or c.marks n false) (reads (node_values c.first c.gates nothing (settings_from 1 c.play))) (c.first + length c.gates)

-- what becomes of its inputs
abbrev pub case_part : Case → ℕ → Part
case_part c = part_by c.below c.mine (settings_from 1 c.play)

-- the gates that it appends, and its new root, by a way to treat the inputs
abbrev pub case_gates : (Part → Part) → Case → List Pair
case_gates way c = settle_gates c.first c.gates (λ n. way (case_part c n)) (case_core c) c.root

abbrev pub case_root : (Part → Part) → Case → ℕ
case_root way c = settle_root c.first c.gates (λ n. way (case_part c n)) (case_core c)

-- the new root's value under a play
abbrev pub case_value : (Part → Part) → Case → List Value → Value
case_value way c t = value c.first (c.gates ++ case_gates way c) nothing (settings_from 1 t) (case_root way c)

-- each input as it is
abbrev pub right_way : Part → Part
right_way p = p

-- 1 for every variable of the lost block
abbrev pub by_ones : Part → Part
by_ones stays = stays
by_ones (played b) = played b
by_ones lost = played true

-- by polarity for the variables of the block below too
abbrev pub by_polarities : Part → Part
by_polarities stays = stays
by_polarities (played b) = lost
by_polarities lost = lost

-- The blocks E (1, 2), A (3), E (4), where the output literal 14 is: 1 and 4, and 2 or 3. First level 3 loses after all of 1, 2 and 3 were played false ..
abbrev pub first_case : Case
first_case = record {
  first = 5;
  gates = pair 2 8 ∷ pair 5 7 ∷ pair 10 13 ∷ [];
  play = False ∷ False ∷ False ∷ [];
  below = record { start = 3; stop = 4 };
  mine = record { start = 4; stop = 5 };
  marks = false ∷ false ∷ false ∷ false ∷ false ∷ false ∷ false ∷ true ∷ [];
  root = 1;
}

-- .. then the level past the last block, after 1, 2 and 4 were played true and 3 false.
abbrev pub second_case : Case
second_case = record {
  first = 5;
  gates = first_case.gates ++ case_gates right_way first_case;
  play = True ∷ True ∷ False ∷ True ∷ [];
  below = record { start = 4; stop = 5 };
  mine = record { start = 5; stop = 5 };
  marks = false ∷ false ∷ false ∷ false ∷ false ∷ false ∷ false ∷ true ∷ [];
  root = 1;
}

-- The two settlements make four gates and three.
pub record WorkedSettlements : Type 0 where
  pub first_core : case_core first_case ≡ 15 ∷ []
  pub first_gates : case_gates right_way first_case ≡ pair 2 1 ∷ pair 5 1 ∷ pair 16 19 ∷ pair 1 20 ∷ []
  pub first_root : case_root right_way first_case ≡ 22
  pub second_core : case_core second_case ≡ 14 ∷ []
  pub second_gates : case_gates right_way second_case ≡ pair 2 1 ∷ pair 24 13 ∷ pair 1 27 ∷ []
  pub second_root : case_root right_way second_case ≡ 28

-- The blocks E (1, 2, 3), A (4), E (5, 6), where the output literal 26 is: 1 and 2, or 6, implies not 5; 3 and 4, or not 6, implies 5.
-- Level 3 loses after all of 1 to 4 were played true.
abbrev pub ones_case : Case
ones_case = record {
  first = 7;
  gates = pair 2 4 ∷ pair 15 13 ∷ pair 17 10 ∷ pair 6 8 ∷ pair 21 12 ∷ pair 23 11 ∷ pair 19 25 ∷ [];
  play = True ∷ True ∷ True ∷ True ∷ [];
  below = record { start = 4; stop = 5 };
  mine = record { start = 5; stop = 7 };
  marks = false ∷ false ∷ false ∷ false ∷ false ∷ false ∷ false ∷ false ∷ true ∷ false ∷ false ∷ true ∷ false ∷ false ∷ [];
  root = 1;
}

-- the play of block 1 that a shortcut forbids
abbrev pub still_wins : List Value
still_wins = False ∷ False ∷ True ∷ []

-- 1 for every forgotten variable is wrong: it forbids a play that wins against both replies. The right settlement forbids the lost play and not that one.
pub record OnesWrong : Type 0 where
  pub lost : (z w : Bool) → value 7 ones_case.gates nothing (settings_from 1 (ones_case.play ++ (of_bool z ∷ of_bool w ∷ []))) 26 ≡ False
  pub wins : (y : Bool) → value 7 ones_case.gates nothing (settings_from 1 (still_wins ++ (of_bool y ∷ True ∷ False ∷ []))) 26 ≡ True
  pub forbidden : case_value by_ones ones_case still_wins ≡ False
  pub allowed : case_value right_way ones_case still_wins ≡ True
  pub settled : case_value right_way ones_case (True ∷ True ∷ True ∷ []) ≡ False

-- Forgetting the opponent's variable by polarity is wrong: the second settlement then learns nothing, so that the lost play passes again.
pub record PolaritiesWrong : Type 0 where
  pub nothing_learned : (x y z : Value) → case_value by_polarities second_case (x ∷ y ∷ z ∷ []) ≡ True
  pub settled : case_value right_way second_case (True ∷ True ∷ False ∷ []) ≡ False
