-- Copies of nodes: what a settlement makes of a core, as a relation between an old circuit and a new one with the same inputs.
-- It does not say how the gates are made: any gate of the new circuit with the right literals will do, an old one too.
use Rattle.std.specs.Prelude.{◌≡◌, ℕ, ◌+◌, ◌-◌, ◌*◌, ◌/◌, ◌<◌, Bool, true, false, cond, not, List, [], ◌∷◌, ◌++◌, length, ◌==◌}
use Rattle.valuation.specs.declared.Value.{Value}
use Rattle.valuation.specs.declared.Value.TheVariants.{Unknown, True}
use Rattle.valuation.specs.Three.{and3, of_bool}
use Rattle.valuation.specs.Circuit.{Pair, gate, Values, negated, lit}

-- what becomes of an input: it stays, or it is a variable of the block that was played (with its play), or one of the block that was lost
pub data Part : Type 0 where
  stays : Part
  played : Bool → Part
  lost : Part

-- the literal of a constant
abbrev pub constant : Bool → ℕ
constant true = 1
constant false = 0

-- the other literal of the same node
abbrev pub opposite : ℕ → ℕ
opposite c = cond (negated c) (c - 1) (c + 1)

-- the polarity of a literal's node, if the literal has the polarity p: a negated literal turns it round
abbrev pub turned : ℕ → Bool → Bool
turned l p = cond (negated l) (not p) p

-- c, turned to its opposite if l is negated
abbrev pub like : ℕ → ℕ → ℕ
like l c = cond (negated l) (opposite c) c

-- the gate that copies g, if a and b copy the nodes of its literals
abbrev pub copied : Pair → ℕ → ℕ → Pair
copied g a b = record { left = like g.left a; right = like g.right b }

-- `Copy first old new part n p c`: the literal c of the new circuit is a copy of the old node n in the polarity p (true: positive)
pub data Copy (first : ℕ) (old new : List Pair) (part : ℕ → Part) : ℕ → Bool → ℕ → Type 0 where
  itself : (n : ℕ) (p : Bool) → n < first → part n ≡ stays → Copy first old new part n p (2 * n)
  by_play : (n : ℕ) (p : Bool) → n < first → (b : Bool) → part n ≡ played b → Copy first old new part n p (constant b)
  by_polarity : (n : ℕ) (p : Bool) → n < first → part n ≡ lost → Copy first old new part n p (constant p)
  by_gate : (k : ℕ) (p : Bool) → k < length old →
      (a : ℕ) → Copy first old new part ((gate old k).left / 2) (turned (gate old k).left p) a →
      (b : ℕ) → Copy first old new part ((gate old k).right / 2) (turned (gate old k).right p) b →
      (j : ℕ) → j < length new → gate new j ≡ copied (gate old k) a b → Copy first old new part (first + k) p (2 * (first + j))

-- `Joined .. ls e`: e is the `and`, in any bracketing, of copies of the literals ls in negative polarity
pub data Joined (first : ℕ) (old new : List Pair) (part : ℕ → Part) : List ℕ → ℕ → Type 0 where
  none : Joined first old new part [] 1
  one : (l c : ℕ) → Copy first old new part (l / 2) (turned l false) c → Joined first old new part (l ∷ []) (like l c)
  two : (ks ls : List ℕ) (a b : ℕ) → Joined first old new part ks a → Joined first old new part ls b →
      (j : ℕ) → j < length new → gate new j ≡ record { left = a; right = b } → Joined first old new part (ks ++ ls) (2 * (first + j))

-- `Copied .. ls cs`: the literals cs are copies of the literals ls in negative polarity, one for each
pub data Copied (first : ℕ) (old new : List Pair) (part : ℕ → Part) : List ℕ → List ℕ → Type 0 where
  no_more : Copied first old new part [] []
  one_more : (l c : ℕ) (ls cs : List ℕ) → Copy first old new part (l / 2) (turned l false) c → Copied first old new part ls cs → Copied first old new part (l ∷ ls) (like l c ∷ cs)

-- what an input has in a play u of the old circuit, beside a play t of the new one: the lost block any setting
abbrev pub Agrees : Part → Value → Value → Type 0
Agrees stays t u = u ≡ t
Agrees (played b) t u = u ≡ of_bool b
Agrees lost t u = Unit {0}

-- the same with the lost block unset
abbrev pub Unset : Part → Value → Value → Type 0
Unset stays t u = u ≡ t
Unset (played b) t u = u ≡ of_bool b
Unset lost t u = u ≡ Unknown

-- A core, as the list of the literals that it makes true.
abbrev pub AllTrue : Values → List ℕ → Type 0
AllTrue v [] = Unit {0}
AllTrue v (l ∷ ls) = (lit v l ≡ True) × AllTrue v ls

-- the values that it forces
abbrev pub forced_by : List ℕ → Values
forced_by [] n = Unknown
forced_by (l ∷ ls) n = cond (l / 2 == n) (of_bool (not (negated l))) (forced_by ls n)

-- the `and` of some literals' values
abbrev pub all_of : Values → List ℕ → Value
all_of v [] = True
all_of v (l ∷ ls) = and3 (lit v l) (all_of v ls)
