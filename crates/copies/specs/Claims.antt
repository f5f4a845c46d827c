-- What is claimed of copies and of a settlement. A play t of the new circuit gives it the values w, a play t' of the old one the values u.
use Rattle.std.specs.Prelude.{◌≡◌, ℕ, ◌+◌, ◌-◌, ◌*◌, ◌/◌, ◌<◌, Bool, true, cond, ◌≢◌, List, [], ◌∷◌, ◌++◌, length, nat_lt}
use Rattle.valuation.specs.declared.Value.{Value}
use Rattle.valuation.specs.declared.Value.TheVariants.{Unknown, False}
use Rattle.valuation.specs.Three.{not3, and3, Keeps, Below}
use Rattle.valuation.specs.Circuit.{Pair, gate, Ascending, Values, nothing, lit, Valuation, reads, node_values, Reached}
use Rattle.valuation.specs.Sweep.{In}
use Rattle.copies.specs.Copy.{Part, stays, opposite, Copy, Joined, Copied, Agrees, Unset, AllTrue, forced_by, all_of}
use Rattle.copies.specs.Make.{core_of, made, joined, settle_gates, settle_root}

-- A positive copy that is false, or a negative one that is true, has the value of its node with the play of the block below and every setting of the lost block.
abbrev pub CopiesJust : Type 0
CopiesJust = (first : ℕ) (old new : List Pair) (part : ℕ → Part) (t t' u w : Values) → 0 < first → t 0 ≡ False →
    Valuation first old nothing t' u → Valuation first new nothing t w → ((n : ℕ) → n < first → Agrees (part n) (t n) (t' n)) →
    (n : ℕ) (p : Bool) (c : ℕ) → Copy first old new part n p c → Keeps p (lit w c) (u n)

-- What a node is known to be with the lost block unset, both its copies are.
abbrev pub CopiesOwn : Type 0
CopiesOwn = (first : ℕ) (old new : List Pair) (part : ℕ → Part) (t t' u w : Values) → 0 < first → t 0 ≡ False →
    Valuation first old nothing t' u → Valuation first new nothing t w → ((n : ℕ) → n < first → Unset (part n) (t n) (t' n)) →
    (n : ℕ) (p : Bool) (c : ℕ) → Copy first old new part n p c → Below (u n) (lit w c)

-- The new root is gate m, the `and` of the old root r and of the opposite of the joined copies e.
-- Where it is false and the old one is not, the loss holds: the root q, false with the core forced and the setting s, is false there.
abbrev pub SettlesJust : Type 0
SettlesJust = (first : ℕ) (old new : List Pair) (part : ℕ → Part) (t t' s u w x : Values) (core : List ℕ) (e r q m : ℕ) → Ascending first old → 0 < first → t 0 ≡ False →
    Joined first old new part core e → m < length new → gate new m ≡ record { left = r; right = opposite e } →
    Valuation first old nothing t' u → Valuation first new nothing t w → ((n : ℕ) → n < first → Agrees (part n) (t n) (t' n)) →
    Valuation first old (forced_by core) s x → ((n : ℕ) → n < first → Below (s n) (t' n)) → q / 2 < first + length old → lit x q ≡ False →
    lit w r ≢ False → lit w (2 * (first + m)) ≡ False → lit u q ≡ False

-- It is false where the old one is.
abbrev pub SettlesFalls : Type 0
SettlesFalls = (first : ℕ) (new : List Pair) (t w : Values) (e r m : ℕ) → m < length new → gate new m ≡ record { left = r; right = opposite e } →
    Valuation first new nothing t w → lit w r ≡ False → lit w (2 * (first + m)) ≡ False

-- It is false at the present play, where the core's literals are true.
abbrev pub SettlesOwn : Type 0
SettlesOwn = (first : ℕ) (old new : List Pair) (part : ℕ → Part) (t t' u w : Values) (core : List ℕ) (e r m : ℕ) → 0 < first → t 0 ≡ False →
    Joined first old new part core e → m < length new → gate new m ≡ record { left = r; right = opposite e } →
    Valuation first old nothing t' u → Valuation first new nothing t w → ((n : ℕ) → n < first → Unset (part n) (t n) (t' n)) →
    AllTrue u core → lit w (2 * (first + m)) ≡ False

-- A core that is given by marks: where the marked nodes have their forced values its literals are true ..
abbrev pub CoreTrue : Type 0
CoreTrue = (marks : ℕ → Bool) (F v : Values) (size : ℕ) → ((n : ℕ) → n < size → F n ≢ Unknown → marks n ≡ true → v n ≡ F n) → AllTrue v (core_of marks F size)

-- .. what it forces are the marked nodes, with their values ..
abbrev pub CoreForces : Type 0
CoreForces = (marks : ℕ → Bool) (F : Values) (size n : ℕ) → n < size → forced_by (core_of marks F size) n ≡ cond (marks n) (F n) Unknown

-- .. and its literals are those of marked nodes that are known.
abbrev pub CoreMarked : Type 0
CoreMarked = (marks : ℕ → Bool) (F : Values) (size l : ℕ) → In l (core_of marks F size) → (l / 2 < size) × (marks (l / 2) ≡ true) × (F (l / 2) ≢ Unknown)

-- Values that agree at the marked nodes give the same core.
abbrev pub CoreSame : Type 0
CoreSame = (marks : ℕ → Bool) (F G : Values) (size : ℕ) → ((n : ℕ) → n < size → marks n ≡ true → F n ≡ G n) → core_of marks F size ≡ core_of marks G size

-- What a settlement makes is right: the gates ascend, its joined copies are copies of the core, and gate m is the new root.
pub record MadeWell (first : ℕ) (old new : List Pair) (part : ℕ → Part) (core : List ℕ) (e r m : ℕ) : Type 0 where
  pub ascending : Ascending first new
  pub copies : Joined first old new part core e
  pub inside : m < length new
  pub root : gate new m ≡ record { left = r; right = opposite e }

abbrev pub SettlementMade : Type 0
SettlementMade = (first : ℕ) (old : List Pair) (part : ℕ → Part) (core : List ℕ) (r : ℕ) → Ascending first old → 0 < first →
    r / 2 < first + length old → ((l : ℕ) → In l core → l / 2 < first + length old) →
    MadeWell first old (old ++ settle_gates first old part core r) part core (joined first old part core).literal r (length (old ++ (joined first old part core).gates))

-- the value of a literal, as computed
abbrev pub value : ℕ → List Pair → Values → Values → ℕ → Value
value first gs F b l = lit (reads (node_values first gs F b)) l

-- A settlement on the computed values: r is the root that it replaces by r', q the root of the lost level.
pub record SettledWell (first : ℕ) (old new : List Pair) (part : ℕ → Part) (core : List ℕ) (r r' q : ℕ) : Type 0 where
  pub ascending : Ascending first new
  pub earlier : (F t : Values) (l : ℕ) → l / 2 < first + length old → value first new F t l ≡ value first old F t l
  pub falls : (t : Values) → value first old nothing t r ≡ False → value first new nothing t r' ≡ False
  pub own : (t t' : Values) → t 0 ≡ False → ((n : ℕ) → n < first → Unset (part n) (t n) (t' n)) →
      AllTrue (reads (node_values first old nothing t')) core → value first new nothing t r' ≡ False
  pub just : (t t' s : Values) → t 0 ≡ False → ((n : ℕ) → n < first → Agrees (part n) (t n) (t' n)) → ((n : ℕ) → n < first → Below (s n) (t' n)) →
      value first old (forced_by core) s q ≡ False → value first old nothing t r ≢ False → value first new nothing t r' ≡ False → value first old nothing t' q ≡ False

abbrev pub SettlementRight : Type 0
SettlementRight = (first : ℕ) (old : List Pair) (part : ℕ → Part) (core : List ℕ) (r q : ℕ) → Ascending first old → 0 < first →
    r / 2 < first + length old → q / 2 < first + length old → ((l : ℕ) → In l core → l / 2 < first + length old) →
    SettledWell first old (old ++ settle_gates first old part core r) part core r (settle_root first old part core) q

-- The new root r' has, under every play, the value of the old root r and not the copied core: cs are the copies of its literals.
pub record RootValued (first : ℕ) (old new : List Pair) (part : ℕ → Part) (core : List ℕ) (r r' : ℕ) : Type 0 where
  pub cs : List ℕ
  pub copies : Copied first old new part core cs
  pub valued : (t : Values) → t 0 ≡ False → value first new nothing t r' ≡ and3 (value first old nothing t r) (not3 (all_of (reads (node_values first new nothing t)) cs))

abbrev pub RootValue : Type 0
RootValue = (first : ℕ) (old : List Pair) (part : ℕ → Part) (core : List ℕ) (r : ℕ) → Ascending first old → 0 < first →
    r / 2 < first + length old → ((l : ℕ) → In l core → l / 2 < first + length old) →
    RootValued first old (old ++ settle_gates first old part core r) part core r (settle_root first old part core)

-- how many of some literals are those of nodes from `size` on
abbrev pub beyond : ℕ → List ℕ → ℕ
beyond size [] = 0
beyond size (c ∷ cs) = cond (nat_lt c (2 * size)) 0 1 + beyond size cs

-- The number of gates made: one for each copy that is new, one less than the core's literals (none if there are none), and the new root.
abbrev pub GatesCounted : Type 0
GatesCounted = (first : ℕ) (old : List Pair) (part : ℕ → Part) (core : List ℕ) (r : ℕ) → 0 < first →
    length (settle_gates first old part core r) ≡ beyond (first + length old) (made first old part core).copies + (length core - 1) + 1

-- A node rests on the inputs below k: no other input is below it.
abbrev pub Rests : ℕ → List Pair → ℕ → ℕ → Type 0
Rests first gs k root = (n : ℕ) → n < first → Reached first gs nothing root n → n < k

-- so its value is the same under plays that agree there
abbrev pub RestsValued : Type 0
RestsValued = (first : ℕ) (gs : List Pair) (k l : ℕ) (b c : Values) → Ascending first gs → 0 < first → l / 2 < first + length gs →
    Rests first gs k (l / 2) → ((n : ℕ) → n < k → b n ≡ c n) → value first gs nothing b l ≡ value first gs nothing c l

-- gates appended later change nothing of it
abbrev pub RestsEarlier : Type 0
RestsEarlier = (first : ℕ) (old more : List Pair) (k root : ℕ) → Ascending first old → 0 < first → root < first + length old →
    Rests first old k root → Rests first (old ++ more) k root

-- A settlement's root rests on the inputs below lo, where the old root does and of the inputs that the core rests on only those below lo stay.
abbrev pub RestsKept : Type 0
RestsKept = (first : ℕ) (old : List Pair) (part : ℕ → Part) (core : List ℕ) (r lo hi : ℕ) → Ascending first old → 0 < first → 0 < lo →
    r / 2 < first + length old → ((l : ℕ) → In l core → l / 2 < first + length old) →
    Rests first old lo (r / 2) → ((l : ℕ) → In l core → Rests first old hi (l / 2)) → ((n : ℕ) → n < hi → part n ≡ stays → n < lo) →
    Rests first (old ++ settle_gates first old part core r) lo (settle_root first old part core / 2)
