-- The copies of a core as a settlement makes them: one pass down for the copies that are needed, one pass up that makes them.
-- Place 2n stands for the positive copy of node n, place 2n + 1 for the negative one, so the pass up goes by nodes, positive first.
use Rattle.std.specs.Prelude.{ℕ, zero, suc, ◌+◌, ◌-◌, ◌*◌, ◌/◌, Bool, true, false, cond, not, ◌&&◌, List, [], ◌∷◌, ◌++◌, map, length, ◌==◌, nat_le, nat_lt, slice_index, slice_index_or}
use Rattle.valuation.specs.declared.Value.{Value}
use Rattle.valuation.specs.declared.Value.TheVariants.{Unknown, False, True}
use Rattle.valuation.specs.Circuit.{Pair, gate, Values, negated}
use Rattle.valuation.specs.Sweep.{swept}
use Rattle.copies.specs.Copy.{Part, stays, played, lost, constant, opposite, like, copied}

-- The nodes from `start` on and below `stop`.
pub record Nodes : Type 0 where
  pub start : ℕ
  pub stop : ℕ

-- whether a node is one of them
abbrev pub inside : Nodes → ℕ → Bool
inside r n = nat_le r.start n && nat_lt n r.stop

-- what becomes of a variable that was played: its play
abbrev pub by_value : Value → Part
by_value Unknown = stays
by_value False = played false
by_value True = played true

-- what becomes of each input: `mine` are the nodes of the level that lost, `below` those of the level below it
abbrev pub part_by : Nodes → Nodes → Values → ℕ → Part
part_by below mine play n = cond (inside mine n) lost (cond (inside below n) (by_value (play n)) stays)

-- the literal of a node that its value makes true, if it is known
abbrev pub literal_for : Value → ℕ → List ℕ
literal_for Unknown n = []
literal_for False n = (2 * n + 1) ∷ []
literal_for True n = (2 * n) ∷ []

-- the core's literals, by nodes: of each marked node the literal that its value makes true
abbrev pub core_of : (ℕ → Bool) → Values → ℕ → List ℕ
core_of marks values zero = []
core_of marks values (suc n) = core_of marks values n ++ cond (marks n) (literal_for (values n) n) []

-- the gate of a place
abbrev pub gate_at : ℕ → List Pair → ℕ → Pair
gate_at first old l = gate old (l / 2 - first)

-- the places that a place needs
abbrev pub needs : ℕ → List Pair → ℕ → List ℕ
needs first old l = cond (nat_lt (l / 2) first) [] (like l (gate_at first old l).left ∷ like l (gate_at first old l).right ∷ [])

-- the places that a core needs: its literals in negative polarity, and all that these need
abbrev pub needed : ℕ → List Pair → List ℕ → List Bool
needed first old core = swept (needs first old) (2 * (first + length old)) (map opposite core)

-- The copies so far, by places (0 where none is needed), and the gates made for them.
pub record Made : Type 0 where
  pub copies : List ℕ
  pub gates : List Pair

-- the copy of an input, at a place
abbrev pub input_copy : Part → ℕ → ℕ
input_copy stays l = 2 * (l / 2)
input_copy (played b) l = constant b
input_copy lost l = constant (not (negated l))

-- one more place, with its copy
abbrev pub with_copy : Made → ℕ → Made
with_copy m c = record { copies = m.copies ++ (c ∷ []); gates = m.gates }

-- the literal of the next gate
abbrev pub fresh : ℕ → List Pair → List Pair → ℕ
fresh first old hs = 2 * (first + length (old ++ hs))

-- one more place, with a new gate for its copy
abbrev pub with_gate : ℕ → List Pair → Made → Pair → Made
with_gate first old m g = record { copies = m.copies ++ (fresh first old m.gates ∷ []); gates = m.gates ++ (g ∷ []) }

-- one more place, of the gate g: the gate itself, where its copy h has the same literals
abbrev pub unless_same : ℕ → List Pair → Made → ℕ → Pair → Pair → Made
unless_same first old m l g h = cond (h.left == g.left && h.right == g.right) (with_copy m (2 * (l / 2))) (with_gate first old m h)

-- the copy of the gate g, at a place
abbrev pub gate_copy : ℕ → Pair → Made → Pair
gate_copy l g m = copied g (slice_index m.copies (like l g.left)) (slice_index m.copies (like l g.right))

-- one more place
abbrev pub make_one : ℕ → List Pair → (ℕ → Part) → List Bool → ℕ → Made → Made
make_one first old part ns l m =
    cond (slice_index_or ns l false)
    (cond (nat_lt (l / 2) first) (with_copy m (input_copy (part (l / 2)) l)) (unless_same first old m l (gate_at first old l) (gate_copy l (gate_at first old l) m)))
    (with_copy m 0)

-- the places below a bound, where ns says which are needed
abbrev pub make : ℕ → List Pair → (ℕ → Part) → List Bool → ℕ → Made
make first old part ns zero = record { copies = []; gates = [] }
make first old part ns (suc l) = make_one first old part ns l (make first old part ns l)

-- all copies that a core needs
abbrev pub made : ℕ → List Pair → (ℕ → Part) → List ℕ → Made
made first old part core = make first old part (needed first old core) (2 * (first + length old))

-- the copy of a core's literal
abbrev pub core_copy : List ℕ → ℕ → ℕ
core_copy cs l = like l (slice_index cs (opposite l))

-- The literals joined so far, and the gates.
pub record Join : Type 0 where
  pub literal : ℕ
  pub gates : List Pair

-- the copies of more literals joined to e, one by one
abbrev pub join_more : ℕ → List Pair → List ℕ → List ℕ → ℕ → List Pair → Join
join_more first old cs [] e hs = record { literal = e; gates = hs }
join_more first old cs (l ∷ ls) e hs = join_more first old cs ls (fresh first old hs) (hs ++ (record { left = e; right = core_copy cs l } ∷ []))

-- the copies of some literals joined from the left: none is literal 1
abbrev pub join : ℕ → List Pair → List ℕ → List ℕ → List Pair → Join
join first old cs [] hs = record { literal = 1; gates = hs }
join first old cs (l ∷ ls) hs = join_more first old cs ls (core_copy cs l) hs

-- a core's copies, made and joined
abbrev pub joined : ℕ → List Pair → (ℕ → Part) → List ℕ → Join
joined first old part core = let m = made first old part core in join first old m.copies core m.gates

-- the gates that a settlement appends: the last joins the old root r with the negated result
abbrev pub settle_gates : ℕ → List Pair → (ℕ → Part) → List ℕ → ℕ → List Pair
settle_gates first old part core r = let j = joined first old part core in j.gates ++ (record { left = r; right = opposite j.literal } ∷ [])

-- the new root
abbrev pub settle_root : ℕ → List Pair → (ℕ → Part) → List ℕ → ℕ
settle_root first old part core = fresh first old (joined first old part core).gates
