-- What a settlement answers and leaves.
use Rattle.std.specs.Prelude.{◌≡◌, ℕ, ◌+◌, Bool, false, cond, List, [], ◌∷◌, ◌++◌, length, take, Ok, Err, Result, nat_le, slice_index_or}
use Rattle.valuation.specs.Circuit.{Pair, reads}
use Rattle.copies.specs.Copy.{Part, opposite}
use Rattle.copies.specs.Make.{core_of, fresh, Join, join, settle_gates, settle_root}
use Rattle.circuit.specs.declared.Literal.{Literal}
use Rattle.copying.specs.declared.guard.Making.{Making}
use Rattle.copying.specs.declared.places.Copies.{Copies}
use Rattle.copying.specs.declared.Full.{Full}
use Rattle.copying.specs.declared.lost.Lost.{Lost}
use Rattle.copying.specs.declared.Settled.{Settled}
use Rattle.copying.specs.Gates.{part_in, olds, all_made}
use Rattle.copying.specs.Table.{written}
use Rattle.copying.specs.Guard.{Grown}

-- the core of a lost turn, in a circuit of that many nodes
abbrev pub core_in : Lost → ℕ → List ℕ
core_in t size = core_of (λ n. slice_index_or t.core.now n false) (reads t.values.now) size

-- what its settlement makes of the inputs
abbrev pub parts : Lost → ℕ → Part
parts t = part_in t.bounds t.play.now

-- the gates that it appends to `old`
abbrev pub new_gates : ℕ → List Pair → Lost → List Pair
new_gates first old t = settle_gates first old (parts t) (core_in t (first + length old)) t.root.code

-- the new root
abbrev pub new_root : ℕ → List Pair → Lost → ℕ
new_root first old t = settle_root first old (parts t) (core_in t (first + length old))

-- whether some gates fit into a table after the `used` ones
abbrev pub fits : List Pair → ℕ → List Pair → Bool
fits table used hs = nat_le (used + length hs) (length table)

-- what a settlement answers, on a table of which `used` entries are in use
abbrev pub answer : ℕ → List Pair → ℕ → Lost → Result Settled Full
answer first table used t =
    cond (fits table used (new_gates first (take used table) t))
    (Ok (record { root = record { code = new_root first (take used table) t }; made = length (new_gates first (take used table) t) }))
    (Err (record {}))

-- the table after it: as it was, if the gates do not fit
abbrev pub table_after : ℕ → List Pair → ℕ → Lost → List Pair
table_after first table used t = cond (fits table used (new_gates first (take used table) t)) (written table used (new_gates first (take used table) t)) table

-- the gates that a guard makes of a lost turn, where the list of copies shows what is needed: the joins, and the new root
abbrev pub joins_of : Making → Lost → List Copies → Join
joins_of m t cs = let made = all_made m t.bounds t.play.now cs in join m.first (olds m) made.copies (core_in t (length cs)) made.gates

abbrev pub gates_of : Making → Lost → List Copies → List Pair
gates_of m t cs = (joins_of m t cs).gates ++ (record { left = t.root.code; right = opposite (joins_of m t cs).literal } ∷ [])

-- a guard m' that has made them after m, with the root l
pub record AllMade (m m' : Making) (t : Lost) (cs : List Copies) (l : Literal) : Type 0 where
  pub grown : Grown m m' (gates_of m t cs)
  pub root : l.code ≡ fresh m.first (olds m) (joins_of m t cs).gates
