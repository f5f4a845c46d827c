-- What a searcher answers, and what every searcher keeps.
use Rattle.std.specs.Prelude.{◌≡◌, ℕ, ◌+◌, ◌-◌, ◌^◌, ◌≤◌, Bool, true, false, cond, ◌&&◌, ◌≢◌, List, map, length, replicate, nat_lt, slice_index_or}
use Rattle.std.specs.List.{range_with_len}
use Rattle.valuation.specs.declared.Value.{Value}
use Rattle.valuation.specs.declared.Value.TheVariants.{Unknown, False, True}
use Rattle.valuation.specs.Three.{of_bool}
use Rattle.valuation.specs.Circuit.{Values, reads}
use Rattle.search.specs.declared.Reply.{Reply}
use Rattle.search.specs.declared.Reply.TheVariants.{Move, NoMove, Spent}
use Rattle.search.specs.Queries.{Query, Sound, Refuted, nodes}

-- a setting, or a core as marks by node
pub data Outcome : Type 0 where
  moves : List Bool → Outcome
  loses : List Bool → Outcome

pub record Answer : Type 0 where
  pub outcome : Outcome
  pub need : ℕ

-- the most steps that a query of f free variables may need
abbrev pub ceiling : ℕ → ℕ
ceiling f = 2 ^ (f + 1) - 1

-- the forced nodes that are marked, and no other
abbrev pub only : List Bool → Values → Values
only core F n = cond (slice_index_or core n false) (F n) Unknown

-- whether a value is known
abbrev pub is_known : Value → Bool
is_known Unknown = false
is_known False = true
is_known True = true

-- those of the marked nodes that are forced
abbrev pub forced_of : List Bool → Values → ℕ → List Bool
forced_of marks F size = map (λ n. slice_index_or marks n false && is_known (F n)) (range_with_len 0 size)

-- A setting that is not refuted; or a core: some of the forced nodes, and with only these forced every setting is refuted, as it is with all.
abbrev pub Right : Query → Outcome → Type 0
Right q (moves s) = (length s ≡ q.free) × (Refuted q (reads q.forced) s → ⊥)
Right q (loses core) =
    (length core ≡ nodes q) × ((n : ℕ) → slice_index_or core n false ≡ true → reads q.forced n ≢ Unknown)
    × ((s : List Bool) → length s ≡ q.free → Refuted q (reads q.forced) s)
    × ((s : List Bool) → length s ≡ q.free → Refuted q (only core (reads q.forced)) s)

-- what a meaning keeps: right answers, and needs within the ceiling
pub record Keeps (m : Query → Answer) : Type 0 where
  pub right : (q : Query) → Sound q → Right q (m q).outcome
  pub some : (q : Query) → Sound q → 1 ≤ (m q).need
  pub bounded : (q : Query) → Sound q → (m q).need ≤ ceiling q.free

-- the reply to a paid query
abbrev pub paid : Outcome → ℕ → Reply
paid (moves s) need = Move need
paid (loses core) need = NoMove need

-- spent exactly if the allowance is below the need
abbrev pub reply_of : Answer → ℕ → Reply
reply_of a allowance = cond (nat_lt allowance a.need) Spent (paid a.outcome a.need)

abbrev pub setting_of : Outcome → ℕ → List Value
setting_of (moves s) f = map of_bool s
setting_of (loses core) f = replicate f Unknown

-- the range after a query: the setting of a move, else unset
abbrev pub range_after : Answer → ℕ → ℕ → List Value
range_after a allowance f = cond (nat_lt allowance a.need) (replicate f Unknown) (setting_of a.outcome f)

abbrev pub core_of : Outcome → ℕ → List Bool
core_of (moves s) n = replicate n false
core_of (loses core) n = core

-- the marks after a query: the core of a no move, else none
abbrev pub marks_after : Answer → ℕ → ℕ → List Bool
marks_after a allowance n = cond (nat_lt allowance a.need) (replicate n false) (core_of a.outcome n)

-- The reply to a query, with the range and the marks after it, as an answer has them.
pub record Answered (a : Answer) (allowance nodes free : ℕ) (range : List Value) (marks : List Bool) (r : Reply) : Type 0 where
  pub reply : r ≡ reply_of a allowance
  pub set : range ≡ range_after a allowance free
  pub marked : marks ≡ marks_after a allowance nodes
