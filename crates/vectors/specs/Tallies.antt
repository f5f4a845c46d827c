-- What a comparison counts.
use Rattle.std.specs.Prelude.{◌≡◌, ℕ, ◌+◌, ◌-◌, ◌^◌, min, Bool, not, cond, List, map, Ok, Result, String, string_bytes}
use Rattle.std.specs.List.{FoldsTo, count_by}
use Rattle.std.specs.Borrow.{Bor}
use Rattle.std.specs.declared.alloc.Global.{Global}
use Rattle.vectors.specs.declared.Tally.{Tally}

-- a count, up to the largest usize
abbrev pub capped : ℕ → ℕ
capped n = min n (2 ^ 64 - 1)

-- one more, where so
abbrev pub more_if : Bool → ℕ → ℕ
more_if b n = cond b (capped (n + 1)) n

-- this item was read as a text, and a call with that text answered b
abbrev pub Answers : {F X E : Type 0} → (F → Bor (List ℕ) → Result Bool E → F → Type 0) → F → Result (String Global) X × Bool → F → Type 0
Answers step f item g = (text : String Global) × (item.0 ≡ Ok text) × (line : Bor (List ℕ)) × (line.now ≡ string_bytes text) × step f line (Ok item.1) g

-- the tally of items that were asked in turn, each once, which took the asking from a first to a last state: `Asks` says what was answered
pub record Counts {F X : Type 0} (Asks : F → X × Bool → F → Type 0) (first last : F) (read : List X) (t : Tally) : Type 0 where
  pub asked : List (X × Bool)
  pub each : map (λ p. p.0) asked ≡ read
  pub in_turn : FoldsTo Asks first asked last
  pub agree : t.agree ≡ capped (count_by (λ p. p.1) asked)
  pub differ : t.differ ≡ capped (count_by (λ p. not p.1) asked)
