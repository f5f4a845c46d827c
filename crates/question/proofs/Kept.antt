-- The question that an accepted load makes. Assumes nothing.
use Rattle.std.proofs.Common.{◌≡◌, ℕ, ◌+◌, ◌-◌, ◌*◌, ◌<◌, ◌≤◌, false, ltb, List, length, get_or, take, drop, replicate, Ok, vec_items, vec_len, Vec, sym, ap, ◌∙◌, subst}
use Rattle.std.specs.Vec.{with_items}
use Rattle.std.specs.declared.alloc.Global.{Global}
use Rattle.std.proofs.lemmas.List.{length-map, get_or-map, take_at, take_rest, with_items_is}
use Rattle.std.proofs.lemmas.Bool.{ltb-false, or_parts, cond-false}
use Rattle.valuation.specs.Circuit.{blank}
use Rattle.circuit.specs.declared.Gate.{Gate}
use Rattle.circuit.specs.Gates.{pair, pairs, empty}
use Rattle.question.specs.declared.prefix.Block.{Block}
use Rattle.question.specs.Formula.{Formula, WellFormed, formula_of, output_bytes}
use Rattle.question.specs.declared.frame.Frame.{Frame}
use Rattle.question.specs.Rules.{blocks_of}
use Rattle.question.specs.Judging.{Right, Outlined, judgement}
use Rattle.question.specs.declared.records.Refusal.TheVariants.{TableSize}
use Rattle.question.specs.Loading.{Entry, Fitted, entry_of, cells, unfit, accepted, refused, loaded_as, loaded}
use Rattle.question.proofs.Filled.{gates_begin, long, filled as filled_by, free_from}

-- what a table holds that the records of a formula's gates have filled, and the formula that it keeps
module _ (bytes : List ℕ) (f : Formula) (right : Right bytes (Ok f)) (bs : List Block) (n l : ℕ) (blocks : bs ≡ f.blocks) (gates : n ≡ length f.gates) (output : l ≡ f.output)
    (records : List ℕ) (begins : records ≡ drop (7 * length bs) bytes) (table : List Gate) (room : n ≤ length table)
    (each : (k : ℕ) → k < length table → Entry records n k (get_or table k empty)) where
  pub held : pairs table ≡ cells f (length table)
  held =
      filled_by f (length table) records (output_bytes f.output) (pairs table) (begins ∙ ap (λ cs. drop (7 * length cs) bytes) blocks ∙ gates_begin f bytes right.1) (length-map table pair)
      (subst (λ m. m ≤ length table) gates room) (λ k lt. get_or-map pair table k empty blank lt ∙ (each k lt).0 ∙ ap (λ m. entry_of records m k) gates)

  pub keeps : formula_of bs (pairs table) n l ≡ f
  keeps =
      let first : take n (pairs table) ≡ f.gates = ap (take n) held ∙ take_at f.gates _ n (sym gates) in
      ap (λ cs. record { blocks = cs; gates = take n (pairs table); output = l }) blocks
      ∙ ap (λ gs. record { blocks = f.blocks; gates = gs; output = l }) first
      ∙ ap (λ m. record { blocks = f.blocks; gates = f.gates; output = m }) output

  pub well : WellFormed (formula_of bs (pairs table) n l)
  well = subst WellFormed (sym keeps) right.0

  pub free : drop n table ≡ replicate (length table - n) empty
  free = free_from n table (λ k past lt. (each k lt).1 past)

-- the bytes have room for what their frame says
pub bytes_long : (bytes : List ℕ) (o : Frame) → Outlined bytes o → length bytes ≡ 7 * length (blocks_of o.prefix) + 8 * o.gates + 6
bytes_long bytes o d = long d.formula bytes d.right.1 ∙ ap (λ cs. 7 * length cs + 8 * length d.formula.gates + 6) (sym d.blocks) ∙ ap (λ m. 7 * length (blocks_of o.prefix) + 8 * m + 6) (sym d.gates)

-- what holds of a question that is made of a frame and a filled table, v before
pub record Made (bytes : List ℕ) (o : Frame) (v table : Vec Gate Global) : Type 0 where
  pub room : o.gates ≤ vec_len v
  pub small : vec_len v ≤ 8000
  pub free : drop o.gates (vec_items table) ≡ replicate (vec_len v - o.gates) empty
  pub well_formed : WellFormed (formula_of (blocks_of o.prefix) (pairs (vec_items table)) o.gates o.output.code)
  pub counted : length (take o.gates (pairs (vec_items table))) ≡ o.gates
  pub result : accepted (formula_of (blocks_of o.prefix) (pairs (vec_items table)) o.gates o.output.code) (pairs (vec_items table)) ≡ loaded bytes (vec_items v)
  pub right : Right bytes (judgement bytes)

-- ws is what v holds once it is filled in place, from where the records of the gates begin in the bytes
module _ (bytes : List ℕ) (o : Frame) (v : Vec Gate Global) (entries : ℕ) (fitted : Fitted bytes entries (Ok o)) (whole : entries ≡ vec_len v)
    (bs : List Block) (blocks : bs ≡ blocks_of o.prefix) (n : ℕ) (gates : n ≡ o.gates) (ws : List Gate) (size : length ws ≡ vec_len v)
    (filled : (k : ℕ) → k < length ws → Entry (take (length bytes - 7 * length bs) (drop (7 * length bs) bytes)) n k (get_or ws k empty)) where
  d : Outlined bytes o
  d = fitted.0

  fit : unfit o.gates (vec_len v) ≡ false
  fit = ap (unfit o.gates) (sym whole) ∙ fitted.1

  each : (k : ℕ) → k < length ws → Entry (take (length bytes - 7 * length bs) (drop (7 * length bs) bytes)) o.gates k (get_or ws k empty)
  each = subst (λ m. (k : ℕ) → k < length ws → Entry (take (length bytes - 7 * length bs) (drop (7 * length bs) bytes)) m k (get_or ws k empty)) gates filled

  same : vec_items (with_items v ws) ≡ ws
  same = with_items_is v ws size

  room : (o.gates ≤ vec_len v) × (vec_len v ≤ 8000)
  room = let p = or_parts (ltb (vec_len v) o.gates) (ltb 8000 (vec_len v)) fit in (ltb-false _ _ p.0, ltb-false _ _ p.1)

  records : take (length bytes - 7 * length bs) (drop (7 * length bs) bytes) ≡ drop (7 * length (blocks_of o.prefix)) bytes
  records = take_rest bytes (7 * length bs) ∙ ap (λ cs. drop (7 * length cs) bytes) blocks

  inside : o.gates ≤ length ws
  inside = subst (λ n. o.gates ≤ n) (sym size) room.0

  vec_held : pairs (vec_items (with_items v ws)) ≡ cells d.formula (vec_len v)
  vec_held =
      ap pairs same ∙ held bytes d.formula d.right (blocks_of o.prefix) o.gates o.output.code d.blocks d.gates d.output _ records ws inside each
      ∙ ap (cells d.formula) size

  vec_keeps : formula_of (blocks_of o.prefix) (pairs (vec_items (with_items v ws))) o.gates o.output.code ≡ d.formula
  vec_keeps =
      ap (λ gs. formula_of (blocks_of o.prefix) (pairs gs) o.gates o.output.code) same
      ∙ keeps bytes d.formula d.right (blocks_of o.prefix) o.gates o.output.code d.blocks d.gates d.output _ records ws inside each

  vec_well : WellFormed (formula_of (blocks_of o.prefix) (pairs (vec_items (with_items v ws))) o.gates o.output.code)
  vec_well = subst WellFormed (sym vec_keeps) d.right.0

  vec_free : drop o.gates (vec_items (with_items v ws)) ≡ replicate (vec_len v - o.gates) empty
  vec_free =
      ap (drop o.gates) same
      ∙ free bytes d.formula d.right (blocks_of o.prefix) o.gates o.output.code d.blocks d.gates d.output _ records ws inside each
      ∙ ap (λ n. replicate (n - o.gates) empty) size

  -- the gates that the question has are those of the formula
  vec_count : length (take o.gates (pairs (vec_items (with_items v ws)))) ≡ o.gates
  vec_count = ap (λ (f : Formula). length f.gates) vec_keeps ∙ sym d.gates

  pub made : Made bytes o v (with_items v ws)
  made =
      let long : length (vec_items v) ≡ vec_len v = sym v.ok.0 in
      let fits : unfit (length d.formula.gates) (length (vec_items v)) ≡ false = ap (λ n. unfit n (length (vec_items v))) (sym d.gates) ∙ ap (unfit o.gates) long ∙ fit in
      record {
        room = room.0;
        small = room.1;
        free = vec_free;
        well_formed = vec_well;
        counted = vec_count;
        result =
            ap (λ f. accepted f (pairs (vec_items (with_items v ws)))) vec_keeps ∙ ap (accepted d.formula) (vec_held ∙ ap (cells d.formula) (sym long))
            ∙ sym (ap (λ j. loaded_as j (vec_items v)) d.judgement ∙ cond-false _ (refused TableSize (vec_items v)) (accepted d.formula (cells d.formula (length (vec_items v)))) fits);
        right = subst (Right bytes) (sym d.judgement) d.right;
      }
