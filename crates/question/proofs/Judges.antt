-- Judging record by record: what holds between two records, and at the end. Assumes nothing.
use Rattle.std.proofs.Common.{◌≡◌, ℕ, suc, ◌+◌, ◌-◌, ◌<◌, ◌≤◌, List, [], ◌∷◌, ◌++◌, length, drop, Some, None, Ok, Err, Option, Result, sym, refl, ap, ◌∙◌, subst, arith}
use Rattle.std.specs.List.{flat_map}
use Rattle.std.proofs.lemmas.List.{append_assoc, append-nil, length-append, drop_all, nil_from_length, length_push, flat_map_more}
use Rattle.valuation.specs.Circuit.{Pair}
use Rattle.circuit.specs.declared.Literal.{Literal}
use Rattle.question.specs.declared.prefix.Block.{Block}
use Rattle.question.specs.declared.records.Refusal.{Refusal}
use Rattle.question.specs.declared.records.Record.{Record}
use Rattle.question.specs.declared.records.Record.TheVariants.{Block as block, Gate as gate, Output as output}
use Rattle.question.specs.Blocks.{total}
use Rattle.question.specs.Formula.{Good, written, block_bytes, gate_bytes, output_bytes}
use Rattle.question.specs.Rules.{word, kind_of, limit, rules, first, record_at, unless, next}
use Rattle.question.specs.Judging.{pair_of, bytes_of, Front, after, judged, judgement, Right}
use Rattle.question.proofs.Steps.{Reads, block_step, gate_step, output_step}
use Rattle.question.proofs.Goods.{good_block, good_gate}

-- after these blocks and n gates, with these bytes left: what is before them are good records, and they give the same judgement
pub record SoFar (bytes : List ℕ) (bs : List Block) (n : ℕ) (rest : List ℕ) : Type 0 where
  pub gates : List Pair
  pub counted : length gates ≡ n
  pub good : Good bs gates
  pub split : bytes ≡ written bs gates ++ rest
  pub left : ℕ
  pub enough : length rest ≤ left
  pub same : judged (suc left) bs gates rest ≡ judgement bytes

total_none : total [] ≤ 128
unfolding total
total_none = omega arith

pub begin : (bytes : List ℕ) → SoFar bytes [] 0 bytes
begin bytes =
    record {
      gates = [];
      counted = refl;
      good = record {
        few = omega arith;
        sized = λ i lt. absurd (let no : ⊥ = omega arith in no);
        small = total_none;
        alternating = λ i lt. absurd (let no : ⊥ = omega arith in no);
        few_gates = omega arith;
        ascending = λ k lt. absurd (let no : ⊥ = omega arith in no);
        blocks_first = λ some. absurd (let no : ⊥ = omega arith in no);
      };
      split = refl;
      left = length bytes;
      enough = omega arith;
      same = refl;
    }

unless_err : {X : Type 0} (o : Option Refusal) (x : X) (why : Refusal) → unless o x ≡ Err why → o ≡ Some why
unless_err None x why h = absurd (cc)
unless_err (Some r) x why h = cc

joined_push : {X : Type 0} (f : X → List ℕ) (xs : List X) (x : X) → flat_map f xs ++ f x ≡ flat_map f (xs ++ x ∷ [])
joined_push f xs x = flat_map_more f [] xs x

-- a record that stands at the front of bytes is no longer than they are
pub front_length : (x : Record) (rest : List ℕ) → Front rest (Ok x) → length (bytes_of x) + length (drop (length (bytes_of x)) rest) ≡ length rest
front_length x rest front = sym (ap length front ∙ length-append (bytes_of x) (drop (length (bytes_of x)) rest))

-- r is what code reads at the front of the bytes that are left
module _ (bytes : List ℕ) (bs : List Block) (n : ℕ) (rest : List ℕ) (s : SoFar bytes bs n rest) (r : Result Record Refusal) (value : r ≡ next bs n rest) (front : Front rest r) where
  -- the gates as the definition counts them
  counted : next bs (length s.gates) rest ≡ r
  counted = ap (λ k. next bs k rest) s.counted ∙ sym value

  -- one record on
  record Onward (x : Record) : Type 0 where
    split : bytes ≡ written bs s.gates ++ bytes_of x ++ drop (length (bytes_of x)) rest
    left : ℕ
    enough : length (drop (length (bytes_of x)) rest) ≤ left
    same : after (judged (suc left)) bs s.gates rest (Ok x) ≡ judgement bytes

  onward : (x : Record) → 1 ≤ length (bytes_of x) → r ≡ Ok x → Onward x
  unfolding judged
  onward x some is =
      let fronted : Front rest (Ok x) = subst (Front rest) is front in
      let long = front_length x rest fronted in
      let one : s.left ≡ suc (s.left - 1) = omega (arith, s.enough) in
      record {
        split = s.split ∙ ap (λ ys. written bs s.gates ++ ys) fronted ∙ sym (append_assoc (written bs s.gates) (bytes_of x) (drop (length (bytes_of x)) rest));
        left = s.left - 1;
        enough = omega (arith, s.enough);
        same = sym (ap (after (judged (suc (s.left - 1))) bs s.gates rest) (counted ∙ is)) ∙ sym (ap (λ m. judged (suc m) bs s.gates rest) one) ∙ s.same;
      }

  pub step_block : (b : Block) → r ≡ Ok (block b) → SoFar bytes (bs ++ b ∷ []) n (drop 7 rest)
  step_block b is =
      let o = onward (block b) (omega arith) is in
      let step = block_step bs n rest b (sym value ∙ is) in
      let none : s.gates ≡ [] = nil_from_length s.gates (s.counted ∙ step.0) in
      let blocks : written bs s.gates ++ block_bytes b ≡ written (bs ++ b ∷ []) [] =
      ap (λ gs. written bs gs ++ block_bytes b) none ∙ ap (λ ys. ys ++ block_bytes b) (append-nil (flat_map block_bytes bs)) ∙ joined_push block_bytes bs b ∙ sym (append-nil _) in
      record {
        gates = [];
        counted = sym step.0;
        good = good_block bs b (subst (Good bs) none s.good) step.1;
        split = o.split ∙ ap (λ ys. ys ++ drop 7 rest) blocks;
        left = o.left;
        enough = o.enough;
        same = ap (λ gs. judged (suc o.left) (bs ++ b ∷ []) gs (drop 7 rest)) (sym none) ∙ o.same;
      }

  pub step_gate : (left right : Literal) → r ≡ Ok (gate left right) → SoFar bytes bs (n + 1) (drop 8 rest)
  step_gate left right is =
      let o = onward (gate left right) (omega arith) is in
      let step = gate_step bs n rest left right (sym value ∙ is) in
      let p = pair_of left right in
      let more : written bs s.gates ++ gate_bytes p ≡ written bs (s.gates ++ p ∷ []) =
      append_assoc (flat_map block_bytes bs) (flat_map gate_bytes s.gates) (gate_bytes p) ∙ ap (λ ys. flat_map block_bytes bs ++ ys) (joined_push gate_bytes s.gates p) in
      record {
        gates = s.gates ++ p ∷ [];
        counted = length_push s.gates p ∙ ap (λ k. k + 1) s.counted;
        good = good_gate bs s.gates p s.good (subst (λ k. Reads bs k left.code right.code) (sym s.counted) step);
        split = o.split ∙ ap (λ ys. ys ++ drop 8 rest) more;
        left = o.left;
        enough = o.enough;
        same = o.same;
      }

  pub ends : (l : Literal) → r ≡ Ok (output l) →
      (judgement bytes ≡ Ok (record { blocks = bs; gates = s.gates; output = l.code })) × Right bytes (Ok (record { blocks = bs; gates = s.gates; output = l.code }))
  ends l is =
      let o = onward (output l) (omega arith) is in
      let step = output_step bs n rest l (sym value ∙ is) in
      let none : drop 6 rest ≡ [] = drop_all 6 rest (omega (arith, step.last)) in
      let below = subst (λ k. l.code < limit bs k) (sym s.counted) step.literal in
      (sym o.same, (record { good = s.good; some = step.blocks; output = below }, o.split ∙ ap (λ ys. written bs s.gates ++ output_bytes l.code ++ ys) none ∙ append-nil _))

  pub stops : (why : Refusal) → r ≡ Err why → (judgement bytes ≡ Err why) × Right bytes (Err why)
  unfolding judged
  stops why is =
      let here : next bs (length s.gates) rest ≡ Err why = counted ∙ is in (
        sym s.same ∙ ap (after (judged s.left) bs s.gates rest) here,
        record {
          blocks = bs;
          gates = s.gates;
          rest = rest;
          split = s.split;
          good = s.good;
          broken = unless_err (first (rules bs (length s.gates) rest)) (record_at (kind_of (word rest 2) (word rest 0)) rest) why here;
        },
      )
