-- What a record that breaks no rule says, and that good records break none. Assumes nothing.
use Rattle.std.proofs.Common.{◌≡◌, ℕ, ◌+◌, ◌-◌, ◌<◌, ◌≤◌, Bool, true, false, not, ◌||◌, eqb, ltb, ◌≢◌, List, [], ◌∷◌, length, get_or, Some, None, Ok, Option, sym, refl, ap, ◌∙◌, subst, inl, inr, arith}
use Rattle.std.proofs.lemmas.Bool.{ltb-true, ltb-false, le-ltb, eqb-false, ne_eqb, and_cases, and_left, and_right, or_parts, or_from, not-false, cases_lt}
use Rattle.circuit.specs.declared.Literal.{Literal}
use Rattle.question.specs.declared.prefix.Quantifier.{Quantifier}
use Rattle.question.specs.declared.prefix.Quantifier.TheVariants.{Existential, Universal}
use Rattle.question.specs.declared.prefix.Block.{Block}
use Rattle.question.specs.declared.records.Refusal.{Refusal}
use Rattle.question.specs.declared.records.Refusal.TheVariants.{Incomplete, Misplaced, BlockLimits, SameQuantifier, TooManyGates, BadLiteral}
use Rattle.question.specs.declared.records.Kind.{Kind}
use Rattle.question.specs.declared.records.Kind.TheVariants as kind
use Rattle.question.specs.declared.records.Record.{Record}
use Rattle.question.specs.declared.records.Record.TheVariants.{Block as block, Gate as gate, Output as output}
use Rattle.question.specs.Blocks.{block_at, total}
use Rattle.question.specs.Rules.{word, kind_of, body, misplaced, outside, quantifier_of, same, repeats, limit, content_rules, kind_rules, rules, first, record_of, record_at, unless, next}

-- a block that may follow others
pub record Admits (bs : List Block) (b : Block) : Type 0 where
  pub room : length bs < 16
  pub some : 1 ≤ b.size
  pub few : b.size ≤ 40
  pub small : total bs + b.size ≤ 128
  pub differs : 0 < length bs → (block_at bs (length bs - 1)).quantifier ≢ b.quantifier

-- literals of a gate that may follow n gates
pub record Reads (bs : List Block) (n l r : ℕ) : Type 0 where
  pub blocks : 0 < length bs
  pub room : n < 2000
  pub left : l < limit bs n
  pub right : r < limit bs n

-- an output that may follow n gates and ends the bytes
pub record Ends (bs : List Block) (n l : ℕ) (rest : List ℕ) : Type 0 where
  pub blocks : 0 < length bs
  pub literal : l < limit bs n
  pub last : length rest ≡ 6

unless_ok : {X : Type 0} (o : Option Refusal) (x y : X) → unless o x ≡ Ok y → (o ≡ None) × (x ≡ y)
unless_ok None x y h = (refl, cc)
unless_ok (Some why) x y h = absurd (cc)

first_none : (why : Refusal) (b : Bool) (rs : List (Refusal × Bool)) → first ((why, b) ∷ rs) ≡ None → (b ≡ false) × (first rs ≡ None)
first_none why false rs h = (refl, h)
first_none why true rs h = absurd (cc)

pub first_later : (why : Refusal) (b : Bool) (rs : List (Refusal × Bool)) → b ≡ false → first rs ≡ None → first ((why, b) ∷ rs) ≡ None
first_later why false rs e h = h
first_later why true rs e h = absurd (cc)

-- a record in its place that breaks no rule
pub record Placed (bs : List Block) (n : ℕ) (rest : List ℕ) (k : Kind) : Type 0 where
  pub named : kind_of (word rest 2) (word rest 0) ≡ Some k
  pub in_order : misplaced k bs n ≡ false
  pub whole : 4 + body k ≤ length rest
  pub obeys : first (content_rules k bs n rest) ≡ None

module _ (bs : List Block) (n : ℕ) (rest : List ℕ) where
  placed_by : (o : Option Kind) → kind_of (word rest 2) (word rest 0) ≡ o → first (kind_rules o bs n rest) ≡ None →
      (k : Kind) × (o ≡ Some k) × Placed bs n rest k
  placed_by None e h = absurd (cc)
  placed_by (Some k) e h =
      let a = first_none Misplaced (misplaced k bs n) ((Incomplete, ltb (length rest) (4 + body k)) ∷ content_rules k bs n rest) h in
      let b = first_none Incomplete (ltb (length rest) (4 + body k)) (content_rules k bs n rest) a.1 in
      (k, refl, record { named = e; in_order = a.0; whole = ltb-false (length rest) (4 + body k) b.0; obeys = b.1 })

  -- a record that is read is such a record
  pub placed : (x : Record) → next bs n rest ≡ Ok x → (k : Kind) × Placed bs n rest k × (x ≡ record_of k rest)
  placed x h =
      let named = kind_of (word rest 2) (word rest 0) in
      let a = unless_ok (first (rules bs n rest)) (record_at named rest) x h in
      let b = placed_by named refl (first_none Incomplete (ltb (length rest) 4) (kind_rules named bs n rest) a.0).1 in
      (b.0, b.2, sym a.1 ∙ ap (λ o. record_at o rest) b.1)

  -- and such a record is read
  pub reads : (k : Kind) → Placed bs n rest k → next bs n rest ≡ Ok (record_of k rest)
  reads k p =
      let named = kind_of (word rest 2) (word rest 0) in
      let obeyed : first (kind_rules (Some k) bs n rest) ≡ None =
      first_later Misplaced (misplaced k bs n) ((Incomplete, ltb (length rest) (4 + body k)) ∷ content_rules k bs n rest) p.in_order
      (first_later Incomplete (ltb (length rest) (4 + body k)) (content_rules k bs n rest) (le-ltb _ _ p.whole) p.obeys) in
      let all : first (rules bs n rest) ≡ None =
      first_later Incomplete (ltb (length rest) 4) (kind_rules named bs n rest) (le-ltb (length rest) 4 (omega (arith, p.whole))) (ap (λ o. first (kind_rules o bs n rest)) p.named ∙ obeyed) in
      ap (λ o. unless o (record_at named rest)) all ∙ ap (λ o. unless None (record_at o rest)) p.named

outside_false : (bs : List Block) (byte count : ℕ) → outside bs byte count ≡ false →
    (byte ≤ 1) × (1 ≤ count) × (count ≤ 40) × (total bs + count ≤ 128) × (length bs < 16)
outside_false bs byte count h =
    let a = or_parts (ltb 1 byte) _ h in
    let b = or_parts (eqb count 0) _ a.1 in
    let c = or_parts (ltb 40 count) _ b.1 in
    let d = or_parts (ltb 128 (total bs + count)) _ c.1 in
    let some : count ≡ 0 → ⊥ = eqb-false count 0 b.0 in
    (ltb-false 1 byte a.0, omega arith, ltb-false 40 count c.0, ltb-false 128 (total bs + count) d.0, omega (arith, ltb-false 15 (length bs) d.1))

pub inside : (bs : List Block) (byte : ℕ) (b : Block) → byte ≤ 1 → Admits bs b → outside bs byte b.size ≡ false
inside bs byte b h a =
    or_from _ _ (le-ltb 1 byte h)
    (or_from _ _ (ne_eqb b.size 0 (λ e. omega (arith, a.some)))
    (or_from _ _ (le-ltb 40 b.size a.few) (or_from _ _ (le-ltb 128 (total bs + b.size) a.small) (le-ltb 15 (length bs) (omega (arith, a.room))))))

same_false : (p q : Quantifier) → same p q ≡ false → p ≢ q
same_false Existential Existential h = λ e. absurd (cc)
same_false Existential Universal h = λ e. absurd (cc)
same_false Universal Existential h = λ e. absurd (cc)
same_false Universal Universal h = λ e. absurd (cc)

differ : (p q : Quantifier) → p ≢ q → same p q ≡ false
differ Existential Existential h = absurd (h refl)
differ Existential Universal h = refl
differ Universal Existential h = refl
differ Universal Universal h = absurd (h refl)

repeats_false : (bs : List Block) (q : Quantifier) → repeats bs q ≡ false → 0 < length bs → (block_at bs (length bs - 1)).quantifier ≢ q
repeats_false bs q h some =
    elim (and_cases (ltb 0 (length bs)) _ h) [ inl e ↦ absurd (let no : ⊥ = omega (arith, ltb-false 0 (length bs) e) in no) | inr e ↦ same_false _ q e ]

pub no_repeat : (bs : List Block) (b : Block) → Admits bs b → repeats bs b.quantifier ≡ false
no_repeat bs b a =
    elim (cases_lt 0 (length bs)) [ inl some ↦ and_right (ltb 0 (length bs)) _ (differ _ b.quantifier (a.differs some)) | inr none ↦ and_left (ltb 0 (length bs)) _ (le-ltb 0 (length bs) none) ]

module _ (bs : List Block) (n : ℕ) (rest : List ℕ) where
  block_from : (b : Block) (k : Kind) → Placed bs n rest k → block b ≡ record_of k rest → (n ≡ 0) × Admits bs b
  block_from b kind.Block p e =
      let byte = get_or rest 4 0 in
      let is : b ≡ record { quantifier = quantifier_of byte; size = word rest 5 } = cc in
      let o = first_none BlockLimits (outside bs byte (word rest 5)) ((SameQuantifier, repeats bs (quantifier_of byte)) ∷ []) p.obeys in
      let r = first_none SameQuantifier (repeats bs (quantifier_of byte)) [] o.1 in
      let i = outside_false bs byte (word rest 5) o.0 in
      let sizes : b.size ≡ word rest 5 = ap (λ (x : Block). x.size) is in
      let quantifiers : quantifier_of byte ≡ b.quantifier = sym (ap (λ (x : Block). x.quantifier) is) in (
        omega (arith, ltb-false 0 n p.in_order),
        record {
          room = i.4;
          some = omega arith;
          few = omega arith;
          small = omega arith;
          differs = λ some. subst (λ q. (block_at bs (length bs - 1)).quantifier ≢ q) quantifiers (repeats_false bs (quantifier_of byte) r.0 some);
        },
      )
  block_from b kind.Gate p e = absurd (cc)
  block_from b kind.Output p e = absurd (cc)

  pub block_step : (b : Block) → next bs n rest ≡ Ok (block b) → (n ≡ 0) × Admits bs b
  block_step b h = let p = placed bs n rest (block b) h in block_from b p.0 p.1 p.2

  gate_from : (l r : Literal) (k : Kind) → Placed bs n rest k → gate l r ≡ record_of k rest → Reads bs n l.code r.code
  gate_from l r kind.Gate p e =
      let left : l.code ≡ word rest 4 = ap (λ (x : Literal). x.code) (let same : l ≡ record { code = word rest 4 } = cc in same) in
      let right : r.code ≡ word rest 6 = ap (λ (x : Literal). x.code) (let same : r ≡ record { code = word rest 6 } = cc in same) in
      let bad = not (ltb (word rest 4) (limit bs n)) || not (ltb (word rest 6) (limit bs n)) in
      let o = first_none TooManyGates (ltb 1999 n) ((BadLiteral, bad) ∷ []) p.obeys in
      let q = or_parts (not (ltb (word rest 4) (limit bs n))) (not (ltb (word rest 6) (limit bs n))) (first_none BadLiteral bad [] o.1).0 in
      let some : length bs ≡ 0 → ⊥ = eqb-false (length bs) 0 p.in_order in
      record {
        blocks = omega arith;
        room = omega (arith, ltb-false 1999 n o.0);
        left = rw left (ltb-true _ _ (not-false _ q.0));
        right = rw right (ltb-true _ _ (not-false _ q.1));
      }
  gate_from l r kind.Block p e = absurd (cc)
  gate_from l r kind.Output p e = absurd (cc)

  pub gate_step : (l r : Literal) → next bs n rest ≡ Ok (gate l r) → Reads bs n l.code r.code
  gate_step l r h = let p = placed bs n rest (gate l r) h in gate_from l r p.0 p.1 p.2

  output_from : (l : Literal) (k : Kind) → Placed bs n rest k → output l ≡ record_of k rest → Ends bs n l.code rest
  output_from l kind.Output p e =
      let literal : l.code ≡ word rest 4 = ap (λ (x : Literal). x.code) (let same : l ≡ record { code = word rest 4 } = cc in same) in
      let o = first_none BadLiteral (not (ltb (word rest 4) (limit bs n))) ((Misplaced, ltb 6 (length rest)) ∷ []) p.obeys in
      let some : length bs ≡ 0 → ⊥ = eqb-false (length bs) 0 p.in_order in
      record {
        blocks = omega arith;
        literal = rw literal (ltb-true _ _ (not-false _ o.0));
        last = omega (arith, p.whole, ltb-false 6 (length rest) (first_none Misplaced (ltb 6 (length rest)) [] o.1).0);
      }
  output_from l kind.Block p e = absurd (cc)
  output_from l kind.Gate p e = absurd (cc)

  pub output_step : (l : Literal) → next bs n rest ≡ Ok (output l) → Ends bs n l.code rest
  output_step l h = let p = placed bs n rest (output l) h in output_from l p.0 p.1 p.2
