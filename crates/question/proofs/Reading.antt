-- Good records are read, and nothing else. Assumes nothing.
use Rattle.std.proofs.Common.{◌≡◌, ℕ, suc, ◌+◌, ◌-◌, ◌*◌, ◌/◌, ◌%◌, ◌<◌, ◌≤◌, true, false, not, ◌||◌, ltb, List, [], ◌∷◌, ◌++◌, length, None, Ok, Err, sym, refl, ap, ◌∙◌, subst, add-zero, add-suc, arith}
use Rattle.std.specs.List.{flat_map}
use Rattle.std.proofs.lemmas.List.{append_assoc, append-nil, length-append}
use Rattle.std.proofs.lemmas.Bool.{lt-ltb, le-ltb, ne_eqb, or_from, not_from_true}
use Rattle.valuation.specs.Circuit.{Pair}
use Rattle.question.specs.declared.prefix.Quantifier.{Quantifier}
use Rattle.question.specs.declared.prefix.Quantifier.TheVariants.{Existential, Universal}
use Rattle.question.specs.declared.prefix.Block.{Block}
use Rattle.question.specs.declared.records.Refusal.{Refusal}
use Rattle.question.specs.declared.records.Refusal.TheVariants.{BlockLimits, SameQuantifier, TooManyGates, BadLiteral, Misplaced}
use Rattle.question.specs.declared.records.Kind.TheVariants as kind
use Rattle.question.specs.declared.records.Record.TheVariants.{Block as block, Gate as gate, Output as output}
use Rattle.question.specs.Formula.{Formula, Good, WellFormed, Encodes, byte_of, block_bytes, gate_bytes, output_bytes, written}
use Rattle.question.specs.Rules.{word, kind_of, quantifier_of, outside, repeats, limit, content_rules, first, record_of, record_at, unless, next}
use Rattle.question.specs.Judging.{after, judged, judgement, Breaks}
use Rattle.question.proofs.Steps.{Admits, Reads, first_later, inside, no_repeat, reads}
use Rattle.question.proofs.Goods.{admits, reads_next}

pub recovered : (n : ℕ) → n % 256 + 256 * (n / 256) ≡ n
recovered n = omega arith

byte_small : (q : Quantifier) → byte_of q ≤ 1
byte_small Existential = omega arith
byte_small Universal = omega arith

named : (q : Quantifier) → quantifier_of (byte_of q) ≡ q
named Existential = refl
named Universal = refl

reads_block : (bs : List Block) (b : Block) (rest : List ℕ) → Admits bs b → next bs 0 (block_bytes b ++ rest) ≡ Ok (block b)
reads_block bs b rest a =
    let q = b.quantifier in
    let bytes = block_bytes b ++ rest in
    let size : word bytes 5 ≡ b.size = recovered b.size in
    let fits : outside bs (byte_of q) (word bytes 5) ≡ false = ap (outside bs (byte_of q)) size ∙ inside bs (byte_of q) b (byte_small q) a in
    let other : repeats bs (quantifier_of (byte_of q)) ≡ false = ap (repeats bs) (named q) ∙ no_repeat bs b a in
    let obeys : first (content_rules kind.Block bs 0 bytes) ≡ None = first_later BlockLimits _ ((SameQuantifier, repeats bs (quantifier_of (byte_of q))) ∷ []) fits (first_later SameQuantifier _ [] other refl) in
    let is : record_of kind.Block bytes ≡ block b = ap (λ x. block (record { quantifier = x; size = word bytes 5 })) (named q) ∙ ap (λ n. block (record { quantifier = q; size = n })) size in
    reads bs 0 bytes kind.Block (record { named = refl; in_order = refl; whole = omega arith; obeys = obeys }) ∙ ap Ok is

reads_gate : (bs : List Block) (n : ℕ) (p : Pair) (rest : List ℕ) → Reads bs n p.left p.right → next bs n (gate_bytes p ++ rest) ≡ Ok (gate (record { code = p.left }) (record { code = p.right }))
reads_gate bs n p rest r =
    let bytes = gate_bytes p ++ rest in
    let left : word bytes 4 ≡ p.left = recovered p.left in
    let right : word bytes 6 ≡ p.right = recovered p.right in
    let low : ltb (word bytes 4) (limit bs n) ≡ true = ap (λ l. ltb l (limit bs n)) left ∙ lt-ltb _ _ r.left in
    let high : ltb (word bytes 6) (limit bs n) ≡ true = ap (λ l. ltb l (limit bs n)) right ∙ lt-ltb _ _ r.right in
    let obeys : first (content_rules kind.Gate bs n bytes) ≡ None =
    first_later TooManyGates _ ((BadLiteral, not (ltb (word bytes 4) (limit bs n)) || not (ltb (word bytes 6) (limit bs n))) ∷ []) (le-ltb 1999 n (omega (arith, r.room)))
    (first_later BadLiteral _ [] (or_from _ _ (not_from_true _ low) (not_from_true _ high)) refl) in
    let is : record_of kind.Gate bytes ≡ gate (record { code = p.left }) (record { code = p.right }) =
    ap (λ l. gate (record { code = l }) (record { code = word bytes 6 })) left ∙ ap (λ l. gate (record { code = p.left }) (record { code = l })) right in
    reads bs n bytes kind.Gate (record { named = refl; in_order = ne_eqb (length bs) 0 (λ e. omega (arith, r.blocks)); whole = omega arith; obeys = obeys }) ∙ ap Ok is

reads_output : (bs : List Block) (n l : ℕ) → 0 < length bs → l < limit bs n → next bs n (output_bytes l) ≡ Ok (output (record { code = l }))
reads_output bs n l some below =
    let bytes = output_bytes l in
    let literal : word bytes 4 ≡ l = recovered l in
    let low : ltb (word bytes 4) (limit bs n) ≡ true = ap (λ m. ltb m (limit bs n)) literal ∙ lt-ltb _ _ below in
    let obeys : first (content_rules kind.Output bs n bytes) ≡ None = first_later BadLiteral _ ((Misplaced, ltb 6 (length bytes)) ∷ []) (not_from_true _ low) refl in
    reads bs n bytes kind.Output (record { named = refl; in_order = ne_eqb (length bs) 0 (λ e. omega arith); whole = omega arith; obeys = obeys })
    ∙ ap (λ m. Ok (output (record { code = m }))) literal

-- the records of more blocks, and of more gates
read_blocks : (n : ℕ) (bs cs : List Block) (rest : List ℕ) → Good (bs ++ cs) [] → judged (n + length cs) bs [] (flat_map block_bytes cs ++ rest) ≡ judged n (bs ++ cs) [] rest
unfolding judged
read_blocks n bs [] rest g = ap (λ m. judged m bs [] rest) (add-zero n) ∙ ap (λ ds. judged n ds [] rest) (sym (append-nil bs))
read_blocks n bs (b ∷ cs) rest g =
    let more = flat_map block_bytes cs ++ rest in
    let bytes = block_bytes b ++ more in
    let all : bs ++ b ∷ [] ++ cs ≡ bs ++ b ∷ cs = append_assoc bs (b ∷ []) cs in
    ap (λ m. judged m bs [] bytes) (add-suc n (length cs))
    ∙ ap (after (judged (n + length cs)) bs [] bytes) (reads_block bs b more (admits bs b cs [] g))
    ∙ read_blocks n (bs ++ b ∷ []) cs rest (subst (λ ds. Good ds []) (sym all) g)
    ∙ ap (λ ds. judged n ds [] rest) all

read_gates : (n : ℕ) (bs : List Block) (gs hs : List Pair) (rest : List ℕ) → Good bs (gs ++ hs) → judged (n + length hs) bs gs (flat_map gate_bytes hs ++ rest) ≡ judged n bs (gs ++ hs) rest
unfolding judged
read_gates n bs gs [] rest g = ap (λ m. judged m bs gs rest) (add-zero n) ∙ ap (λ ks. judged n bs ks rest) (sym (append-nil gs))
read_gates n bs gs (p ∷ hs) rest g =
    let more = flat_map gate_bytes hs ++ rest in
    let bytes = gate_bytes p ++ more in
    let all : gs ++ p ∷ [] ++ hs ≡ gs ++ p ∷ hs = append_assoc gs (p ∷ []) hs in
    ap (λ m. judged m bs gs bytes) (add-suc n (length hs))
    ∙ ap (after (judged (n + length hs)) bs gs bytes) (reads_gate bs (length gs) p more (reads_next bs gs p hs g))
    ∙ read_gates n bs (gs ++ p ∷ []) hs rest (subst (Good bs) (sym all) g)
    ∙ ap (λ ks. judged n bs ks rest) all

-- records are no more than their bytes
few : {X : Type 0} (bytes : X → List ℕ) (xs : List X) → ((x : X) → 1 ≤ length (bytes x)) → length xs ≤ length (flat_map bytes xs)
few bytes [] some = omega arith
few bytes (x ∷ xs) some = omega (arith, few bytes xs some, some x, length-append (bytes x) (flat_map bytes xs))

-- bytes that begin with good records are judged by what follows these
reached : (bs : List Block) (gs : List Pair) (rest : List ℕ) → Good bs gs → (n : ℕ) × (judgement (written bs gs ++ rest) ≡ judged (suc n) bs gs rest)
reached bs gs rest g =
    let bytes = written bs gs ++ rest in
    let n = length bytes - length bs - length gs in
    let long : length bytes ≡ length (flat_map block_bytes bs) + length (flat_map gate_bytes gs) + length rest =
    length-append (written bs gs) rest ∙ ap (λ k. k + length rest) (length-append (flat_map block_bytes bs) (flat_map gate_bytes gs)) in
    let fuel : suc (length bytes) ≡ suc n + length gs + length bs =
    omega (arith, few block_bytes bs (λ b. omega arith), few gate_bytes gs (λ p. omega arith)) in
    let front : bytes ≡ flat_map block_bytes bs ++ (flat_map gate_bytes gs ++ rest) = append_assoc (flat_map block_bytes bs) (flat_map gate_bytes gs) rest in
    let blocks : Good bs [] = record { few = g.few; sized = g.sized; small = g.small; alternating = g.alternating; few_gates = omega arith; ascending = λ k lt. absurd (let no : ⊥ = omega arith in no); blocks_first = λ some. absurd (let no : ⊥ = omega arith in no) } in (
      n,
      ap (λ m. judged m [] [] bytes) fuel ∙ ap (judged (suc n + length gs + length bs) [] []) front
          ∙ read_blocks (suc n + length gs) [] bs (flat_map gate_bytes gs ++ rest) blocks ∙ read_gates (suc n) bs [] gs rest g,
    )

-- what encodes a well-formed formula is accepted
pub accepts : (f : Formula) (bytes : List ℕ) → WellFormed f → Encodes f bytes → judgement bytes ≡ Ok f
unfolding judged
accepts f bytes w e =
    let r = reached f.blocks f.gates (output_bytes f.output) w.good in
    ap judgement e ∙ r.1 ∙ ap (after (judged r.0) f.blocks f.gates (output_bytes f.output)) (reads_output f.blocks (length f.gates) f.output w.some w.output)

-- what breaks a rule is refused by it
pub refuses : (bytes : List ℕ) (why : Refusal) → Breaks bytes why → judgement bytes ≡ Err why
unfolding judged
refuses bytes why b =
    let r = reached b.blocks b.gates b.rest b.good in
    let stops : next b.blocks (length b.gates) b.rest ≡ Err why = ap (λ o. unless o (record_at (kind_of (word b.rest 2) (word b.rest 0)) b.rest)) b.broken in
    ap judgement b.split ∙ r.1 ∙ ap (after (judged r.0) b.blocks b.gates b.rest) stops
