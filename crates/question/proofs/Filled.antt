-- A table that the records of gates fill. Assumes nothing.
use Rattle.std.proofs.Common.{◌≡◌, ℕ, zero, suc, ◌+◌, ◌-◌, ◌*◌, ◌<◌, ◌≤◌, ltb, List, [], ◌∷◌, ◌++◌, length, get_or, drop, replicate, sym, refl, ap, ◌∙◌, inl, inr, mul-suc, arith}
use Rattle.std.specs.List.{flat_map}
use Rattle.std.proofs.lemmas.List.{get_or_append_left, get_or-append_right, get_or-append-add, get_or-replicate, length-append, length-replicate, ext_get_or, append_assoc, drop_at, length-drop, get_or-drop}
use Rattle.std.proofs.lemmas.Bool.{cases_lt, lt-ltb, le-ltb, cond-true, cond-false}
use Rattle.valuation.specs.Circuit.{Pair, blank, gate}
use Rattle.circuit.specs.declared.Gate.{Gate}
use Rattle.circuit.specs.Gates.{empty}
use Rattle.question.specs.Formula.{Formula, block_bytes, gate_bytes, output_bytes, encode}
use Rattle.question.specs.Rules.{word}
use Rattle.question.specs.Loading.{pair_at, entry_of, cells}
use Rattle.question.proofs.Reading.{recovered}

-- the k-th record of gates
word_later : (xs ys : List ℕ) (i : ℕ) → word (xs ++ ys) (length xs + i) ≡ word ys i
word_later xs ys i =
    let low = get_or-append-add xs ys i 0 in
    let high : get_or (xs ++ ys) (length xs + i + 1) 0 ≡ get_or ys (i + 1) 0 = ap (λ n. get_or (xs ++ ys) n 0) (omega arith) ∙ get_or-append-add xs ys (i + 1) 0 in
    cc

gates_read : (gs : List Pair) (rest : List ℕ) (k : ℕ) → k < length gs → pair_at (flat_map gate_bytes gs ++ rest) k ≡ gate gs k
gates_read [] rest k lt = absurd (let no : ⊥ = omega arith in no)
gates_read (p ∷ gs) rest zero lt = ap (λ l. record { left = l; right = word (gate_bytes p) 6 }) (recovered p.left) ∙ ap (λ r. record { left = p.left; right = r }) (recovered p.right)
gates_read (p ∷ gs) rest (suc k) lt =
    let more = flat_map gate_bytes gs ++ rest in
    let all = gate_bytes p ++ more in
    let at : (j : ℕ) → word all (8 * suc k + j) ≡ word more (8 * k + j) =
    λ j. let place : 8 * suc k + j ≡ 8 + (8 * k + j) = omega arith in ap (word all) place ∙ word_later (gate_bytes p) more (8 * k + j) in
    ap (λ l. record { left = l; right = word all (8 * suc k + 6) }) (at 4) ∙ ap (λ r. record { left = word more (8 * k + 4); right = r }) (at 6)
    ∙ gates_read gs rest k (omega arith)

length_joined : {X : Type 0} (bytes : X → List ℕ) (m : ℕ) (xs : List X) → ((x : X) → length (bytes x) ≡ m) → length (flat_map bytes xs) ≡ m * length xs
length_joined bytes m [] each = omega arith
length_joined bytes m (x ∷ xs) each = length-append (bytes x) (flat_map bytes xs) ∙ omega (arith, each x, length_joined bytes m xs each, mul-suc m (length xs))

module _ (f : Formula) (bytes : List ℕ) (encoded : bytes ≡ encode f) where
  -- where the records of the gates begin
  pub gates_begin : drop (7 * length f.blocks) bytes ≡ flat_map gate_bytes f.gates ++ output_bytes f.output
  gates_begin =
      ap (drop (7 * length f.blocks)) (encoded ∙ append_assoc (flat_map block_bytes f.blocks) (flat_map gate_bytes f.gates) (output_bytes f.output))
      ∙ drop_at (flat_map block_bytes f.blocks) _ (7 * length f.blocks) (length_joined block_bytes 7 f.blocks (λ _. refl))

  pub long : length bytes ≡ 7 * length f.blocks + 8 * length f.gates + 6
  long =
      ap length encoded ∙ length-append (flat_map block_bytes f.blocks ++ flat_map gate_bytes f.gates) (output_bytes f.output)
      ∙ omega (arith, length-append (flat_map block_bytes f.blocks) (flat_map gate_bytes f.gates), length_joined block_bytes 7 f.blocks (λ _. refl), length_joined gate_bytes 8 f.gates (λ _. refl))

-- a table that is filled holds the gates, then zeros
pub filled : (f : Formula) (entries : ℕ) (records rest : List ℕ) (ps : List Pair) → records ≡ flat_map gate_bytes f.gates ++ rest → length ps ≡ entries → length f.gates ≤ entries →
    ((k : ℕ) → k < entries → gate ps k ≡ entry_of records (length f.gates) k) → ps ≡ cells f entries
filled f entries records rest ps is size room each =
    let n = length f.gates in
    let zeros = replicate (entries - n) blank in
    let total : length (cells f entries) ≡ entries = length-append f.gates zeros ∙ omega (arith, length-replicate (entries - n) blank) in
    ext_get_or blank ps (cells f entries) (size ∙ sym total) (λ k lt.
    let inside : k < entries = omega arith in
    elim (cases_lt k n) [
      | inl below ↦ each k inside ∙ cond-true (ltb k n) _ _ (lt-ltb k n below) ∙ ap (λ rs. pair_at rs k) is ∙ gates_read f.gates rest k below ∙ sym (get_or_append_left f.gates zeros blank k below)
      | inr past ↦ each k inside ∙ cond-false (ltb k n) _ _ (le-ltb k n past) ∙ sym (get_or-append_right f.gates zeros n k blank refl past ∙ get_or-replicate (entries - n) (k - n) blank blank (omega arith))
    ])

-- what is after the last gate is free
pub free_from : (n : ℕ) (gs : List Gate) → ((k : ℕ) → n ≤ k → k < length gs → get_or gs k empty ≡ empty) → drop n gs ≡ replicate (length gs - n) empty
free_from n gs each =
    ext_get_or empty (drop n gs) (replicate (length gs - n) empty) (length-drop n gs ∙ sym (length-replicate (length gs - n) empty)) (λ k lt.
    let inside : k < length gs - n = omega (arith, length-drop n gs) in
    get_or-drop n gs k empty ∙ each (n + k) (omega arith) (omega arith) ∙ sym (get_or-replicate (length gs - n) k empty empty inside))
