-- The number of gates that a settlement makes.
use Rattle.std.proofs.Common.{◌≡◌, ℕ, zero, suc, ◌+◌, ◌-◌, ◌*◌, ◌/◌, ◌<◌, ◌≤◌, Bool, true, false, cond, not, ◌&&◌, eqb, ltb, List, [], ◌∷◌, ◌++◌, length, get_or, refl, ap, ◌∙◌, arith, length-append}
use Rattle.std.proofs.lemmas.List.{length_push}
use Rattle.std.proofs.lemmas.Bool.{cond_both, ltb-true, lt-ltb, le-ltb}
use Rattle.valuation.specs.Circuit.{Pair, negated}
use Rattle.copies.specs.Copy.{Part, stays, played, lost, constant}
use Rattle.copies.specs.Make.{Made, input_copy, with_copy, with_gate, fresh, gate_at, gate_copy, make, made, core_copy, join_more, join, joined}
use Rattle.copies.specs.Claims.{beyond, GatesCounted}

beyond_push : (size : ℕ) (cs : List ℕ) (c : ℕ) → beyond size (cs ++ (c ∷ [])) ≡ beyond size cs + cond (ltb c (2 * size)) 0 1
beyond_push size [] c = omega arith
beyond_push size (d ∷ cs) c = omega (arith, beyond_push size cs c)

-- the copies of inputs are literals of inputs
constant_low : (first : ℕ) (b : Bool) → 0 < first → constant b < 2 * first
constant_low first true pos = omega arith
constant_low first false pos = omega arith

pub input_low : (first : ℕ) (a : Part) (l : ℕ) → 0 < first → l / 2 < first → input_copy a l < 2 * first
input_low first stays l pos h = omega arith
input_low first (played b) l pos h = constant_low first b pos
input_low first lost l pos h = constant_low first (not (negated l)) pos

module _ (first : ℕ) (old : List Pair) (part : ℕ → Part) (ns : List Bool) (pos : 0 < first) where
  -- as many gates as new copies
  abbrev Counts : Made → Type 0
  Counts m = length m.gates ≡ beyond (first + length old) m.copies

  copy_counts : (m : Made) (c : ℕ) → c < 2 * (first + length old) → Counts m → Counts (with_copy m c)
  copy_counts m c h e = omega (arith, e, beyond_push (first + length old) m.copies c, ap {B = ℕ} (λ b. cond b 0 1) (lt-ltb c (2 * (first + length old)) h))

  gate_counts : (m : Made) (g : Pair) → Counts m → Counts (with_gate first old m g)
  gate_counts m g e =
      let f = fresh first old m.gates in
      let h : 2 * (first + length old) ≤ f = omega (arith, length-append old m.gates) in
      omega (arith, e, length_push m.gates g, beyond_push (first + length old) m.copies f, ap {B = ℕ} (λ b. cond b 0 1) (le-ltb f (2 * (first + length old)) h))

  make_counts : (l : ℕ) → l ≤ 2 * (first + length old) → Counts (make first old part ns l)
  make_counts zero h = refl
  make_counts (suc l) h =
      let m = make first old part ns l in
      let e = make_counts l (omega arith) in
      cond_both (get_or ns l false) _ _ Counts
      (λ _. cond_both (ltb (l / 2) first) _ _ Counts
      (λ i. copy_counts m _ (omega (arith, input_low first (part (l / 2)) l pos (ltb-true (l / 2) first i))) e)
      (λ _. cond_both (eqb (gate_copy l (gate_at first old l) m).left (gate_at first old l).left && eqb (gate_copy l (gate_at first old l) m).right (gate_at first old l).right) _ _ Counts
      (λ _. copy_counts m (2 * (l / 2)) (omega arith) e) (λ _. gate_counts m _ e)))
      (λ _. copy_counts m 0 (omega arith) e)

module _ (first : ℕ) (old : List Pair) (cs : List ℕ) where
  join_more_counts : (ls : List ℕ) (e : ℕ) (hs : List Pair) → length (join_more first old cs ls e hs).gates ≡ length hs + length ls
  join_more_counts [] e hs = omega arith
  join_more_counts (l ∷ ls) e hs =
      let g : Pair = record { left = e; right = core_copy cs l } in
      omega (arith, join_more_counts ls (fresh first old hs) (hs ++ (g ∷ [])), length_push hs g)

  -- k literals take k - 1 gates
  pub join_counts : (ls : List ℕ) (hs : List Pair) → length (join first old cs ls hs).gates ≡ length hs + (length ls - 1)
  join_counts [] hs = omega arith
  join_counts (l ∷ ls) hs = omega (arith, join_more_counts ls (core_copy cs l) hs)

pub gates_counted : GatesCounted
gates_counted first old part core r pos =
    let m = made first old part core in
    length_push (joined first old part core).gates _
    ∙ ap (λ n. n + 1) (join_counts first old m.copies core m.gates ∙ ap (λ n. n + (length core - 1)) (make_counts first old part _ pos (2 * (first + length old)) (omega arith)))
