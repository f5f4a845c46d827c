-- The roots of a fresh bench.
use Rattle.std.proofs.Common.{◌≡◌, ℕ, suc, pred, ◌+◌, ◌/◌, ◌<◌, ◌≤◌, cond, not, eqb, ◌≢◌, List, length, get_or, set, replicate, sym, refl, ap, ◌∙◌, subst, inl, inr, arith}
use Rattle.std.proofs.lemmas.List.{length-set, length-replicate, get_or-set_same, get_or-set_other, get_or-replicate, get_or_past}
use Rattle.std.proofs.lemmas.Bool.{cases_lt, cases_eq, lt-ltb, le-ltb, eq-eqb, ne_eqb}
use Rattle.game.specs.Prefix.{blocks, owner, upto}
use Rattle.game.specs.Run.{Starts}
use Rattle.valuation.specs.Circuit.{nothing}
use Rattle.valuation.proofs.Nodes.{half}
use Rattle.circuit.specs.declared.Literal.{Literal}
use Rattle.copies.specs.Copy.{opposite}
use Rattle.copies.specs.Claims.{value, Rests}
use Rattle.copies.proofs.Rested.{below_input}
use Rattle.steps.specs.Steps.{base_of, not_false, tests, Rooted, last_root, first_roots}
use Rattle.steps.proofs.Started.{starts_right, starts_rooted}
use Rattle.question.specs.declared.prefix.Quantifier.{Quantifier}
use Rattle.question.specs.declared.prefix.Quantifier.TheVariants.{Existential, Universal}
use Rattle.question.specs.Blocks.{block_at}
use Rattle.question.specs.Formula.{Formula, WellFormed}
use Rattle.runs.specs.State.{first_node, root_in}
use Rattle.runs.specs.Ends.{literal, start_roots}
use Rattle.runs.specs.Ends as ends
use Rattle.runs.specs.Law.{player_of, game_of}
use Rattle.runs.proofs.Levels.{blocks_is, all_is, player_is}

by_quantifier : (q : Quantifier) (out : ℕ) → ends.last_root q out ≡ cond (player_of q) out (opposite out)
by_quantifier Existential out = refl
by_quantifier Universal out = refl

-- three parts of a list with two entries set
module _ (n a b : ℕ) (few : n ≤ 16) where
  abbrev rs : List Literal
  rs = set (set (replicate 18 (literal 1)) n (literal a)) (suc n) (literal b)

  long : length (set (replicate 18 (literal 1)) n (literal a)) ≡ 18
  long = length-set (replicate 18 (literal 1)) n (literal a) ∙ length-replicate 18 (literal 1)

  ones : (j : ℕ) → get_or (replicate 18 (literal 1)) j (literal 1) ≡ literal 1
  ones j =
      elim (cases_lt j 18) [
        | inl i ↦ get_or-replicate 18 j (literal 1) (literal 1) i
        | inr i ↦ get_or_past (replicate 18 (literal 1)) j (literal 1) (omega (arith, length-replicate 18 (literal 1)))
      ]

  at_one : (j : ℕ) → j ≢ n → j ≢ suc n → root_in rs j ≡ 1
  at_one j x y =
      ap (λ l. l.code) (get_or-set_other (set (replicate 18 (literal 1)) n (literal a)) (suc n) j (literal b) (literal 1) y
      ∙ get_or-set_other (replicate 18 (literal 1)) n j (literal a) (literal 1) x ∙ ones j)

  at_last : root_in rs n ≡ a
  at_last =
      ap (λ l. l.code) (get_or-set_other (set (replicate 18 (literal 1)) n (literal a)) (suc n) n (literal b) (literal 1) (λ e. omega arith)
      ∙ get_or-set_same (replicate 18 (literal 1)) n (literal a) (literal 1) (omega (arith, length-replicate 18 (literal 1))))

  at_past : root_in rs (suc n) ≡ b
  at_past = ap (λ l. l.code) (get_or-set_same (set (replicate 18 (literal 1)) n (literal a)) (suc n) (literal b) (literal 1) (omega (arith, long)))

module _ (f : Formula) (well : WellFormed f) where
  abbrev outs : ℕ
  outs = ends.last_root (block_at f.blocks (pred (length f.blocks))).quantifier f.output

  abbrev starts : ℕ → ℕ
  starts = root_in (start_roots f.blocks f.output)

  abbrev usual : ℕ → ℕ
  usual = first_roots (game_of f) f.output

  same_last : outs ≡ last_root (game_of f) f.output
  same_last =
      by_quantifier (block_at f.blocks (pred (length f.blocks))).quantifier f.output
      ∙ ap (λ o. cond o f.output (opposite f.output)) (sym (player_is f well.good.alternating (pred (length f.blocks)) (omega (arith, well.some))) ∙ ap (λ n. owner (game_of f) (pred n)) (sym (blocks_is f)))

  -- the roots by level are those of steps, up to the level past the last block
  same_early : (j : ℕ) → j < blocks (game_of f) → starts j ≡ usual j
  same_early j h =
      let e = blocks_is f in
      at_one (length f.blocks) outs (opposite outs) well.good.few j (λ x. omega arith) (λ x. omega arith)
      ∙ sym (ap (λ b. cond b 1 (cond (eqb j (blocks (game_of f))) (last_root (game_of f) f.output) (opposite (last_root (game_of f) f.output)))) (lt-ltb j (blocks (game_of f)) h))

  same_at : starts (blocks (game_of f)) ≡ usual (blocks (game_of f))
  same_at =
      let n = blocks (game_of f) in
      let r = last_root (game_of f) f.output in
      ap starts (blocks_is f) ∙ at_last (length f.blocks) outs (opposite outs) well.good.few ∙ same_last
      ∙ sym (ap (λ b. cond b 1 (cond (eqb n n) r (opposite r))) (le-ltb n n (omega arith)) ∙ ap (λ b. cond b r (opposite r)) (eq-eqb n n refl))

  same_past : starts (suc (blocks (game_of f))) ≡ usual (suc (blocks (game_of f)))
  same_past =
      let n = blocks (game_of f) in
      let r = last_root (game_of f) f.output in
      ap (λ k. starts (suc k)) (blocks_is f) ∙ at_past (length f.blocks) outs (opposite outs) well.good.few ∙ ap opposite same_last
      ∙ sym (ap (λ b. cond b 1 (cond (eqb (suc n) n) r (opposite r))) (le-ltb (suc n) n (omega arith)) ∙ ap (λ b. cond b r (opposite r)) (ne_eqb (suc n) n (λ x. omega arith)))

  abbrev first : ℕ
  first = first_node f.blocks

  inputs : first ≡ suc (upto (game_of f) (blocks (game_of f)))
  inputs = omega (arith, all_is f)

  inside : f.output / 2 < first + length f.gates
  inside = half f.output (first + length f.gates) well.output

  -- so they give the tests at the start ..
  pub starts_tests : Starts (game_of f) (tests first f.gates starts)
  starts_tests =
      let S = starts_right (game_of f) first f.gates f.output well.good.ascending inputs inside (λ t. refl) in
      record {
        early = λ j h t l. ap (λ r. not_false (value first f.gates nothing (base_of t) r)) (same_early (suc j) h) ∙ S.early j h t l;
        last = λ t l. ap (λ r. not_false (value first f.gates nothing (base_of t) r)) same_at ∙ S.last t l;
        past = λ t l. ap (λ r. not_false (value first f.gates nothing (base_of t) r)) same_past ∙ S.past t l ∙ ap (λ r. not (not_false (value first f.gates nothing (base_of t) r))) (sym same_at);
      }

  -- .. and rest on the blocks up to their levels: past the levels they are literal 1
  by_level : (P : ℕ → ℕ → Type 0) → ((j : ℕ) → P j 1) → ((j : ℕ) → P j (usual j)) → (j : ℕ) → P j (starts j)
  by_level P one some j =
      elim (cases_eq j (length f.blocks)) [
        | inl e ↦ subst (λ k. P k (starts k)) (blocks_is f ∙ sym e) (subst (P (blocks (game_of f))) (sym same_at) (some (blocks (game_of f))))
        | inr x ↦ elim (cases_eq j (suc (length f.blocks))) [
          | inl e ↦ subst (λ k. P k (starts k)) (ap suc (blocks_is f) ∙ sym e) (subst (P (suc (blocks (game_of f)))) (sym same_past) (some (suc (blocks (game_of f)))))
          | inr y ↦ subst (P j) (sym (at_one (length f.blocks) outs (opposite outs) well.good.few j x y)) (one j)
        ]
      ]

  pub starts_rested : Rooted (game_of f) first f.gates starts
  starts_rested =
      let R = starts_rooted (game_of f) first f.gates f.output well.good.ascending inputs inside in
      record {
        inputs = inputs;
        ascending = well.good.ascending;
        low = by_level (λ j r. r / 2 < first + length f.gates) (λ j. omega arith) R.low;
        rests = by_level (λ j r. Rests first f.gates (suc (upto (game_of f) j)) (r / 2)) (λ j n h d. omega (arith, below_input first f.gates d (omega arith))) R.rests;
      }
