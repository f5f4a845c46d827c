-- What a right answer to a turn's query says of its level, on plain lists and numbers.
use Rattle.std.proofs.Common.{◌≡◌, ℕ, suc, ◌+◌, ◌-◌, ◌/◌, ◌<◌, ◌≤◌, Bool, true, false, cond, eqb, ltb, List, ◌++◌, map, length, get_or, replicate, sym, refl, ap, ◌∙◌, arith}
use Rattle.std.proofs.lemmas.List.FromFn.{length-map-range_with_len, get_or-map-range_with_len}
use Rattle.std.proofs.lemmas.List.{length-map, get_or_past}
use Rattle.std.proofs.lemmas.Bool.{cond-false, ne_eqb, le-ltb}
use Rattle.game.specs.Prefix.{size, upto}
use Rattle.game.specs.Run.{Stuck}
use Rattle.valuation.specs.declared.Value.{Value}
use Rattle.valuation.specs.declared.Value.TheVariants.{Unknown, False}
use Rattle.valuation.specs.Three.{of_bool}
use Rattle.valuation.specs.Circuit.{Pair, Values, nothing, lit, reads, settings_from, node_values}
use Rattle.valuation.specs.Reach.{cut}
use Rattle.valuation.proofs.Computed.{same_inputs}
use Rattle.valuation.proofs.Cut.{cut_sound}
use Rattle.copies.specs.Claims.{value}
use Rattle.steps.specs.Steps.{base_of, range_of, tests, Rooted, Forces, LostTurn}
use Rattle.steps.proofs.Bits.{plays_set}
use Rattle.steps.proofs.Stepped.{move_right, loss_right}
use Rattle.question.specs.Blocks.{total}
use Rattle.question.specs.Formula.{Formula, WellFormed}
use Rattle.search.specs.Queries.{Query, Sound}
use Rattle.search.specs.Answers.{moves, loses, Right}
use Rattle.runs.specs.State.{before, width, first_node}
use Rattle.runs.specs.Turn.{level_query}
use Rattle.runs.specs.Law.{game_of}
use Rattle.runs.proofs.Shape.{before_suc, before_total}
use Rattle.runs.proofs.Levels.{size_is, upto_is, width_widest, widest_low}

-- past a play nothing is set
unset_past : (p : List Bool) (n : ℕ) → length p ≤ n → base_of p (suc n) ≡ Unknown
unset_past p n h =
    cond-false (eqb (suc n) 0) False _ (ne_eqb (suc n) 0 (λ e. omega arith)) ∙ cond-false (ltb (suc n) 1) Unknown _ (le-ltb (suc n) 1 (omega arith))
    ∙ get_or_past (map of_bool p) (suc n - 1) Unknown (omega (arith, length-map p of_bool))

module _ (f : Formula) (gs : List Pair) (roots : ℕ → ℕ) (d : ℕ) (p : List Bool) (k : ℕ) (entries : List Value)
    (R : Rooted (game_of f) (first_node f.blocks) gs roots) (played : entries ≡ map of_bool p ++ replicate k Unknown) (long : length p ≡ upto (game_of f) d) where
  abbrev first : ℕ
  first = first_node f.blocks

  abbrev query : Query
  query = level_query (total f.blocks) gs (roots (suc d)) entries (before f.blocks d) (width f.blocks d)

  -- the forced list is the cut
  forces : Forces first gs (roots (suc d)) p (reads query.forced)
  forces n h =
      get_or-map-range_with_len (cut first gs (reads (node_values first gs nothing (settings_from 1 entries))) (roots (suc d) / 2)) 0 (first + length gs) n n Unknown h (omega arith)
      ∙ ap (λ b. cut first gs (reads (node_values first gs nothing b)) (roots (suc d) / 2) n) (ap (settings_from 1) played ∙ plays_set p k)

  -- the range starts after the play
  ranged : (F : Values) (s : List Bool) → value first gs F (settings_from query.start (map of_bool s)) (roots (suc d)) ≡ value first gs F (range_of (length p) s) (roots (suc d))
  ranged F s = ap (λ a. value first gs F (settings_from a (map of_bool s)) (roots (suc d))) (let e : 1 + before f.blocks d ≡ suc (length p) = omega (arith, upto_is f d) in e)

  -- a right move passes its level's test
  pub passes : (setting : List Bool) → Right query (moves setting) → (length setting ≡ size (game_of f) d) × (tests first gs roots (suc d) (p ++ setting) ≡ true)
  passes setting right =
      (right.0 ∙ sym (size_is f d), move_right (game_of f) d p setting first gs roots (reads query.forced) R forces (λ e. right.1 (ranged (reads query.forced) setting ∙ e)))

  -- after a right loss the level is stuck ..
  pub stuck : (core : List Bool) → Right query (loses core) → Stuck (game_of f) d p (tests first gs roots)
  stuck core right =
      loss_right (game_of f) d p first gs roots (reads query.forced) R forces
      (λ s l. sym (ranged (reads query.forced) s) ∙ right.2 s (l ∙ size_is f d))

  -- .. and marks that agree with its core are those of a lost turn
  pub marked : (core : List Bool) → Right query (loses core) → (marks : ℕ → Bool) → ((n : ℕ) → n < first + length gs → marks n ≡ get_or core n false) →
      LostTurn first gs (roots (suc d)) p (size (game_of f) d) marks (reads query.forced)
  marked core right marks same = record {
    by_cut = forces;
    by_core = λ s l.
        ap (λ vs. lit (reads vs) (roots (suc d)))
        (same_inputs first gs (λ n. cond (marks n) (reads query.forced n) Unknown) (λ n. cond (get_or core n false) (reads query.forced n) Unknown) (range_of (length p) s) (range_of (length p) s) R.ascending
        (λ n i. ap (λ b. cond b (reads query.forced n) Unknown) (same n i)) (λ n i. refl))
        ∙ sym (ranged (λ n. cond (get_or core n false) (reads query.forced n) Unknown) s) ∙ right.3 s (l ∙ size_is f d);
  }

  -- the query may be asked: the play itself gives the forced nodes their values
  pub sound_query : WellFormed f → length gs ≤ 8000 → Sound query
  sound_query well few = record {
    few_variables = well.good.small;
    few_gates = few;
    ascending = R.ascending;
    rooted = R.low (suc d);
    covered = length-map-range_with_len (cut first gs (reads (node_values first gs nothing (settings_from 1 entries))) (roots (suc d) / 2)) 0 (first + length gs);
    variable = omega arith;
    inside = omega (arith, before_suc f.blocks d, before_total f.blocks (suc d));
    few_free = omega (arith, width_widest f.blocks d, widest_low f.blocks well.good.sized);
    play = base_of p;
    witness = record {
      constant = refl;
      unset = λ j h. ap (base_of p) (let e : query.start + j ≡ suc (before f.blocks d + j) = omega arith in e) ∙ unset_past p (before f.blocks d + j) (omega (arith, upto_is f d));
      gives = λ n h u. cut_sound first gs (reads (node_values first gs nothing (base_of p))) (roots (suc d) / 2) n (λ e. u (forces n h ∙ e)) ∙ sym (forces n h);
    };
  }
