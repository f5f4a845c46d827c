-- A level's cut, its query, and what a reply leaves. Assumes nothing.
use Rattle.std.proofs.Common.{◌≡◌, ℕ, ◌+◌, ◌-◌, ◌/◌, ◌<◌, ◌≤◌, Bool, true, false, cond, eqb, ltb, ◌≢◌, List, ◌++◌, map, length, take, drop, replicate, Some, None, Option, sym, refl, ap, ◌∙◌, arith}
use borrow.Rule.Slice.PartMut.{put_mid, put_same}
use Rattle.std.proofs.lemmas.List.FromFn.{get_or-map-range_with_len, length-map-range_with_len}
use Rattle.std.proofs.lemmas.List.{get_or-take, get_or-drop, get_or-replicate, length-map, drop-drop}
use Rattle.std.proofs.lemmas.Bool.{ltb-true, ltb-false, cond-false, ne_eqb, le-ltb}
use Rattle.valuation.specs.declared.Value.{Value}
use Rattle.valuation.specs.declared.Value.TheVariants.{Unknown, False}
use Rattle.valuation.specs.Three.{of_bool}
use Rattle.valuation.specs.Circuit.{Pair, Ascending, nothing, reads, settings_from, node_values}
use Rattle.valuation.specs.Reach.{cut}
use Rattle.valuation.proofs.Cut.{cut_sound}
use Rattle.search.specs.Queries.{Query, Sound, nodes}
use Rattle.search.specs.Answers.{Outcome, moves, loses, Answer, Right, ceiling, paid, reply_of, setting_of, range_after, core_of, marks_after}
use Rattle.runs.specs.Turn.{values_under, level_query, within}
use Rattle.runs.specs.Calls.{RightReply}
use Rattle.search.specs.declared.Reply.TheVariants.{Spent}
use Rattle.asking.specs.Asked.{reply_for, play_by, play_for}

module _ (variables : ℕ) (gs : List Pair) (root : ℕ) (play : List Value) (below free : ℕ) where
  abbrev first : ℕ
  first = 1 + variables

  abbrev q : Query
  q = level_query variables gs root play below free

  -- a forced node has its value under the play
  gives : (n : ℕ) → n < nodes q → reads q.forced n ≢ Unknown → reads (node_values first gs nothing (settings_from 1 play)) n ≡ reads q.forced n
  gives n lt known =
      let e : reads q.forced n ≡ cut first gs (reads (values_under first gs play)) (root / 2) n = get_or-map-range_with_len (cut first gs (reads (values_under first gs play)) (root / 2)) 0 (first + length gs) n n Unknown lt (omega arith) in
      cut_sound first gs (reads (values_under first gs play)) (root / 2) n (λ u. known (e ∙ u)) ∙ sym e

  -- the level's block is unset
  unset_at : take free (drop below play) ≡ replicate free Unknown → (k : ℕ) → k < free → settings_from 1 play (1 + below + k) ≡ Unknown
  unset_at e k lt =
      cond-false (eqb (1 + below + k) 0) False _ (ne_eqb (1 + below + k) 0 (λ z. omega (arith, z))) ∙ cond-false (ltb (1 + below + k) 1) Unknown _ (le-ltb (1 + below + k) 1 (omega arith))
      ∙ ap (reads play) (let s : 1 + below + k - 1 ≡ below + k = omega arith in s)
      ∙ sym (get_or-take free (drop below play) k Unknown lt ∙ get_or-drop below play k Unknown) ∙ ap (λ xs. reads xs k) e ∙ get_or-replicate free k Unknown Unknown lt

  -- a level's query may be asked
  pub level_sound : variables ≤ 128 → length gs ≤ 8000 → Ascending first gs → root / 2 < first + length gs → below + free ≤ variables → free ≤ 40 → take free (drop below play) ≡ replicate free Unknown → Sound q
  level_sound few small up low inside free40 unset =
      record {
        few_variables = few;
        few_gates = small;
        ascending = up;
        rooted = low;
        covered = length-map-range_with_len (cut first gs (reads (values_under first gs play)) (root / 2)) 0 (first + length gs);
        variable = omega arith;
        inside = omega arith;
        few_free = free40;
        play = settings_from 1 play;
        witness = record { constant = refl; unset = unset_at unset; gives = gives };
      }

-- the marks of the nodes after an outcome: the core of a no move
abbrev pub marks_by : Outcome → List Bool → List Bool
marks_by (moves setting) marks = marks
marks_by (loses core) marks = core

abbrev pub marks_for : Option Answer → List Bool → List Bool
marks_for None marks = marks
marks_for (Some a) marks = marks_by a.outcome marks

-- What a searcher leaves, by whether the allowance covers the need.
module _ (allowance : ℕ) (a : Answer) where
  pub reply_within : reply_of a allowance ≡ reply_for (within allowance a)
  reply_within = by (ltb allowance a.need)
    where
      by : (b : Bool) → cond b Spent (paid a.outcome a.need) ≡ reply_for (cond b None (Some a))
      by true = refl
      by false = refl

  pub marks_within : (n : ℕ) → marks_after a allowance n ≡ marks_for (within allowance a) (replicate n false)
  marks_within n = by (ltb allowance a.need)
    where
      marked : (o : Outcome) → core_of o n ≡ marks_by o (replicate n false)
      marked (moves s) = refl
      marked (loses core) = refl

      by : (b : Bool) → cond b (replicate n false) (core_of a.outcome n) ≡ marks_for (cond b None (Some a)) (replicate n false)
      by true = refl
      by false = marked a.outcome

  -- a setting is as long as the range
  abbrev Fits : ℕ → Outcome → Type 0
  Fits f (moves s) = length s ≡ f
  Fits f (loses core) = Unit {0}

  pub play_within : (below f k : ℕ) (play : List Value) → k ≡ f → take f (drop below play) ≡ replicate f Unknown → Fits f a.outcome →
      put_mid below k play (range_after a allowance f) ≡ play_for below (within allowance a) play
  play_within below f k play e unset fits = by (ltb allowance a.need)
    where
      same : put_mid below k play (replicate f Unknown) ≡ play
      same = ap (put_mid below k play) (sym unset ∙ ap (λ j. take j (drop below play)) (sym e)) ∙ put_same below k play

      put : (o : Outcome) → Fits f o → put_mid below k play (setting_of o f) ≡ play_by below o play
      put (moves s) l =
          ap (λ ys. take below play ++ (map of_bool s ++ ys)) (drop-drop k below play ∙ ap (λ j. drop (below + j) play) (e ∙ sym l ∙ sym (length-map s of_bool)))
      put (loses core) l = same

      by : (b : Bool) → put_mid below k play (cond b (replicate f Unknown) (setting_of a.outcome f)) ≡ play_for below (cond b None (Some a)) play
      by true = same
      by false = put a.outcome fits

  pub right_within : (q : Query) → Right q a.outcome → 1 ≤ a.need → a.need ≤ ceiling q.free → RightReply q allowance (within allowance a)
  right_within q right some few = by (ltb allowance a.need) refl
    where
      by : (b : Bool) → ltb allowance a.need ≡ b → RightReply q allowance (cond b None (Some a))
      by true e = let lt = ltb-true allowance a.need e in omega arith
      by false e = (right, some, few, ltb-false allowance a.need e)

pub fits_right : (q : Query) (a : Answer) → Right q a.outcome → Fits 0 a q.free a.outcome
fits_right q a right = by a.outcome right
  where
    by : (o : Outcome) → Right q o → Fits 0 a q.free o
    by (moves s) r = r.0
    by (loses core) r = tt
