-- Every bench of a run with right replies stands where a run of the abstract game does.
use Rattle.std.proofs.Common.{◌≡◌, ℕ, zero, suc, ◌+◌, ◌-◌, ◌*◌, ◌/◌, ◌<◌, ◌≤◌, Bool, true, false, cond, not, ◌≢◌, List, [], ◌++◌, map, length, get_or, take, drop, replicate, sym, refl, ap, ◌∙◌, subst, ap₂, inl, inr, mul-suc, add-one, arith}
use Rattle.std.proofs.lemmas.List.{length-map, map-append, append_assoc, take_at, take-map, take-append-le, length-take-le, drop-drop, drop_at, drop-replicate, get_or_append_left, get_or-set_same, get_or-set_other}
use Rattle.std.proofs.lemmas.Bool.{cases_eq, eq-eqb, ne_eqb, and_parts}
use Rattle.game.specs.Prefix.{blocks, owner, size, upto}
use Rattle.game.specs.Run as game
use Rattle.game.specs.Run.{playing, lost, over, any, Tests, Reaches, start, move, loss, verdict, state_of}
use Rattle.game.proofs.Prefix.{upto_mono}
use Rattle.game.proofs.Claims.{plays_pass}
use Rattle.valuation.specs.declared.Value.{Value}
use Rattle.valuation.specs.declared.Value.TheVariants.{Unknown}
use Rattle.valuation.specs.Three.{of_bool}
use Rattle.valuation.specs.Circuit.{Pair, Values, nothing, reads, settings_from, node_values}
use Rattle.valuation.proofs.Cut.{cut_sound}
use Rattle.copies.specs.Make.{part_by, core_of, settle_gates, settle_root}
use Rattle.copies.proofs.Core.{core_same}
use Rattle.steps.specs.Steps.{base_of, tests, Rooted, LostTurn, LostSteps, part_after, gates_after, roots_after}
use Rattle.steps.proofs.Bits.{plays_set}
use Rattle.steps.proofs.Stepped.{lost_right}
use Rattle.question.proofs.Never.{impossible}
use Rattle.question.specs.Blocks.{total}
use Rattle.question.specs.Formula.{Formula, WellFormed}
use Rattle.search.specs.Queries.{Query, Sound}
use Rattle.search.specs.Answers.{Outcome, moves, loses, Right, ceiling}
use Rattle.runs.specs.declared.Phase.{Phase}
use Rattle.runs.specs.declared.Phase.TheVariants.{Playing, Lost, Over}
use Rattle.runs.specs.State.{Sheets, State, before, width, first_node, root_at, in_use, own}
use Rattle.runs.specs.Turn.{query_of, level_query, with_part, values_under, after_answer}
use Rattle.runs.specs.Ends.{literal, opened}
use Rattle.runs.specs.Settle.{parts_of, new_gates, new_root, gone_back, concluded, settle_at}
use Rattle.runs.specs.Grants.{granted}
use Rattle.runs.specs.Calls.{Call, turn, settle, top_up, step, Fair}
use Rattle.runs.specs.Law.{game_of, widest, Fresh}
use Rattle.runs.proofs.Ways.{turn_ways, settle_ways, with_desk, top_ways}
use Rattle.runs.proofs.Shape.{Shaped, playing_since, lost_since, in_use_grown, own_shaped}
use Rattle.runs.proofs.Levels.{upto_is, blocks_is, width_widest, ceiling_mono}
use Rattle.runs.proofs.Roots.{starts_tests, starts_rested}
use Rattle.runs.proofs.Queried.{passes, stuck, marked, sound_query}

-- a phase of the abstract run, as a bench has it
abbrev pub phase_of : game.Phase → Phase
phase_of playing = Playing
phase_of lost = Lost
phase_of (over v) = Over

-- the tests that a bench's roots make
abbrev pub tests_of : Formula → State → Tests
tests_of f s = tests (first_node f.blocks) (in_use s.gates) (root_at s.desk)

-- A level that has lost: its marks are on forced nodes, and with only these forced every setting is refuted.
pub record LostNow (first : ℕ) (gs : List Pair) (root : ℕ) (p : List Bool) (free : ℕ) (marks : List Bool) : Type 0 where
  pub forced : Values
  pub turn : LostTurn first gs root p free (λ n. get_or marks n false) forced
  pub known : (n : ℕ) → n < first + length gs → get_or marks n false ≡ true → forced n ≢ Unknown

-- What a bench has in common with a run of the abstract game, and its accounts.
pub record Linked (f : Formula) (s : State) : Type 0 where
  pub play : List Bool
  pub rest : ℕ
  pub played : s.sheets.play.entries ≡ map of_bool play ++ replicate rest Unknown
  pub phase : game.Phase
  pub named : s.desk.phase ≡ phase_of phase
  pub reached : Reaches (game_of f) any s.desk.turns s.desk.settlements phase s.desk.depth play (tests_of f s)
  pub rooted : Rooted (game_of f) (first_node f.blocks) (in_use s.gates) (root_at s.desk)
  pub lost_now : s.desk.phase ≡ Lost →
      LostNow (first_node f.blocks) (in_use s.gates) (root_at s.desk (suc s.desk.depth)) play (size (game_of f) s.desk.depth) s.sheets.marks.entries
  pub purse : s.desk.purse + s.desk.steps ≡ s.desk.grants
  pub least : s.desk.turns ≤ s.desk.steps
  pub most : s.desk.steps ≤ ceiling (widest f.blocks) * s.desk.turns

opened_linked : (f : Formula) → WellFormed f → (entries : ℕ) (t : Sheets) (stamp grant : ℕ) → Linked f (opened f entries t stamp grant)
opened_linked f well entries t stamp grant =
    let here : take (length f.gates) (f.gates ++ replicate (entries - length f.gates) _) ≡ f.gates = take_at f.gates _ (length f.gates) refl in
    record {
      play = [];
      rest = length t.play.entries;
      played = refl;
      phase = playing;
      named = refl;
      reached = start (subst (λ gs. game.Starts (game_of f) (tests (first_node f.blocks) gs (root_at (opened f entries t stamp grant).desk))) (sym here) (starts_tests f well));
      rooted = subst (λ gs. Rooted (game_of f) (first_node f.blocks) gs (root_at (opened f entries t stamp grant).desk)) (sym here) (starts_rested f well);
      lost_now = λ e. impossible (cc);
      purse = omega arith;
      least = omega arith;
      most = omega arith;
    }

pub linked_fresh : (f : Formula) → WellFormed f → (s : State) → Fresh f s → Linked f s
linked_fresh f well s fresh = subst (Linked f) (sym fresh.is) (opened_linked f well fresh.entries fresh.sheets fresh.stamp fresh.grant)

-- the phases of both runs are the same
playing_is : (w : game.Phase) → Playing ≡ phase_of w → w ≡ playing
playing_is playing e = refl
playing_is lost e = impossible (cc)
playing_is (over v) e = impossible (cc)

lost_is : (w : game.Phase) → Lost ≡ phase_of w → w ≡ lost
lost_is playing e = impossible (cc)
lost_is lost e = refl
lost_is (over v) e = impossible (cc)

-- a play with the next block set
next_play : (p s : List Bool) (k below : ℕ) (xs : List Value) → xs ≡ map of_bool p ++ replicate k Unknown → length p ≡ below →
    with_part below (map of_bool s) xs ≡ map of_bool (p ++ s) ++ replicate (k - length (map of_bool s)) Unknown
next_play p s k below xs e l =
    let here : length (map of_bool p) ≡ below = length-map p of_bool ∙ l in
    ap (with_part below (map of_bool s)) e
    ∙ ap₂ (λ a b. a ++ (map of_bool s ++ b)) (take_at (map of_bool p) (replicate k Unknown) below here)
    (sym (drop-drop (length (map of_bool s)) below (map of_bool p ++ replicate k Unknown)) ∙ ap (drop (length (map of_bool s))) (drop_at (map of_bool p) (replicate k Unknown) below here) ∙ drop-replicate (length (map of_bool s)) k Unknown)
    ∙ sym (append_assoc (map of_bool p) (map of_bool s) (replicate (k - length (map of_bool s)) Unknown))
    ∙ ap (λ a. a ++ replicate (k - length (map of_bool s)) Unknown) (sym (map-append of_bool p s))

-- one more turn is paid
more_paid : (c steps turns need : ℕ) → steps ≤ c * turns → need ≤ c → steps + need ≤ c * (turns + 1)
more_paid c steps turns need h i = let e : c * (turns + 1) ≡ c * turns + c = ap (λ n. c * n) (add-one turns) ∙ mul-suc c turns in omega arith

module _ (f : Formula) (well : WellFormed f) (s : State) (shape : Shaped f s) (link : Linked f s) where
  pub some_blocks : 0 < blocks (game_of f)
  some_blocks = omega (arith, blocks_is f, well.some)

  pub deep : s.desk.depth ≤ length f.blocks
  deep = omega (arith, (plays_pass (game_of f) some_blocks any (state_of link.reached)).0, blocks_is f)

  -- its tables are its own
  pub owns : own s ≡ true
  owns = own_shaped f s shape (omega (arith, deep, ap length shape.blocks))

  pub long : length link.play ≡ upto (game_of f) s.desk.depth
  long = (plays_pass (game_of f) some_blocks any (state_of link.reached)).1

  pub still_playing : s.desk.phase ≡ Playing → Reaches (game_of f) any s.desk.turns s.desk.settlements playing s.desk.depth link.play (tests_of f s)
  still_playing e = subst (λ w. Reaches (game_of f) any s.desk.turns s.desk.settlements w s.desk.depth link.play (tests_of f s)) (playing_is link.phase (sym e ∙ link.named)) link.reached

  pub now_lost : s.desk.phase ≡ Lost → Reaches (game_of f) any s.desk.turns s.desk.settlements lost s.desk.depth link.play (tests_of f s)
  now_lost e = subst (λ w. Reaches (game_of f) any s.desk.turns s.desk.settlements w s.desk.depth link.play (tests_of f s)) (lost_is link.phase (sym e ∙ link.named)) link.reached

  -- the level's query over the formula's blocks
  abbrev query_in : Query
  query_in = level_query (total f.blocks) (in_use s.gates) (root_at s.desk (suc s.desk.depth)) s.sheets.play.entries (before f.blocks s.desk.depth) (width f.blocks s.desk.depth)

  query_is : query_of s ≡ query_in
  query_is = ap (λ bs. level_query (total bs) (in_use s.gates) (root_at s.desk (suc s.desk.depth)) s.sheets.play.entries (before bs s.desk.depth) (width bs s.desk.depth)) shape.blocks

  pub free_below : ceiling (query_of s).free ≤ ceiling (widest f.blocks)
  free_below = ceiling_mono (query_of s).free (widest f.blocks) (omega (arith, ap (λ q. q.free) query_is, width_widest f.blocks s.desk.depth))

  -- after an answer
  linked_answer : s.desk.phase ≡ Playing → (o : Outcome) (need : ℕ) → Right query_in o → 1 ≤ need → need ≤ ceiling (widest f.blocks) → need ≤ s.desk.purse →
      Linked f (after_answer (record { outcome = o; need = need }) s)
  linked_answer e (moves setting) need right some low enough =
      let ok = passes f (in_use s.gates) (root_at s.desk) s.desk.depth link.play link.rest s.sheets.play.entries link.rooted link.played long setting right in
      record {
        play = link.play ++ setting;
        rest = link.rest - length (map of_bool setting);
        played = next_play link.play setting link.rest (before s.blocks s.desk.depth) s.sheets.play.entries link.played
            (long ∙ upto_is f s.desk.depth ∙ ap (λ bs. before bs s.desk.depth) (sym shape.blocks));
        phase = playing;
        named = refl;
        reached = subst (λ n. Reaches (game_of f) any n s.desk.settlements playing (suc s.desk.depth) (link.play ++ setting) (tests_of f s)) (sym (add-one s.desk.turns)) (move (still_playing e) setting ok.0 ok.1 refl);
        rooted = link.rooted;
        lost_now = λ x. impossible (cc);
        purse = omega (arith, link.purse);
        least = omega (arith, link.least);
        most = more_paid (ceiling (widest f.blocks)) s.desk.steps s.desk.turns need link.most low;
      }
  linked_answer e (loses core) need right some low enough =
      let first = first_node f.blocks in
      let marks = with_part 0 core s.sheets.marks.entries in
      let agree : (n : ℕ) → n < first + length (in_use s.gates) → get_or marks n false ≡ get_or core n false = λ n i. get_or_append_left core (drop (0 + length core) s.sheets.marks.entries) false n (omega (arith, right.0)) in
      record {
        play = link.play;
        rest = link.rest;
        played = link.played;
        phase = lost;
        named = refl;
        reached = subst (λ n. Reaches (game_of f) any n s.desk.settlements lost s.desk.depth link.play (tests_of f s)) (sym (add-one s.desk.turns))
            (loss (still_playing e) (stuck f (in_use s.gates) (root_at s.desk) s.desk.depth link.play link.rest s.sheets.play.entries link.rooted link.played long core right));
        rooted = link.rooted;
        lost_now = λ x. record {
          forced = reads query_in.forced;
          turn = marked f (in_use s.gates) (root_at s.desk) s.desk.depth link.play link.rest s.sheets.play.entries link.rooted link.played long core right (λ n. get_or marks n false) agree;
          known = λ n i m. right.1 n (sym (agree n i) ∙ m);
        };
        purse = omega (arith, link.purse);
        least = omega (arith, link.least);
        most = more_paid (ceiling (widest f.blocks)) s.desk.steps s.desk.turns need link.most low;
      }

  pub query_sound : s.desk.phase ≡ Playing → Sound (query_of s)
  query_sound e = subst Sound (sym query_is)
      (sound_query f (in_use s.gates) (root_at s.desk) s.desk.depth link.play link.rest s.sheets.play.entries link.rooted link.played long well (omega (arith, length-take-le s.gates.used s.gates.entries shape.room, shape.few, shape.room)))

  -- after a settlement
  module _ (d : ℕ) (at : s.desk.depth ≡ suc (suc d)) (e : s.desk.phase ≡ Lost) where
    abbrev first : ℕ
    first = first_node f.blocks

    abbrev gs : List Pair
    gs = in_use s.gates

    abbrev roots : ℕ → ℕ
    roots = root_at s.desk

    abbrev p : List Bool
    p = link.play

    abbrev entries : List Value
    entries = s.sheets.play.entries

    abbrev marks : ℕ → Bool
    marks n = get_or s.sheets.marks.entries n false

    now : LostNow first gs (roots (suc (suc (suc d)))) p (size (game_of f) (suc (suc d))) s.sheets.marks.entries
    now = subst (λ k. LostNow first gs (roots (suc k)) p (size (game_of f) k) s.sheets.marks.entries) at (link.lost_now e)

    far : length p ≡ upto (game_of f) (suc (suc d))
    far = long ∙ ap (upto (game_of f)) at

    abbrev core : List ℕ
    core = core_of marks now.forced (first + length gs)

    steps : LostSteps (game_of f) d p first gs roots core
    steps = lost_right (game_of f) d p first gs roots marks now.forced link.rooted far now.turn

    known_play : settings_from 1 entries ≡ base_of p
    known_play = ap (settings_from 1) link.played ∙ plays_set p link.rest

    -- the core is read off the values
    same_core : core_of marks (reads (values_under first gs entries)) (first + length gs) ≡ core
    same_core =
        core_same marks (reads (values_under first gs entries)) now.forced (first + length gs)
        (λ n i m. ap (λ b. reads (node_values first gs nothing b) n) known_play
        ∙ cut_sound first gs (reads (node_values first gs nothing (base_of p))) (roots (suc (suc (suc d))) / 2) n (λ u. now.known n i m (now.turn.by_cut n i ∙ u)) ∙ sym (now.turn.by_cut n i))

    same_parts : parts_of f.blocks d entries ≡ part_after (game_of f) d p
    same_parts =
        ap₂ (λ a b. part_by (record { start = a; stop = b }) (record { start = b; stop = 1 + before f.blocks (suc (suc (suc d))) }) (settings_from 1 entries)) (nodes_at (suc d)) (nodes_at (suc (suc d)))
        ∙ ap₂ (λ c b. part_by (record { start = suc (upto (game_of f) (suc d)); stop = suc (upto (game_of f) (suc (suc d))) }) (record { start = suc (upto (game_of f) (suc (suc d))); stop = c }) b) (nodes_at (suc (suc (suc d)))) known_play
      where
        nodes_at : (j : ℕ) → 1 + before f.blocks j ≡ suc (upto (game_of f) j)
        nodes_at j = omega (arith, upto_is f j)

    news : new_gates d s ≡ settle_gates first gs (part_after (game_of f) d p) core (roots (suc d))
    news =
        ap (λ bs. settle_gates (first_node bs) gs (parts_of bs d entries) (core_of marks (reads (values_under (first_node bs) gs entries)) (first_node bs + length gs)) (roots (suc d))) shape.blocks
        ∙ ap₂ (λ x y. settle_gates first gs x y (roots (suc d))) same_parts same_core

    news_root : new_root d s ≡ settle_root first gs (part_after (game_of f) d p) core
    news_root =
        ap (λ bs. settle_root (first_node bs) gs (parts_of bs d entries) (core_of marks (reads (values_under (first_node bs) gs entries)) (first_node bs + length gs))) shape.blocks
        ∙ ap₂ (λ x y. settle_root first gs x y) same_parts same_core

    -- the gates in use are the old ones and the new ones
    gates_then : in_use (gone_back d s).gates ≡ gates_after (game_of f) d p first gs roots core
    gates_then = in_use_grown f s shape (new_gates d s) ∙ ap (λ ks. gs ++ ks) news

    -- only level d + 1's root is new
    root_then : (j : ℕ) → root_at (gone_back d s).desk j ≡ roots_after (game_of f) d p first gs roots core j
    root_then j =
        elim (cases_eq j (suc d)) [
          | inl x ↦ ap (root_at (gone_back d s).desk) x ∙ ap (λ l. l.code) (get_or-set_same s.desk.roots (suc d) (literal (new_root d s)) (literal 1) (omega (arith, shape.roots, deep, well.good.few))) ∙ news_root
              ∙ sym (ap (λ b. cond b (settle_root first gs (part_after (game_of f) d p) core) (roots j)) (eq-eqb j (suc d) x))
          | inr x ↦ ap (λ l. l.code) (get_or-set_other s.desk.roots (suc d) j (literal (new_root d s)) (literal 1) x)
              ∙ sym (ap (λ b. cond b (settle_root first gs (part_after (game_of f) d p) core) (roots j)) (ne_eqb j (suc d) x))
        ]

    roots_then : root_at (gone_back d s).desk ≡ roots_after (game_of f) d p first gs roots core
    roots_then i j = root_then j i

    low : upto (game_of f) d ≤ length p
    low = omega (arith, upto_mono (game_of f) d (suc (suc d)) (omega arith), far)

    taken : take (before s.blocks d) entries ≡ map of_bool (take (upto (game_of f) d) p)
    taken =
        ap₂ take (ap (λ bs. before bs d) shape.blocks ∙ sym (upto_is f d)) link.played
        ∙ take-append-le (upto (game_of f) d) (map of_bool p) (replicate link.rest Unknown) (omega (arith, low, length-map p of_bool)) ∙ take-map of_bool (upto (game_of f) d) p

    linked_back : Linked f (gone_back d s)
    linked_back = record {
      play = take (upto (game_of f) d) p;
      rest = length entries - before s.blocks d;
      played = ap (λ xs. xs ++ replicate (length entries - before s.blocks d) Unknown) taken;
      phase = playing;
      named = refl;
      reached = subst (λ n. Reaches (game_of f) any s.desk.turns n playing d (take (upto (game_of f) d) p) (tests_of f (gone_back d s))) (sym (add-one s.desk.settlements))
          (subst (λ A. Reaches (game_of f) any s.desk.turns (suc s.desk.settlements) playing d (take (upto (game_of f) d) p) A) (sym (ap₂ (tests first) gates_then roots_then))
          (game.settle (subst (λ k. Reaches (game_of f) any s.desk.turns s.desk.settlements lost k p (tests_of f s)) at (now_lost e)) steps.settlement));
      rooted = subst (λ hs. Rooted (game_of f) first hs (root_at (gone_back d s).desk)) (sym gates_then)
          (subst (Rooted (game_of f) first (gates_after (game_of f) d p first gs roots core)) (sym roots_then) steps.rooted);
      lost_now = λ x. impossible (cc);
      purse = link.purse;
      least = link.least;
      most = link.most;
    }

  -- after a verdict
  linked_over : s.desk.phase ≡ Lost → s.desk.depth ≤ 1 → Linked f (concluded s)
  linked_over e low = record {
    play = link.play;
    rest = link.rest;
    played = link.played;
    phase = over (not (owner (game_of f) s.desk.depth));
    named = refl;
    reached = verdict (now_lost e) low;
    rooted = link.rooted;
    lost_now = λ x. impossible (cc);
    purse = link.purse;
    least = link.least;
    most = link.most;
  }

  linked_settle : s.desk.phase ≡ Lost → (d : ℕ) → s.desk.depth ≡ d → Linked f (settle_at d s)
  linked_settle e zero at = linked_over e (omega arith)
  linked_settle e (suc zero) at = linked_over e (omega arith)
  linked_settle e (suc (suc d)) at = linked_back d at e

  linked_granted : (n : ℕ) → Linked f (with_desk s (granted n s.desk))
  linked_granted n = record {
    play = link.play;
    rest = link.rest;
    played = link.played;
    phase = link.phase;
    named = link.named;
    reached = link.reached;
    rooted = link.rooted;
    lost_now = link.lost_now;
    purse = omega (arith, link.purse);
    least = link.least;
    most = link.most;
  }

  -- every call keeps the link
  pub linked_step : (c : Call) → Fair c s → Linked f (step c s)
  linked_step (turn p h r) fair =
      elim (turn_ways p h r s fair) [
        | inl x ↦ subst (Linked f) (sym x.0) link
        | inr w ↦ subst (Linked f) (sym w.is)
            (linked_answer (playing_since s.desk p (and_parts _ _ w.asked).0) w.answer.outcome w.answer.need (subst (λ q. Right q w.answer.outcome) query_is w.right.0) w.right.1 (omega (arith, free_below, w.right.2)) w.right.3)
      ]
  linked_step (settle p h) fair =
      elim (settle_ways p h s fair) [
        | inl x ↦ subst (Linked f) (sym x.0) link
        | inr w ↦ subst (Linked f) (sym w.is) (linked_settle (lost_since s.desk p (and_parts _ _ w.present).0) s.desk.depth refl)
      ]
  linked_step (top_up n) fair =
      elim (top_ways n s) [
        | inl e ↦ subst (Linked f) (sym e) link
        | inr e ↦ subst (Linked f) (sym e) (linked_granted n)
      ]
