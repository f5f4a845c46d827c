-- The gist of a bench: what the course of a run rests on. Each call makes of it a function of the gist alone.
use Rattle.std.proofs.Common.{◌≡◌, ℕ, zero, suc, ◌+◌, ◌-◌, ◌/◌, ◌<◌, ◌≤◌, Bool, true, false, cond, eqb, ltb, leb, List, [], ◌∷◌, ◌++◌, map, length, get_or, take, drop, set, replicate, Some, Option, sym, refl, ap, ◌∙◌, ap₂, inl, inr, arith}
use mathlib.Core.Path.{fun_ext}
use lib.Seq.{take-append_seam, take-append-add}
use Rattle.std.specs.List.{range_with_len}
use Rattle.std.proofs.lemmas.List.{length-map, length-take-le, get_or-take, take-take, take-replicate, drop-take}
use Rattle.std.proofs.lemmas.Bool.{ltb-true, ltb-false, and_parts}
use Rattle.circuit.specs.declared.Literal.{Literal}
use Rattle.valuation.specs.declared.Value.{Value}
use Rattle.valuation.specs.declared.Value.TheVariants.{Unknown, False}
use Rattle.valuation.specs.Three.{of_bool}
use Rattle.valuation.specs.Circuit.{Pair, Values, nothing, reads, settings_from, values_of}
use Rattle.valuation.specs.Reach.{cut}
use Rattle.question.specs.declared.prefix.Block.{Block}
use Rattle.question.specs.Blocks.{total}
use Rattle.question.specs.Formula.{Formula}
use Rattle.search.specs.Queries.{Query}
use Rattle.search.specs.Answers.{Outcome, moves, loses, Right}
use Rattle.copies.specs.Copy.{lost, stays}
use Rattle.copies.specs.Make.{Nodes, inside, by_value, literal_for, core_of, settle_gates, settle_root}
use Rattle.runs.specs.declared.Phase.{Phase}
use Rattle.runs.specs.declared.Phase.TheVariants.{Playing, Lost}
use Rattle.runs.specs.declared.Verdict.{Verdict}
use Rattle.runs.specs.State.{State, before, width, first_node, root_in, in_use, shown}
use Rattle.runs.specs.Turn.{values_under, level_query, query_of, with_part, after_answer}
use Rattle.runs.specs.Settle.{parts_of, core_now, new_gates, new_root, gone_back, universal_at, opening_at}
use Rattle.runs.specs.Ends.{literal, start_roots}
use Rattle.runs.specs.Calls.{top_up, step, setting_at}
use Rattle.runs.specs.Law.{Fresh}
use Rattle.runs.proofs.Ways.{top_ways}
use Rattle.runs.proofs.Shape.{Shaped, Room, before_suc, before_total, room_from, room_of, roomy_since, length_in_use, in_use_grown}

-- the numbers but for the purse, the grants, the stamp and the settlements; the gates in use, the play of the variables, the marks in use
pub record Gist : Type 0 where
  pub blocks : List Block
  pub phase : Phase
  pub depth : ℕ
  pub roots : List Literal
  pub turns : ℕ
  pub steps : ℕ
  pub gates : List Pair
  pub play : List Value
  pub marks : List Bool

abbrev pub gist : State → Gist
gist s = record {
  blocks = s.blocks;
  phase = s.desk.phase;
  depth = s.desk.depth;
  roots = s.desk.roots;
  turns = s.desk.turns;
  steps = s.desk.steps;
  gates = in_use s.gates;
  play = take (total s.blocks) s.sheets.play.entries;
  marks = take s.sheets.marks.used s.sheets.marks.entries;
}

-- the query of a turn
abbrev pub asked : Gist → Query
asked c = level_query (total c.blocks) c.gates (root_in c.roots (suc c.depth)) c.play (before c.blocks c.depth) (width c.blocks c.depth)

-- after an answer
abbrev pub answered : Outcome → ℕ → Gist → Gist
answered (moves setting) need c = record {
  blocks = c.blocks;
  phase = Playing;
  depth = suc c.depth;
  roots = c.roots;
  turns = c.turns + 1;
  steps = c.steps + need;
  gates = c.gates;
  play = with_part (before c.blocks c.depth) (map of_bool setting) c.play;
  marks = c.marks;
}
answered (loses core) need c = record {
  blocks = c.blocks;
  phase = Lost;
  depth = c.depth;
  roots = c.roots;
  turns = c.turns + 1;
  steps = c.steps + need;
  gates = c.gates;
  play = c.play;
  marks = core;
}

-- the literals of the marked core, the gates of a settlement and its root
abbrev pub core_in : Gist → List ℕ
core_in c = core_of (λ n. get_or c.marks n false) (reads (values_under (first_node c.blocks) c.gates c.play)) (first_node c.blocks + length c.gates)

abbrev pub gates_in : ℕ → Gist → List Pair
gates_in d c = settle_gates (first_node c.blocks) c.gates (parts_of c.blocks d c.play) (core_in c) (root_in c.roots (suc d))

abbrev pub new_root_in : ℕ → Gist → ℕ
new_root_in d c = settle_root (first_node c.blocks) c.gates (parts_of c.blocks d c.play) (core_in c)

-- after a settlement at level d + 3
abbrev pub back : ℕ → Gist → Gist
back d c = record {
  blocks = c.blocks;
  phase = Playing;
  depth = d;
  roots = set c.roots (suc d) (literal (new_root_in d c));
  turns = c.turns;
  steps = c.steps;
  gates = c.gates ++ gates_in d c;
  play = take (before c.blocks d) c.play ++ replicate (total c.blocks - before c.blocks d) Unknown;
  marks = [];
}

-- a fresh bench
abbrev pub start : Formula → Gist
start f = record {
  blocks = f.blocks;
  phase = Playing;
  depth = 0;
  roots = start_roots f.blocks f.output;
  turns = 0;
  steps = 0;
  gates = f.gates;
  play = replicate (total f.blocks) Unknown;
  marks = [];
}

-- the verdict, and the opening's setting
abbrev pub verdict_in : Gist → Verdict
verdict_in c = record { word = universal_at c.blocks c.depth; turns = c.turns; steps = c.steps; opening = opening_at c.blocks c.depth }

abbrev pub setting_in : Gist → Option (List Value)
setting_in c = setting_at (opening_at c.blocks c.depth) c.play

-- equal functions of the numbers from a on, and of those below a bound
map_same : {X : Type 0} (f g : ℕ → X) (a n : ℕ) → ((k : ℕ) → k < a + n → f k ≡ g k) → map f (range_with_len a n) ≡ map g (range_with_len a n)
map_same f g a zero h = refl
map_same f g a (suc n) h = ap₂ (λ x xs. x ∷ xs) (h a (omega arith)) (map_same f g (a + 1) n (λ k i. h k (omega arith)))

core_same : (m m' : ℕ → Bool) (v : Values) (n : ℕ) → ((k : ℕ) → k < n → m k ≡ m' k) → core_of m v n ≡ core_of m' v n
core_same m m' v zero h = refl
core_same m m' v (suc n) h = ap₂ (λ x b. x ++ cond b (literal_for (v n) n) []) (core_same m m' v n (λ k i. h k (omega arith))) (h n (omega arith))

-- the settings of the variables
settings_same : (v : ℕ) (xs : List Value) (n : ℕ) → n < 1 + v → settings_from 1 xs n ≡ settings_from 1 (take v xs) n
settings_same v xs n h = by (eqb n 0) (ltb n 1) refl
  where
    by : (z b : Bool) → ltb n 1 ≡ b → cond z False (cond b Unknown (reads xs (n - 1))) ≡ cond z False (cond b Unknown (reads (take v xs) (n - 1)))
    by true b e = refl
    by false true e = refl
    by false false e = sym (get_or-take v xs (n - 1) Unknown (omega (arith, ltb-false n 1 e)))

-- so the values of all nodes rest on these
values_same : (v : ℕ) (gs : List Pair) (xs : List Value) → values_under (1 + v) gs xs ≡ values_under (1 + v) gs (take v xs)
values_same v gs xs = ap (values_of gs nothing) (map_same _ _ 0 (1 + v) (λ n i. settings_same v xs n (omega arith)))

pub query_gist : (s : State) → query_of s ≡ asked (gist s)
query_gist s =
    ap (λ vs. record {
      variables = total s.blocks;
      gates = in_use s.gates;
      root = root_in s.desk.roots (suc s.desk.depth);
      start = 1 + before s.blocks s.desk.depth;
      forced = map (cut (first_node s.blocks) (in_use s.gates) (reads vs) (root_in s.desk.roots (suc s.desk.depth) / 2)) (range_with_len 0 (first_node s.blocks + length (in_use s.gates)));
      free = width s.blocks s.desk.depth;
    }) (values_same (total s.blocks) (in_use s.gates) s.sheets.play.entries)

-- a part of the first v entries
take_part : {X : Type 0} (v a : ℕ) (ys xs : List X) → a + length ys ≤ v → v ≤ length xs → take v (with_part a ys xs) ≡ with_part a ys (take v xs)
take_part v a ys xs h l =
    let n = length ys in
    let m = v - (a + n) in
    let e : v ≡ a + (n + m) = omega arith in
    let f : v ≡ a + n + m = omega arith in
    let front : length (take a xs) ≡ a = length-take-le a xs (omega arith) in
    ap (λ k. take k (with_part a ys xs)) e
    ∙ ap (λ k. take (k + (n + m)) (with_part a ys xs)) (sym front)
    ∙ take-append-add (take a xs) (ys ++ drop (a + n) xs) (n + m)
    ∙ ap (λ zs. take a xs ++ zs) (take-append-add ys (drop (a + n) xs) m)
    ∙ ap₂ (λ zs ws. zs ++ (ys ++ ws)) (sym (take-take a v xs (omega arith))) (sym (drop-take (a + n) m xs) ∙ ap (λ k. drop (a + n) (take k xs)) (sym f))

-- the first v of a list that is unset from a on
take_unset : (v a : ℕ) (xs : List Value) → a ≤ v → v ≤ length xs → take v (take a xs ++ replicate (length xs - a) Unknown) ≡ take a (take v xs) ++ replicate (v - a) Unknown
take_unset v a xs h l =
    let e : v ≡ a + (v - a) = omega arith in
    let front : length (take a xs) ≡ a = length-take-le a xs (omega arith) in
    let ys = take a xs ++ replicate (length xs - a) Unknown in
    ap (λ k. take k ys) e ∙ ap (λ k. take (k + (v - a)) ys) (sym front) ∙ take-append-add (take a xs) _ (v - a)
    ∙ ap₂ ◌++◌ (sym (take-take a v xs h)) (take-replicate (v - a) (length xs - a) Unknown (omega arith))

-- the parts of a settlement
parts_same : (bs : List Block) (d : ℕ) (xs : List Value) → parts_of bs d xs ≡ parts_of bs d (take (total bs) xs)
parts_same bs d xs = fun_ext (λ n. ap (cond (inside mine n) lost) (by n (inside below n) refl))
  where
    below : Nodes
    below = record { start = 1 + before bs (suc d); stop = 1 + before bs (suc (suc d)) }

    mine : Nodes
    mine = record { start = 1 + before bs (suc (suc d)); stop = 1 + before bs (suc (suc (suc d))) }

    by : (n : ℕ) (b : Bool) → inside below n ≡ b → cond b (by_value (settings_from 1 xs n)) stays ≡ cond b (by_value (settings_from 1 (take (total bs) xs) n)) stays
    by n true e =
        let i : n < 1 + before bs (suc (suc d)) = ltb-true n (1 + before bs (suc (suc d))) (and_parts (leb (1 + before bs (suc d)) n) (ltb n (1 + before bs (suc (suc d)))) e).1 in
        ap by_value (settings_same (total bs) xs n (omega (arith, before_total bs (suc (suc d)))))
    by n false e = refl

module _ (f : Formula) (s : State) (shape : Shaped f s) where
  abbrev variables : ℕ
  variables = total s.blocks

  -- an answer
  pub gist_answer : (o : Outcome) (need : ℕ) → Right (query_of s) o → gist (after_answer (record { outcome = o; need = need }) s) ≡ answered o need (gist s)
  gist_answer (moves setting) need right =
      let below = before s.blocks s.desk.depth in
      let wide : length (map of_bool setting) ≡ width s.blocks s.desk.depth = length-map setting of_bool ∙ right.0 in
      let next = before_suc s.blocks s.desk.depth in
      let all = before_total s.blocks (suc s.desk.depth) in
      let r = room_of f s shape in
      ap (λ xs. record {
        blocks = s.blocks;
        phase = Playing;
        depth = suc s.desk.depth;
        roots = s.desk.roots;
        turns = s.desk.turns + 1;
        steps = s.desk.steps + need;
        gates = in_use s.gates;
        play = xs;
        marks = take s.sheets.marks.used s.sheets.marks.entries;
      }) (take_part variables below (map of_bool setting) s.sheets.play.entries (omega arith) r.play)
  gist_answer (loses core) need right =
      ap (λ xs. record {
        blocks = s.blocks;
        phase = Lost;
        depth = s.desk.depth;
        roots = s.desk.roots;
        turns = s.desk.turns + 1;
        steps = s.desk.steps + need;
        gates = in_use s.gates;
        play = take variables s.sheets.play.entries;
        marks = xs;
      }) (take-append_seam core (drop (0 + length core) s.sheets.marks.entries))

  -- the core, the gates and the root of a settlement
  core_gist : s.desk.phase ≡ Lost → core_now s ≡ core_in (gist s)
  core_gist h =
      let n = first_node s.blocks + length (in_use s.gates) in
      let size : n ≡ s.sheets.marks.used =
      ap (λ k. first_node s.blocks + k) (length_in_use f s shape) ∙ ap (λ bs. first_node bs + s.desk.gates) shape.blocks ∙ ap (λ x. shown x (first_node f.blocks + s.desk.gates)) (sym h) ∙ sym shape.shown
      in
      ap (λ vs. core_of (λ k. get_or s.sheets.marks.entries k false) (reads vs) n) (values_same variables (in_use s.gates) s.sheets.play.entries)
      ∙ core_same _ _ _ n (λ k i. sym (get_or-take s.sheets.marks.used s.sheets.marks.entries k false (omega arith)))

  gates_gist : (d : ℕ) → s.desk.phase ≡ Lost → new_gates d s ≡ gates_in d (gist s)
  gates_gist d h = ap₂ (λ p c. settle_gates (first_node s.blocks) (in_use s.gates) p c (root_in s.desk.roots (suc d))) (parts_same s.blocks d s.sheets.play.entries) (core_gist h)

  root_gist : (d : ℕ) → s.desk.phase ≡ Lost → new_root d s ≡ new_root_in d (gist s)
  root_gist d h = ap₂ (λ p c. settle_root (first_node s.blocks) (in_use s.gates) p c) (parts_same s.blocks d s.sheets.play.entries) (core_gist h)

  -- a settlement, by its gates and its root
  abbrev back_by : (d root : ℕ) (new : List Pair) → Gist
  back_by d root new = record {
    blocks = s.blocks;
    phase = Playing;
    depth = d;
    roots = set s.desk.roots (suc d) (literal root);
    turns = s.desk.turns;
    steps = s.desk.steps;
    gates = in_use s.gates ++ new;
    play = take (before s.blocks d) (take variables s.sheets.play.entries) ++ replicate (variables - before s.blocks d) Unknown;
    marks = [];
  }

  pub gist_back : (d : ℕ) → s.desk.phase ≡ Lost → gist (gone_back d s) ≡ back d (gist s)
  gist_back d h =
      let n = before s.blocks d in
      let r = room_of f s shape in
      let g = in_use_grown f s shape (new_gates d s) in
      let p = take_unset variables n s.sheets.play.entries (before_total s.blocks d) r.play in
      ap₂ (λ gs xs. record {
        blocks = s.blocks;
        phase = Playing;
        depth = d;
        roots = set s.desk.roots (suc d) (literal (new_root d s));
        turns = s.desk.turns;
        steps = s.desk.steps;
        gates = gs;
        play = xs;
        marks = [];
      }) g p
      ∙ ap₂ (back_by d) (root_gist d h) (gates_gist d h)

-- a top_up
pub gist_top : (n : ℕ) (s : State) → gist (step (top_up n) s) ≡ gist s
gist_top n s = elim (top_ways n s) [ inl e ↦ ap gist e | inr e ↦ ap gist e ]

-- an opening's setting is in the play of the variables
pub setting_gist : (s : State) → setting_at (opening_at s.blocks s.desk.depth) s.sheets.play.entries ≡ setting_in (gist s)
setting_gist s = by s.desk.depth
  where
    by : (n : ℕ) → setting_at (opening_at s.blocks n) s.sheets.play.entries ≡ setting_at (opening_at s.blocks n) (take (total s.blocks) s.sheets.play.entries)
    by zero = refl
    by (suc n) = ap Some (sym (take-take (width s.blocks 0) (total s.blocks) s.sheets.play.entries (omega (arith, before_suc s.blocks 0, before_total s.blocks 1))))

-- a fresh bench
pub gist_fresh : (f : Formula) (s : State) → Fresh f s → gist s ≡ start f
gist_fresh f s fresh =
    let t = fresh.sheets in
    let r : Room (total f.blocks) fresh.entries t = room_from _ _ t (roomy_since (total f.blocks) fresh.entries t fresh.accepted) in
    ap gist fresh.is
    ∙ ap₂ (λ gs xs. record {
      blocks = f.blocks;
      phase = Playing;
      depth = 0;
      roots = start_roots f.blocks f.output;
      turns = 0;
      steps = 0;
      gates = gs;
      play = xs;
      marks = [];
    }) (take-append_seam f.gates _) (take-replicate (total f.blocks) (length t.play.entries) Unknown r.play)
