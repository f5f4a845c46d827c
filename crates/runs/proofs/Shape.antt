-- What every bench of a run keeps of the shapes of its tables.
use Rattle.std.proofs.Common.{◌≡◌, ℕ, zero, suc, pred, ◌+◌, ◌-◌, ◌≤◌, Bool, true, false, ◌&&◌, List, [], ◌∷◌, ◌++◌, map, length, take, drop, set, replicate, Some, None, sym, refl, ap, ◌∙◌, subst, inl, inr, arith}
use lib.Seq.{paste}
use Rattle.std.proofs.lemmas.List.{length-append, length-map, length-replicate, length-set, length-take-le, take_all, drop_at, drop-drop, drop-replicate}
use Rattle.std.proofs.lemmas.List.Edits.{paste_all, length-paste, take-paste, drop-paste}
use Rattle.std.proofs.lemmas.Bool.{and_parts, and_from, leb-true, le-leb, eq-eqb, cases_Bool, cond-false}
use Rattle.valuation.specs.declared.Value.{Value}
use Rattle.valuation.specs.declared.Value.TheVariants.{Unknown}
use Rattle.valuation.specs.Three.{of_bool}
use Rattle.valuation.specs.Circuit.{Pair, blank}
use Rattle.question.proofs.Never.{impossible}
use Rattle.question.specs.declared.prefix.Block.{Block}
use Rattle.question.specs.Blocks.{block_at, total}
use Rattle.question.specs.Formula.{Formula, WellFormed}
use Rattle.search.specs.Answers.{Outcome, moves, loses, Right}
use Rattle.copies.specs.Copy.{opposite}
use Rattle.copying.specs.Places.{none}
use Rattle.copying.specs.Settle.{fits}
use Rattle.runs.specs.declared.Phase.{Phase}
use Rattle.runs.specs.declared.Phase.TheVariants.{Playing, Lost, Over}
use Rattle.runs.specs.declared.Desk.{Desk}
use Rattle.runs.specs.declared.Stub.{Stub}
use Rattle.runs.specs.declared.Refusal.TheVariants.{Short, Full}
use Rattle.runs.specs.State.{Sheet, Sheets, State, before, width, first_node, all_bound, roomy, in_use, own}
use Rattle.runs.specs.State as state
use Rattle.runs.specs.Papers.{stub_of, carries, is_playing, is_lost, ticket_present, slip_present}
use Rattle.runs.specs.Turn.{query_of, with_part, played, marked_by, after_answer}
use Rattle.runs.specs.Settle.{new_gates, grown, gone_back, concluded, settle_at, full_at}
use Rattle.runs.specs.Ends.{literal, last_root, start_roots, open_refusal, opened, all_zeroed}
use Rattle.runs.specs.Grants.{granted}
use Rattle.runs.specs.Calls.{Call, turn, settle, top_up, step, Fair}
use Rattle.runs.specs.Law.{Fresh}
use Rattle.runs.proofs.Ways.{turn_ways, settle_ways, with_desk, top_ways}

pub record Shaped (f : Formula) (s : State) : Type 0 where
  pub blocks : s.blocks ≡ f.blocks
  pub count : s.count ≡ length f.gates
  pub output : s.output ≡ f.output
  pub bound : all_bound s.desk.stamp s.gates s.sheets ≡ true
  pub first : s.gates.first ≡ first_node f.blocks
  pub used : s.gates.used ≡ s.desk.gates
  pub played : s.sheets.play.used ≡ before f.blocks s.desk.depth
  pub shown : s.sheets.marks.used ≡ state.shown s.desk.phase (first_node f.blocks + s.desk.gates)
  pub roomy : state.roomy (total f.blocks) (length s.gates.entries) s.sheets ≡ true
  pub room : s.gates.used ≤ length s.gates.entries
  pub few : length s.gates.entries ≤ 8000
  pub roots : length s.desk.roots ≡ 18
  pub unset : drop s.sheets.play.used s.sheets.play.entries ≡ replicate (length s.sheets.play.entries - s.sheets.play.used) Unknown

-- the variables before a block, and of it: past the end both stop
pub before_suc : (bs : List Block) (d : ℕ) → before bs (suc d) ≡ before bs d + width bs d
unfolding total
before_suc [] zero = refl
before_suc [] (suc d) = refl
before_suc (b ∷ bs) zero = omega arith
before_suc (b ∷ bs) (suc d) = omega (arith, before_suc bs d)

pub before_total : (bs : List Block) (d : ℕ) → before bs d ≤ total bs
unfolding total
before_total bs zero = omega arith
before_total [] (suc d) = omega arith
before_total (b ∷ bs) (suc d) = omega (arith, before_total bs d)

-- a list with other entries from a place on
module _ {X : Type 0} (a : ℕ) (ys xs : List X) (fit : a + length ys ≤ length xs) where
  pub pasted : with_part a ys xs ≡ paste xs a ys (length ys)
  pasted = sym (paste_all xs a ys (length ys) refl)

  pub length_part : length (with_part a ys xs) ≡ length xs
  length_part = ap length pasted ∙ length-paste xs a ys (length ys) fit (omega arith)

  pub drop_part : drop (a + length ys) (with_part a ys xs) ≡ drop (a + length ys) xs
  drop_part = ap (drop (a + length ys)) pasted ∙ drop-paste xs a ys (length ys) (omega arith) (omega arith)

-- the entries beyond those in use, one part later
later : (a n : ℕ) (xs ys : List Value) → length ys ≡ length xs → drop a xs ≡ replicate (length xs - a) Unknown → drop (a + n) ys ≡ drop (a + n) xs → drop (a + n) ys ≡ replicate (length ys - (a + n)) Unknown
later a n xs ys l e f =
    f ∙ sym (drop-drop n a xs) ∙ ap (drop n) e ∙ drop-replicate n (length xs - a) Unknown ∙ ap (λ k. replicate k Unknown) (let g : length xs - a - n ≡ length ys - (a + n) = omega arith in g)

-- the room that the tables have
pub record Room (variables entries : ℕ) (t : Sheets) : Type 0 where
  pub play : variables ≤ length t.play.entries
  pub values : 1 + variables + entries ≤ length t.values.entries
  pub forced : 1 + variables + entries ≤ length t.forced.entries
  pub marks : 1 + variables + entries ≤ length t.marks.entries
  pub copies : 1 + variables + entries ≤ length t.copies.entries

pub room_from : (v n : ℕ) (t : Sheets) → roomy v n t ≡ true → Room v n t
room_from v n t h =
    let a = and_parts _ _ h in
    let b = and_parts _ _ a.0 in
    let c = and_parts _ _ b.0 in
    let d = and_parts _ _ c.0 in
    record {
      play = leb-true v _ d.0;
      values = leb-true (1 + v + n) _ d.1;
      forced = leb-true (1 + v + n) _ c.1;
      marks = leb-true (1 + v + n) _ b.1;
      copies = leb-true (1 + v + n) _ a.1;
    }

pub room_to : (v n : ℕ) (t : Sheets) → Room v n t → roomy v n t ≡ true
room_to v n t r =
    and_from _ _ (and_from _ _ (and_from _ _ (and_from _ _ (le-leb v _ r.play) (le-leb (1 + v + n) _ r.values)) (le-leb (1 + v + n) _ r.forced)) (le-leb (1 + v + n) _ r.marks))
    (le-leb (1 + v + n) _ r.copies)

-- it rests on the lengths alone
roomy_with : (v n : ℕ) (t : Sheets) (play : Sheet Value) (marks : Sheet Bool) → length play.entries ≡ length t.play.entries → length marks.entries ≡ length t.marks.entries → roomy v n t ≡ true →
    roomy v n (record { play = play; values = t.values; forced = t.forced; marks = marks; copies = t.copies }) ≡ true
roomy_with v n t play marks p m h =
    let r = room_from v n t h in
    room_to v n (record { play = play; values = t.values; forced = t.forced; marks = marks; copies = t.copies })
    (record { play = omega arith; values = r.values; forced = r.forced; marks = omega arith; copies = r.copies })

-- open asks for it
pub roomy_since : (v n : ℕ) (t : Sheets) → open_refusal v n t ≡ None → roomy v n t ≡ true
roomy_since v n t h =
    elim (cases_Bool (roomy v n t)) [
      | inl y ↦ y
      | inr n' ↦ let z = cond-false (roomy v n t) None (Some Short) n' in impossible (cc)
    ]

-- the present paper carries the bench's numbers
pub own_stub : (d : Desk) → carries d (stub_of d) ≡ true
own_stub d = and_from _ _ (and_from _ _ (eq-eqb d.stamp d.stamp refl) (eq-eqb d.turns d.turns refl)) (eq-eqb d.settlements d.settlements refl)

-- the phase by a paper
pub playing_since : (d : Desk) (p : Stub) → ticket_present d p ≡ true → d.phase ≡ Playing
playing_since d p h = by d.phase (and_parts _ _ h).0
  where
    by : (x : Phase) → is_playing x ≡ true → x ≡ Playing
    by Playing e = refl
    by Lost e = impossible (cc)
    by Over e = impossible (cc)

pub lost_since : (d : Desk) (p : Stub) → slip_present d p ≡ true → d.phase ≡ Lost
lost_since d p h = by d.phase (and_parts _ _ h).0
  where
    by : (x : Phase) → is_lost x ≡ true → x ≡ Lost
    by Lost e = refl
    by Playing e = impossible (cc)
    by Over e = impossible (cc)

length_start : (bs : List Block) (out : ℕ) → length (start_roots bs out) ≡ 18
length_start bs out =
    let last = last_root (block_at bs (pred (length bs))).quantifier out in
    length-set (set (replicate 18 (literal 1)) (length bs) (literal last)) (suc (length bs)) (literal (opposite last)) ∙ length-set (replicate 18 (literal 1)) (length bs) (literal last)

-- a fresh bench has them
opened_shaped : (f : Formula) (n : ℕ) (t : Sheets) (stamp grant : ℕ) → length f.gates ≤ n → n ≤ 8000 → open_refusal (total f.blocks) n t ≡ None → Shaped f (opened f n t stamp grant)
unfolding total
opened_shaped f n t stamp grant room few accepted =
    let long : length (opened f n t stamp grant).gates.entries ≡ n = length-append f.gates _ ∙ omega (arith, length-replicate (n - length f.gates) blank) in
    let r : Room (total f.blocks) n t = room_from (total f.blocks) n t (roomy_since (total f.blocks) n t accepted) in
    record {
      blocks = refl;
      count = refl;
      output = refl;
      bound = ap (λ b. b && b && b && b && b && b) (eq-eqb stamp stamp refl);
      first = refl;
      used = refl;
      played = refl;
      shown = refl;
      roomy = room_to (total f.blocks) _ (all_zeroed (Some stamp) t) (record {
        play = omega (arith, length-replicate (length t.play.entries) Unknown);
        values = omega (arith, length-replicate (length t.values.entries) Unknown);
        forced = omega (arith, length-replicate (length t.forced.entries) Unknown);
        marks = omega (arith, length-replicate (length t.marks.entries) false);
        copies = omega (arith, length-replicate (length t.copies.entries) none);
      });
      room = omega arith;
      few = omega arith;
      roots = length_start f.blocks f.output;
      unset = ap (λ k. replicate k Unknown) (let e : length t.play.entries ≡ length (replicate (length t.play.entries) Unknown) - 0 = omega (arith, length-replicate (length t.play.entries) Unknown) in e);
    }

pub shaped_fresh : (f : Formula) → WellFormed f → (s : State) → Fresh f s → Shaped f s
shaped_fresh f well s fresh = subst (Shaped f) (sym fresh.is) (opened_shaped f fresh.entries fresh.sheets fresh.stamp fresh.grant fresh.room fresh.few fresh.accepted)

-- what the calls find in such a bench
module _ (f : Formula) (s : State) (shape : Shaped f s) where
  -- the tables' room, by the bench's own blocks
  pub room_of : Room (total s.blocks) (length s.gates.entries) s.sheets
  room_of = room_from _ _ _ (subst (λ bs. roomy (total bs) (length s.gates.entries) s.sheets ≡ true) (sym shape.blocks) shape.roomy)

  pub length_in_use : length (in_use s.gates) ≡ s.desk.gates
  length_in_use = length-take-le s.gates.used s.gates.entries shape.room ∙ shape.used

  -- the gates in use, with more
  pub in_use_grown : (new : List Pair) → in_use (grown new s.gates) ≡ in_use s.gates ++ new
  in_use_grown new = take-paste s.gates.entries s.gates.used new (length new) shape.room (omega arith) ∙ ap (λ hs. in_use s.gates ++ hs) (take_all (length new) new (omega arith))

  -- a right answer
  answer_shaped : (o : Outcome) (need : ℕ) → s.desk.phase ≡ Playing → Right (query_of s) o → Shaped f (after_answer (record { outcome = o; need = need }) s)
  answer_shaped (moves setting) need playing right =
      let below = before s.blocks s.desk.depth in
      let wide : length (map of_bool setting) ≡ width s.blocks s.desk.depth = length-map setting of_bool ∙ right.0 in
      let next = before_suc s.blocks s.desk.depth in
      let all = before_total s.blocks (suc s.desk.depth) in
      let fit : below + length (map of_bool setting) ≤ length s.sheets.play.entries = omega (arith, room_of.play) in
      let long = length_part below (map of_bool setting) s.sheets.play.entries fit in
      let was : s.sheets.play.used ≡ below = shape.played ∙ ap (λ bs. before bs s.desk.depth) (sym shape.blocks) in
      record {
        blocks = shape.blocks;
        count = shape.count;
        output = shape.output;
        bound = shape.bound;
        first = shape.first;
        used = shape.used;
        played = ap (λ n. below + n) right.0 ∙ sym next ∙ ap (λ bs. before bs (suc s.desk.depth)) shape.blocks;
        shown = shape.shown ∙ ap (λ x. state.shown x (first_node f.blocks + s.desk.gates)) playing;
        roomy = roomy_with (total f.blocks) (length s.gates.entries) s.sheets (played below setting s.sheets.play) s.sheets.marks long refl shape.roomy;
        room = shape.room;
        few = shape.few;
        roots = shape.roots;
        unset = subst (λ n. drop (below + n) (with_part below (map of_bool setting) s.sheets.play.entries) ≡ replicate (length (with_part below (map of_bool setting) s.sheets.play.entries) - (below + n)) Unknown)
            (length-map setting of_bool)
            (later below (length (map of_bool setting)) s.sheets.play.entries _ long
            (subst (λ n. drop n s.sheets.play.entries ≡ replicate (length s.sheets.play.entries - n) Unknown) was shape.unset)
            (drop_part below (map of_bool setting) s.sheets.play.entries fit));
      }
  answer_shaped (loses core) need playing right =
      let size : length core ≡ first_node s.blocks + s.desk.gates = right.0 ∙ ap (λ n. 1 + total s.blocks + n) length_in_use in
      let fit : 0 + length core ≤ length s.sheets.marks.entries = omega (arith, room_of.marks, shape.room, shape.used) in
      let long = length_part 0 core s.sheets.marks.entries fit in
      record {
        blocks = shape.blocks;
        count = shape.count;
        output = shape.output;
        bound = shape.bound;
        first = shape.first;
        used = shape.used;
        played = shape.played;
        shown = size ∙ ap (λ bs. first_node bs + s.desk.gates) shape.blocks;
        roomy = roomy_with (total f.blocks) (length s.gates.entries) s.sheets s.sheets.play (marked_by core s.sheets.marks) refl long shape.roomy;
        room = shape.room;
        few = shape.few;
        roots = shape.roots;
        unset = shape.unset;
      }

  -- the verdict
  concluded_shaped : Shaped f (concluded s)
  concluded_shaped = record {
    blocks = shape.blocks;
    count = shape.count;
    output = shape.output;
    bound = shape.bound;
    first = shape.first;
    used = shape.used;
    played = shape.played;
    shown = refl;
    roomy = roomy_with (total f.blocks) (length s.gates.entries) s.sheets s.sheets.play (concluded s).sheets.marks refl (length-replicate (length s.sheets.marks.entries) false) shape.roomy;
    room = shape.room;
    few = shape.few;
    roots = shape.roots;
    unset = shape.unset;
  }

  -- a settlement whose gates fit
  back_shaped : (d : ℕ) → fits s.gates.entries s.gates.used (new_gates d s) ≡ true → Shaped f (gone_back d s)
  back_shaped d fit =
      let new = new_gates d s in
      let n = before s.blocks d in
      let xs = s.sheets.play.entries in
      let enough : s.gates.used + length new ≤ length s.gates.entries = leb-true (s.gates.used + length new) _ fit in
      let table : length (gone_back d s).gates.entries ≡ length s.gates.entries = length-paste s.gates.entries s.gates.used new (length new) enough (omega arith) in
      let low : n ≤ length xs = omega (arith, before_total s.blocks d, room_of.play) in
      let front : length (take n xs) ≡ n = length-take-le n xs low in
      let long : length (take n xs ++ replicate (length xs - n) Unknown) ≡ length xs = length-append (take n xs) _ ∙ omega (arith, length-replicate (length xs - n) Unknown) in
      let marks = length-replicate (length s.sheets.marks.entries) false in
      let same : total s.blocks ≡ total f.blocks = ap total shape.blocks in
      let r = room_of in
      record {
        blocks = shape.blocks;
        count = shape.count;
        output = shape.output;
        bound = shape.bound;
        first = shape.first;
        used = ap (λ k. k + length new) shape.used;
        played = ap (λ bs. before bs d) shape.blocks;
        shown = refl;
        roomy = room_to _ _ (gone_back d s).sheets (record {
          play = omega (arith, r.play);
          values = omega (arith, r.values);
          forced = omega (arith, r.forced);
          marks = omega (arith, r.marks);
          copies = omega (arith, r.copies);
        });
        room = omega arith;
        few = omega (arith, shape.few);
        roots = length-set s.desk.roots (suc d) _ ∙ shape.roots;
        unset = drop_at (take n xs) _ n front ∙ ap (λ k. replicate (k - n) Unknown) (sym long);
      }

  -- a settlement that is not refused
  settled_shaped : (n : ℕ) → full_at n s ≡ None → Shaped f (settle_at n s)
  settled_shaped zero h = concluded_shaped
  settled_shaped (suc zero) h = concluded_shaped
  settled_shaped (suc (suc d)) h =
      elim (cases_Bool (fits s.gates.entries s.gates.used (new_gates d s))) [
        | inl y ↦ back_shaped d y
        | inr n' ↦ let z = cond-false (fits s.gates.entries s.gates.used (new_gates d s)) None (Some Full) n' in impossible (cc)
      ]

  -- a top_up
  granted_shaped : (n : ℕ) → Shaped f (with_desk s (granted n s.desk))
  granted_shaped n = record {
    blocks = shape.blocks;
    count = shape.count;
    output = shape.output;
    bound = shape.bound;
    first = shape.first;
    used = shape.used;
    played = shape.played;
    shown = shape.shown;
    roomy = shape.roomy;
    room = shape.room;
    few = shape.few;
    roots = shape.roots;
    unset = shape.unset;
  }

  -- its tables are its own, if it is at a level
  pub own_shaped : s.desk.depth ≤ length s.blocks → own s ≡ true
  own_shaped level =
      and_from _ _ (and_from _ _ shape.bound (and_from _ _ (and_from _ _ (and_from _ _ (and_from _ _
      (le-leb s.desk.depth (length s.blocks) level)
      (eq-eqb s.gates.first (first_node s.blocks) (shape.first ∙ ap first_node (sym shape.blocks))))
      (eq-eqb s.gates.used s.desk.gates shape.used))
      (eq-eqb s.sheets.play.used (before s.blocks s.desk.depth) (shape.played ∙ ap (λ bs. before bs s.desk.depth) (sym shape.blocks))))
      (eq-eqb s.sheets.marks.used (state.shown s.desk.phase (first_node s.blocks + s.desk.gates))
      (shape.shown ∙ ap (λ bs. state.shown s.desk.phase (first_node bs + s.desk.gates)) (sym shape.blocks)))))
      (room_to _ _ _ room_of)

-- every call keeps them
pub shaped_step : (f : Formula) → WellFormed f → (s : State) (c : Call) → Shaped f s → Fair c s → Shaped f (step c s)
shaped_step f well s (turn p h r) shape fair =
    elim (turn_ways p h r s fair) [
      | inl same ↦ subst (Shaped f) (sym same.0) shape
      | inr w ↦ subst (Shaped f) (sym w.is) (answer_shaped f s shape w.answer.outcome w.answer.need (playing_since s.desk p (and_parts _ _ w.asked).0) w.right.0)
    ]
shaped_step f well s (settle p h) shape fair =
    elim (settle_ways p h s fair) [
      | inl same ↦ subst (Shaped f) (sym same.0) shape
      | inr w ↦ subst (Shaped f) (sym w.is) (settled_shaped f s shape s.desk.depth w.fits)
    ]
shaped_step f well s (top_up n) shape fair =
    elim (top_ways n s) [
      | inl same ↦ subst (Shaped f) (sym same) shape
      | inr more ↦ subst (Shaped f) (sym more) (granted_shaped f s shape n)
    ]
