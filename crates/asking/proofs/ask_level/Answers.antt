use Rattle.std.proofs.Common.{◌≡◌, ℕ, ◌+◌, ◌-◌, false, List, length, take, drop, replicate, sym, ap, ◌∙◌, subst, ap₂, arith}
use borrow.Rule.Slice.PartMut.{put_mid}
use Rattle.std.proofs.lemmas.List.{length-map, length-take-le, length-drop}
use Rattle.valuation.specs.declared.Value.{Value}
use Rattle.valuation.specs.declared.Value.TheVariants.{Unknown}
use Rattle.circuit.specs.declared.Gate.{Gate}
use Rattle.circuit.specs.Gates.{pair, pairs}
use Rattle.search.specs.Queries.{Query, Sound}
use Rattle.search.specs.Answers.{Answer, reply_of, range_after, marks_after}
use Rattle.runs.specs.Turn.{cut_list}
use Rattle.asking.specs.declared.Level.{Level}
use Rattle.asking.specs.Asked.{asked_of, reply_at, Fit}
use Rattle.asking.proofs.Fronts.{front_zero, zero_front, marks_front}
use Rattle.asking.proofs.Levels.{marks_for, level_sound, reply_within, marks_within, play_within, right_within, fits_right}
use Rattle.asking.proofs.ask_level.Goals as goal

-- how many variables the part of the play has that is handed on
part : (l : Level) (gs : List Gate) (play : List Value) → Fit l gs play → length (take (l.below + l.free - l.below) (drop l.below play)) ≡ l.free
part l gs play fit = length-take-le (l.below + l.free - l.below) (drop l.below play) (omega (arith, length-drop l.below play, fit.inside, fit.long)) ∙ omega arith

-- the query that is put is the level's
put_is : (l : Level) (gs : List Gate) (play forced : List Value) (n : ℕ) → forced ≡ cut_list (1 + l.variables) (pairs gs) l.root.code play → n ≡ l.free →
    (record { variables = l.variables; gates = pairs gs; root = l.root.code; start = 1 + l.below; forced = forced; free = n }) ≡ asked_of l gs play
put_is l gs play forced n e f = ap₂ (λ (xs : List Value) (k : ℕ). record { variables = l.variables; gates = pairs gs; root = l.root.code; start = 1 + l.below; forced = xs; free = k }) e f

sound : (l : Level) (gs : List Gate) (play : List Value) → Fit l gs play → Sound (asked_of l gs play)
sound l gs play fit =
    level_sound l.variables (pairs gs) l.root.code play l.below l.free fit.few_variables (omega (arith, length-map gs pair, fit.few_gates)) fit.ascending
    (omega (arith, length-map gs pair, fit.rooted)) fit.inside fit.few_free fit.unset

pub force_cut-requires-clause-forced : goal.force_cut-requires-clause-forced
force_cut-requires-clause-forced g c = front_zero Unknown _ _ c.args.forced.now c.requires.forced (omega arith)

pub force_cut-requires-clause-marks : goal.force_cut-requires-clause-marks
force_cut-requires-clause-marks g c = front_zero false _ _ c.args.marks.now c.requires.marks (omega arith)

pub query-reply-requires-clause-sound : goal.query-reply-requires-clause-sound
query-reply-requires-clause-sound g c =
    let l = c.args.level in
    let gs = c.args.gates.now in
    let play = c.args.play.now in
    subst Sound (sym (put_is l gs play c.force_cut.new.forced _ c.force_cut.ensures.forced (part l gs play c.requires.fit))) (sound l gs play c.requires.fit)

pub query-reply-requires-clause-unmarked : goal.query-reply-requires-clause-unmarked
query-reply-requires-clause-unmarked g c =
    let n = 1 + c.args.level.variables + length c.args.gates.now in
    let k = c.nodes-nodes.result in
    let wide : length c.force_cut.new.forced ≡ n = c.force_cut.auto.forced ∙ length-take-le k c.args.forced.now (omega (arith, c.requires.forced.long)) ∙ omega arith in
    c.force_cut.ensures.marks ∙ front_zero false n k c.args.marks.now c.requires.marks (omega arith) ∙ ap (λ j. replicate j false) (sym wide)

pub returns : goal.returns
returns g c =
    let l = c.args.level in
    let gs = c.args.gates.now in
    let play = c.args.play.now in
    let m = g.S.Searcher.meaning c.args.searcher.now in
    let fit = c.requires.fit in
    let q = asked_of l gs play in
    let a : Answer = m q in
    let r = reply_at m l gs play in
    let s = sound l gs play fit in
    let keeps = g.met.S.Searcher.keeps c.args.searcher.now in
    let n = 1 + l.variables + length gs in
    let k = c.nodes-nodes.result in
    let f = part l gs play fit in
    let e = put_is l gs play c.force_cut.new.forced _ c.force_cut.ensures.forced f in
    let wide : length c.force_cut.new.forced ≡ n = c.force_cut.auto.forced ∙ length-take-le k c.args.forced.now (omega (arith, c.requires.forced.long)) ∙ omega arith in
    let long : length c.force_cut.new.values ≡ n = c.force_cut.auto.values ∙ length-take-le k c.args.values.now (omega (arith, c.requires.values.long)) ∙ omega arith in
    record {
      same = c.query-reply.ensures.same;
      right = right_within l.allowance a q (keeps.right q s) (keeps.some q s) (keeps.bounded q s);
      reply = c.query-reply.ensures.reply ∙ ap (λ (x : Query). reply_of (m x) l.allowance) e ∙ reply_within l.allowance a;
      play = ap (λ (xs : List Value). put_mid l.below (l.below + l.free - l.below) play xs) (c.query-reply.ensures.range ∙ ap₂ (λ (x : Query) (j : ℕ). range_after (m x) l.allowance j) e f)
          ∙ play_within l.allowance a l.below l.free (l.below + l.free - l.below) play (omega arith) fit.unset (fits_right q a (keeps.right q s));
      marks = marks_front r k c.args.marks.now c.query-reply.new.marks
          (c.query-reply.ensures.marks ∙ ap₂ (λ (x : Query) (j : ℕ). marks_after (m x) l.allowance j) e wide ∙ marks_within l.allowance a n
          ∙ ap (marks_for r) (sym (front_zero false n k c.args.marks.now c.requires.marks (omega arith))))
          (c.query-reply.auto.marks ∙ c.force_cut.auto.marks ∙ length-take-le k c.args.marks.now (omega (arith, c.requires.marks.long)));
      values = zero_front Unknown n k c.args.values.now c.fill.new.self c.requires.values (omega arith) (c.fill.ensures.after (λ y h. h) ∙ ap (λ j. replicate j Unknown) long);
      forced = zero_front Unknown n k c.args.forced.now c.fill-2.new.self c.requires.forced (omega arith)
          (c.fill-2.ensures.after (λ y h. h) ∙ ap (λ j. replicate j Unknown) (c.query-reply.auto.forced ∙ wide));
    }
