use Rattle.std.proofs.Common.{◌≡◌, ℕ, ◌+◌, ◌-◌, ◌≤◌, Bool, false, List, length, take, drop, replicate, vec_items, Option, sym, refl, ap, ◌∙◌, subst, ap₂, arith}
use Rattle.std.proofs.lemmas.List.{with_items_is, length-take-le, length-map, take-map}
use Rattle.valuation.specs.declared.Value.{Value}
use Rattle.valuation.specs.declared.Value.TheVariants.{Unknown}
use Rattle.valuation.specs.Circuit.{Ascending}
use Rattle.circuit.specs.declared.Gate.{Gate}
use Rattle.circuit.specs.Gates.{pair, pairs}
use Rattle.search.specs.Queries.{Query}
use Rattle.search.specs.declared.Reply.{Reply}
use Rattle.search.specs.Answers.{Answer}
use Rattle.runs.specs.State.{Sheet}
use Rattle.asking.specs.declared.Level.{Level}
use Rattle.asking.specs.Asked.{asked_of, reply_at, reply_for, play_for, marks_over, Fit}
use Rattle.runs.specs.Calls.{RightReply}
use Rattle.bench.specs.declared.GateTable.{GateTable}
use Rattle.bench.specs.declared.Lists.{Lists}
use Rattle.bench.specs.Model.{sheet_of, sheets_of}
use Rattle.bench.specs.Turning.{move_or_zero, no_move_or_zero, Ready, asked_over, reply_over}
use Rattle.bench.proofs.Lent.{clear_part}
use Rattle.bench.proofs.Replied.{table, move_le, no_move_le, play_reply, marks_reply, played_by, marked_with, sheets_by}
use Rattle.bench.proofs.turning.ask_tables.Goals as goal

-- the play and the marks after asking, and how much of them is in use
record PlayAfter (below : ℕ) (r : Option Answer) (size set : ℕ) (ys : List Value) (before : Sheet Value) : Type 0 where
  room : set ≤ size
  few : set ≤ 128
  rest : drop set ys ≡ replicate (size - set) Unknown
  sheet : table before.bound set ys ≡ play_reply below r before

record MarksAfter (r : Option Answer) (size marked : ℕ) (ys : List Bool) (before : Sheet Bool) : Type 0 where
  room : marked ≤ size
  few : marked ≤ 8129
  rest : drop marked ys ≡ replicate (size - marked) false
  sheet : table before.bound marked ys ≡ marks_reply r before

-- what a level that may ask gives over the tables as they were
module _ (m : Query → Answer) (l : Level) (g : GateTable) (t : Lists) (ready : Ready l g t) where
  abbrev gs : List Gate
  gs = take g.table.used (vec_items g.table.entries)

  abbrev r : Option Answer
  r = reply_over m l g t

  count : length gs ≡ g.table.used
  count = length-take-le g.table.used (vec_items g.table.entries) (omega (arith, g.table.room, g.table.entries.ok.0))

  fit : Fit l gs (vec_items t.play.entries)
  fit =
      record {
        few_variables = ready.variables;
        few_gates = omega (arith, count, g.table.few);
        ascending = subst (λ (n : ℕ). Ascending n (pairs gs)) ready.first (subst (Ascending g.first) (take-map pair g.table.used (vec_items g.table.entries)) g.ascending);
        rooted = omega (arith, count, ready.rooted, ready.first);
        inside = ready.inside;
        few_free = ready.few_free;
        long = omega (arith, t.play.entries.ok.0, ready.play);
        unset = clear_part Unknown (vec_items t.play.entries) (vec_items t.play.entries) t.play.used l.below l.free t.play.entries.len t.play.rest refl ready.set (omega (arith, ready.inside, ready.play));
      }

  -- what asking leaves, where the lists us, xs and ms were lent
  module _ (us : List Gate) (xs : List Value) (u : us ≡ gs) (x : xs ≡ vec_items t.play.entries) (right : RightReply (asked_of l us xs) l.allowance (reply_at m l us xs)) (reply : Reply)
      (replied : reply ≡ reply_for (reply_at m l us xs)) where
    right_is : RightReply (asked_over l g t) l.allowance r
    right_is = rw (u, x) at right

    reply_is : reply ≡ reply_for r
    reply_is = rw (u, x) at replied

    play_after : (ys : List Value) (set : ℕ) → set ≡ l.below + move_or_zero reply l.free → ys ≡ play_for l.below (reply_at m l us xs) xs → PlayAfter l.below r t.play.entries.len set ys (sheet_of t.play)
    play_after ys set sets plays =
        let n = t.play.entries.ok.0 in
        let long : length (vec_items t.play.entries) ≡ t.play.entries.len = omega (arith, n) in
        let k = played_by (asked_over l g t) l.allowance l.below l.free t.play.used t.play.bound (vec_items t.play.entries) refl ready.set (omega (arith, n, ready.inside, ready.play))
        (t.play.rest ∙ ap (λ j. replicate (j - t.play.used) Unknown) (sym long)) r right_is in
        let e : set ≡ l.below + move_or_zero (reply_for r) l.free = sets ∙ ap (λ a. l.below + move_or_zero a l.free) reply_is in
        let f : ys ≡ play_for l.below r (vec_items t.play.entries) = rw (u, x) at plays in
        record {
          room = omega (arith, k.room, e, long);
          few = omega (arith, e, move_le (reply_for r) l.free, ready.inside, ready.variables);
          rest = ap₂ drop e f ∙ k.unset ∙ ap₂ (λ j i. replicate (j - i) Unknown) long (sym e);
          sheet = ap₂ (λ (j : ℕ) (vs : List Value). table t.play.bound j vs) e f ∙ k.sheet;
        }

    marks_after : (ms ys : List Bool) (marked : ℕ) → ms ≡ vec_items t.marks.entries → marked ≡ no_move_or_zero reply (g.first + g.table.used) → ys ≡ marks_over (reply_at m l us xs) ms →
        MarksAfter r t.marks.entries.len marked ys (sheet_of t.marks)
    marks_after ms ys marked y sets marks =
        let n = t.marks.entries.ok.0 in
        let size = g.first + g.table.used in
        let long : length (vec_items t.marks.entries) ≡ t.marks.entries.len = omega (arith, n) in
        let k = marked_with (asked_over l g t) l.allowance size t.marks.used t.marks.bound (vec_items t.marks.entries) (omega (arith, count, length-map gs pair, ready.first)) ready.shown
        (omega (arith, n, ready.marks)) (t.marks.rest ∙ ap (λ j. replicate (j - t.marks.used) false) (sym long)) r right_is in
        let e : marked ≡ no_move_or_zero (reply_for r) size = sets ∙ ap (λ a. no_move_or_zero a size) reply_is in
        let f : ys ≡ marks_over r (vec_items t.marks.entries) = rw (u, x, y) at marks in
        record {
          room = omega (arith, k.room, e, long);
          few = omega (arith, e, no_move_le (reply_for r) size, g.low, g.table.few);
          rest = ap₂ drop e f ∙ k.clear ∙ ap₂ (λ j i. replicate (j - i) false) long (sym e);
          sheet = ap₂ (λ (j : ℕ) (vs : List Bool). table t.marks.bound j vs) e f ∙ k.sheet;
        }

pub ask_level-reply-requires-clause-fit : goal.ask_level-reply-requires-clause-fit
ask_level-reply-requires-clause-fit g c = rw (c.gates.ensures, c.deref_mut.ensures.value) (fit (g.S.Searcher.meaning c.args.searcher.now) c.args.level c.args.gates.now c.args.lists.now c.requires)

pub invariant_of-play : goal.invariant_of-play
invariant_of-play g c =
    let a = c.ask_level-reply in
    let p = c.args.lists.now.play in
    let k = play_after (g.S.Searcher.meaning c.args.searcher.now) c.args.level c.args.gates.now c.args.lists.now c.requires _ _ c.gates.ensures c.deref_mut.ensures.value a.ensures.right a.result a.ensures.reply
    a.new.play c.in_use-set.result.0 c.in_use-set.ensures.set a.ensures.play in
    record { room = k.room; few = k.few; rest = ap (drop c.in_use-set.result.0) (with_items_is p.entries a.new.play (a.auto.play ∙ c.deref_mut.ensures.len)) ∙ k.rest }

pub invariant_of-marks : goal.invariant_of-marks
invariant_of-marks g c =
    let a = c.ask_level-reply in
    let w = c.args.lists.now.marks in
    let k = marks_after (g.S.Searcher.meaning c.args.searcher.now) c.args.level c.args.gates.now c.args.lists.now c.requires _ _ c.gates.ensures c.deref_mut.ensures.value a.ensures.right a.result a.ensures.reply
    _ a.new.marks c.in_use-set.result.1 c.deref_mut-4.ensures.value c.in_use-set.ensures.marked a.ensures.marks in
    record { room = k.room; few = k.few; rest = ap (drop c.in_use-set.result.1) (with_items_is w.entries a.new.marks (a.auto.marks ∙ c.deref_mut-4.ensures.len)) ∙ k.rest }

pub returns-clause-right : goal.returns-clause-right
returns-clause-right g c =
    let a = c.ask_level-reply in
    right_is (g.S.Searcher.meaning c.args.searcher.now) c.args.level c.args.gates.now c.args.lists.now c.requires _ _ c.gates.ensures c.deref_mut.ensures.value a.ensures.right a.result a.ensures.reply

pub returns-clause-reply : goal.returns-clause-reply
returns-clause-reply g c =
    let a = c.ask_level-reply in
    reply_is (g.S.Searcher.meaning c.args.searcher.now) c.args.level c.args.gates.now c.args.lists.now c.requires _ _ c.gates.ensures c.deref_mut.ensures.value a.ensures.right a.result a.ensures.reply

pub returns-clause-lists : goal.returns-clause-lists
returns-clause-lists g c =
    let a = c.ask_level-reply in
    let l = c.args.level in
    let t = c.args.lists.now in
    let mean = g.S.Searcher.meaning c.args.searcher.now in
    let k = play_after mean l c.args.gates.now t c.requires _ _ c.gates.ensures c.deref_mut.ensures.value a.ensures.right a.result a.ensures.reply a.new.play c.in_use-set.result.0 c.in_use-set.ensures.set a.ensures.play in
    let h = marks_after mean l c.args.gates.now t c.requires _ _ c.gates.ensures c.deref_mut.ensures.value a.ensures.right a.result a.ensures.reply
    _ a.new.marks c.in_use-set.result.1 c.deref_mut-4.ensures.value c.in_use-set.ensures.marked a.ensures.marks in
    sheets_by l.below (reply_over mean l c.args.gates.now t) (sheets_of t) _ _ _ _
    (ap (λ (vs : List Value). table t.play.bound c.in_use-set.result.0 vs) (with_items_is t.play.entries a.new.play (a.auto.play ∙ c.deref_mut.ensures.len)) ∙ k.sheet)
    (ap (λ (vs : List Value). table t.values.bound t.values.used vs) (with_items_is t.values.entries a.new.values (a.auto.values ∙ c.deref_mut-2.ensures.len) ∙ a.ensures.values ∙ c.deref_mut-2.ensures.value))
    (ap (λ (vs : List Value). table t.forced.bound t.forced.used vs) (with_items_is t.forced.entries a.new.forced (a.auto.forced ∙ c.deref_mut-3.ensures.len) ∙ a.ensures.forced ∙ c.deref_mut-3.ensures.value))
    (ap (λ (vs : List Bool). table t.marks.bound c.in_use-set.result.1 vs) (with_items_is t.marks.entries a.new.marks (a.auto.marks ∙ c.deref_mut-4.ensures.len)) ∙ h.sheet)
