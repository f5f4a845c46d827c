use Rattle.std.proofs.Common.{map, length, sym, refl, ap, ◌∙◌, arith}
use Rattle.valuation.specs.Three.{of_bool}
use Rattle.search.specs.declared.Reply.TheVariants.{NoMove}
use Rattle.search.specs.Queries.{Query}
use Rattle.search.specs.Asking.{asked}
use Rattle.counting.specs.Counting.{setting}
use Rattle.counting.proofs.Groups.{tried_more, counts_spent, counts_moves, counts_loses}
use Rattle.counter.proofs.CounterSearcher.query.Goals as goal

pub returns-then-group-ask : goal.returns-then-group-ask
returns-then-group-ask c =
    let q : Query = asked c.args.ask c.args.forced.now (length c.args.range.now) in
    let s = counts_spent q c.args.ask.allowance (length q.forced) c.loop-group.group c.loop-group.invariant.1 c.if-group-ask.true (omega arith) in
    record { same = refl; put_back = refl; reply = s.reply; range = c.loop-group.invariant.2 ∙ c.requires.unset ∙ s.set; marks = c.requires.unmarked ∙ s.marked }

pub returns-in-Some : goal.returns-in-Some
returns-in-Some c =
    let q : Query = asked c.args.ask c.args.forced.now (length c.args.range.now) in
    let s = counts_moves q c.args.ask.allowance (length q.forced) c.loop-group.group c.loop-group.invariant.1 c.in-Some.case (omega arith) (omega arith) (sym c.in-Some.ensures) in
    record {
      same = refl;
      put_back = refl;
      reply = s.reply;
      range = c.write_setting.ensures ∙ ap (λ n. map of_bool (setting n c.in-Some.case)) c.loop-group.auto.range ∙ s.set;
      marks = c.requires.unmarked ∙ s.marked;
    }

pub loop-group-preserved : goal.loop-group-preserved
loop-group-preserved c =
    let q : Query = asked c.args.ask c.args.forced.now (length c.args.range.now) in
    (omega arith, tried_more q c.loop-group.group c.loop-group.invariant.1 (sym c.in_default.ensures), c.loop-group.invariant.2, omega arith)

pub returns : goal.returns
returns c =
    let q : Query = asked c.args.ask c.args.forced.now (length c.args.range.now) in
    let s = counts_loses q c.args.ask.allowance (length q.forced) c.loop-group.group c.loop-group.invariant.1 c.loop-group.invariant.0 (omega arith) in
    record { same = refl; put_back = refl; reply = ap NoMove c.group_count-groups.ensures ∙ s.reply; range = c.loop-group.invariant.2 ∙ c.requires.unset ∙ s.set; marks = c.mark_core.ensures ∙ s.marked }
