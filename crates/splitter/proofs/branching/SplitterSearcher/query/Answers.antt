use Rattle.std.proofs.Common.{◌≡◌, ◌-◌, [], length, sym, ap, ◌∙◌, subst}
use Rattle.std.specs.Vec.{with_items}
use Rattle.std.proofs.lemmas.List.{with_items_is}
use Rattle.search.specs.Queries.{Query}
use Rattle.search.specs.Asking.{asked}
use Rattle.search.specs.Answers.{core_of, reply_of}
use Rattle.splitting.specs.Tree.{join, splits, tree}
use Rattle.splitting.specs.Steps.{Stands, settings_at}
use Rattle.splitting.proofs.Standing.{start_settings}
use Rattle.splitting.proofs.Replies.{no_move_says, marks_no_move, join_none}
use Rattle.splitting.proofs.Trees.{length_lost}
use Rattle.splitter.proofs.branching.SplitterSearcher.query.Goals as goal

pub branch-reply-requires-clause-stands : goal.branch-reply-requires-clause-stands
branch-reply-requires-clause-stands c =
    let free = length c.args.range.now in
    let q : Query = asked c.args.ask c.args.forced.now free in
    let values = c.unset_range.new.values in
    subst (λ v. Stands q (settings_at c.args.ask.start (free - free) v) v) (sym (with_items_is c.args.self.now.values values (c.unset_range.auto.values ∙ c.deref_mut.ensures.len)))
    (subst (λ s. Stands q s values) (sym (start_settings q values)) (c.unset_range.ensures free))

pub returns-in_NoMove-reply-clause-marks : goal.returns-in_NoMove-reply-clause-marks
returns-in_NoMove-reply-clause-marks c =
    let free = length c.args.range.now in
    let q : Query = asked c.args.ask c.args.forced.now free in
    let size = length c.args.forced.now in
    let n = c.args.ask.allowance in
    let m = c.in_NoMove-reply.field-0 in
    let start = start_settings q (with_items c.args.self.now.values c.unset_range.new.values).items in
    let e = c.branch-reply.ensures in
    let no_move : reply_of (splits q) n ≡ _ = sym (e.reply ∙ ap (λ s. reply_of (tree q free s) n) start) ∙ c.in_NoMove-reply.is in
    let l = no_move_says (splits q) n m no_move in
    let long : length (core_of (splits q).outcome size) ≡ size = ap (λ o. length (core_of o size)) l.loss ∙ length_lost q free [] l.core l.loss ∙ sym c.requires.sound.covered in
    e.marks m c.in_NoMove-reply.is ∙ ap (λ s. join c.args.marks.now (core_of (tree q free s).outcome size)) start
    ∙ ap (λ xs. join xs (core_of (splits q).outcome size)) c.requires.unmarked ∙ join_none (core_of (splits q).outcome size) size long ∙ sym (marks_no_move (splits q) n m size no_move)
