use Rattle.std.proofs.Common.{false, ◌&&◌, length, get_or, arith}
use Rattle.std.proofs.lemmas.List.FromFn.{fill_by_all}
use Rattle.valuation.specs.Circuit.{reads}
use Rattle.search.specs.Answers.{is_known}
use Rattle.counter.proofs.keep_forced.Goals as goal

pub returns : goal.returns
returns c =
    fill_by_all (λ n. get_or c.args.marks.now n false && is_known (reads c.args.forced.now n)) c.loop-node.marks (length c.args.forced.now) false (omega arith)
    (λ k h. c.loop-node.invariant.0 k (omega arith))
