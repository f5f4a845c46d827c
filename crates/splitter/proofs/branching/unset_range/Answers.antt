use Rattle.std.proofs.Common.{◌+◌, drop, sym, ◌∙◌, arith}
use Rattle.std.proofs.lemmas.List.{length-take-le, map-id}
use Rattle.search.specs.Asking.{asked}
use Rattle.splitting.proofs.Standing.{start_stands}
use Rattle.splitter.proofs.branching.unset_range.Goals as goal

pub returns : goal.returns
returns c = λ free.
    let first = 1 + c.args.ask.variables in
    start_stands (asked c.args.ask c.args.forced.now free) c.set_inputs.new.inputs (drop first c.args.values.now) _ (length-take-le first c.args.values.now (omega arith))
    (sym (map-id c.set_inputs.new.inputs) ∙ c.set_inputs.ensures 0 (omega arith))
