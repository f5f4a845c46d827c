use Rattle.std.proofs.Common.{◌+◌, length, true, false, [], ◌∷◌, get_or, set, ap, ◌∙◌, ap₂, arith}
use Rattle.std.proofs.lemmas.List.{get_or-take, length-take-le}
use Rattle.valuation.specs.Circuit.{reads}
use Rattle.copies.proofs.Passes.{core_more}
use Rattle.copying.specs.Places.{shown}
use Rattle.copying.proofs.places.need_core.Goals as goal
use Rattle.copying.proofs.places.need_core.Goals.{in-Some, in_default}

pub loop-node-preserved : goal.loop-node-preserved
loop-node-preserved c =
    let long = length-take-le (length c.args.copies.now) c.args.core.now c.requires.core in
    let cut = get_or-take (length c.args.copies.now) c.args.core.now c.loop-node.node false (omega arith) in
    elim c.match-core_literal.branch [
      | in-Some w ↦ ap shown w.copies-is ∙ w.need.ensures ∙ ap₂ (λ ms l. set ms l true) c.loop-node.invariant w.flipped.ensures
          ∙ core_more (λ n. get_or c.args.core.now n false) (reads c.args.values.now) c.loop-node.node (c.loop-node.node + 1) (w.in-Some.literal.code ∷ []) (shown c.args.copies.now) (omega arith) (rw cut at w.in-Some.ensures)
      | in_default w ↦ ap shown w.copies-is ∙ c.loop-node.invariant
          ∙ core_more (λ n. get_or c.args.core.now n false) (reads c.args.values.now) c.loop-node.node (c.loop-node.node + 1) [] (shown c.args.copies.now) (omega arith) (rw cut at w.in_default.ensures)
    ]
