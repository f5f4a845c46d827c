use Rattle.std.proofs.Common.{◌≡◌, ℕ, ◌+◌, Bool, false, [], ◌∷◌, length, get_or, sym, subst, subst₂, arith}
use Rattle.std.proofs.lemmas.List.{get_or-take, length-take-le}
use Rattle.std.proofs.lemmas.Result.{err_from_is_err_and}
use Rattle.valuation.specs.Circuit.{reads}
use Rattle.copies.specs.Make.{core_of}
use Rattle.copies.proofs.Passes.{core_node, core_push, core_shorter}
use Rattle.copying.proofs.Joining.{SoFar, copy_core, so_far_more, so_far_same, so_far_stopped, joined_or}
use Rattle.copying.proofs.making.join_core.Goals as goal
use Rattle.copying.proofs.making.join_core.Goals.{in-Some+in_ok-join_copy, in_default}

pub returns-in_err-join_copy : goal.returns-in_err-join_copy
returns-in_err-join_copy c =
    let marks : ℕ → Bool = λ n. get_or c.args.core.now n false in
    let values = reads c.args.values.now in
    let long = length-take-le (length c.args.copies.now) c.args.core.now c.requires.core in
    let is = rw (get_or-take (length c.args.copies.now) c.args.core.now c.loop-node.node false (omega arith)) at c.in-Some.ensures in
    let p = err_from_is_err_and c.from_residual.result c.from_residual.ensures.1 in
    rw p.1 (so_far_stopped c.args.making.now c.loop-node.making c.args.copies.now (core_of marks values c.loop-node.node) c.loop-node.joined c.loop-node.invariant
    c.join_copy.new.making (core_of marks values (length c.args.copies.now)) c.copy_of-copy.result
    (core_shorter marks values c.loop-node.node (length c.args.copies.now) c.in-Some.literal.code (omega arith) is) c.in_err-join_copy.ensures)

pub loop-node-preserved : goal.loop-node-preserved
loop-node-preserved c =
    let marks : ℕ → Bool = λ n. get_or c.args.core.now n false in
    let values = reads c.args.values.now in
    let core = core_of marks values c.loop-node.node in
    let long = length-take-le (length c.args.copies.now) c.args.core.now c.requires.core in
    let cut = get_or-take (length c.args.copies.now) c.args.core.now c.loop-node.node false (omega arith) in
    elim c.match-core_literal.branch [
      | in-Some+in_ok-join_copy w ↦ subst₂ (λ m e. SoFar c.args.making.now m c.args.copies.now (core_of marks values (c.loop-node.node + 1)) e) (sym w.making-is) (sym w.joined-is)
          (so_far_more c.args.making.now c.loop-node.making c.args.copies.now core c.loop-node.joined c.loop-node.invariant w.join_copy.new.making (core_of marks values (c.loop-node.node + 1))
          w.in-Some.literal.code w.copy_of-copy.result w.in_ok-join_copy.field-0
          (core_push marks values c.loop-node.node (c.loop-node.node + 1) (w.in-Some.literal.code ∷ []) (omega arith) (rw cut at w.in-Some.ensures))
          (copy_core c.args.copies.now w.in-Some.literal.code w.copy_of-copy.result.code w.flipped.result.code
          (omega (arith, core_node (marks c.loop-node.node) (values c.loop-node.node) c.loop-node.node w.in-Some.literal.code (rw cut at w.in-Some.ensures))) w.flipped.ensures w.copy_of-copy.ensures)
          w.in_ok-join_copy.ensures)
      | in_default w ↦ subst₂ (λ m e. SoFar c.args.making.now m c.args.copies.now (core_of marks values (c.loop-node.node + 1)) e) (sym w.making-is) (sym w.joined-is)
          (so_far_same c.args.making.now c.loop-node.making c.args.copies.now core c.loop-node.joined c.loop-node.invariant (core_of marks values (c.loop-node.node + 1))
          (core_push marks values c.loop-node.node (c.loop-node.node + 1) [] (omega arith) (rw cut at w.in_default.ensures)))
    ]

pub returns : goal.returns
returns c =
    let core = core_of (λ n. get_or c.args.core.now n false) (reads c.args.values.now) in
    let e : c.loop-node.node ≡ length c.args.copies.now = omega (arith, length-take-le (length c.args.copies.now) c.args.core.now c.requires.core) in
    joined_or c.args.making.now c.loop-node.making c.args.copies.now (core (length c.args.copies.now)) c.loop-node.joined
    (subst (λ n. SoFar c.args.making.now c.loop-node.making c.args.copies.now (core n) c.loop-node.joined) e c.loop-node.invariant) c.new.result c.unwrap_or.result c.new.ensures c.unwrap_or.ensures
