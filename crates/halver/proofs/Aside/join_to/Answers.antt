use Rattle.std.proofs.Common.{◌≡◌, ◌-◌, false, ◌||◌, length, get_or, take, set, ap, ◌∙◌, ap₂, arith}
use Rattle.std.proofs.lemmas.List.FromFn.{fill_by_all}
use Rattle.halving.specs.Halving.{joined}
use Rattle.halver.proofs.Aside.join_to.Goals as goal

pub returns : goal.returns
returns c =
    let n = length c.args.marks.now in
    let core = take (n - 0) c.deref.result.now in
    ap (λ xs. set xs c.args.node false)
    (fill_by_all (λ k. get_or core k false || get_or c.args.marks.now k false) c.loop-n.marks n false (omega arith) (λ k h. c.loop-n.invariant.0 k (omega arith)))
    ∙ ap₂ (λ k xs. joined c.args.node (take k xs) c.args.marks.now) (let e : n - 0 ≡ n = omega arith in e) c.deref.ensures.value
