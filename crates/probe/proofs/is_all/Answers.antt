use Rattle.std.proofs.Common.{◌≡◌, rules, arith}
use Rattle.std.proofs.lemmas.Iterator.{cases_from_all, YieldsList-from_slice}
use Rattle.std.proofs.lemmas.Bool.{MatchBool-at_true}
use Rattle.probe.proofs.Same.{all_same}
use Rattle.probe.proofs.is_all.Goals as goal

pub returns : goal.returns
returns g c = λ yes'.
    let value = c.args.value in
    let all = MatchBool-at_true _ _ yes' (cases_from_all _ _ _ (λ x. x ≡ value) (λ x. Unit {0}) c.all.ensures.ran (YieldsList-from_slice c.args.list.now cc) (λ x q k. (search rules, c.requires x.now (search rules))) (λ x q k. tt)) in
    all_same value c.args.list.now (λ k lt. all k value (omega arith) lt)
