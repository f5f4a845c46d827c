use Rattle.std.proofs.Common.{length}
use Rattle.std.proofs.lemmas.Result.{MatchResult-weaker, err_from_is_err_and}
use Rattle.copying.proofs.Settling.{copies_stopped, joins_stopped, root_stopped, root_made}
use Rattle.copying.proofs.making.make_gates.Goals as goal

pub returns-in_err-make_copies : goal.returns-in_err-make_copies
returns-in_err-make_copies c =
    let p = err_from_is_err_and c.from_residual.result c.from_residual.ensures.1 in
    rw p.1 (copies_stopped c.args.making.now c.args.lost c.args.copies.now c.make_copies.new.making c.in_err-make_copies.ensures)

pub returns-in_err-joined : goal.returns-in_err-joined
returns-in_err-joined c =
    let p = err_from_is_err_and c.from_residual-in_err-joined.result c.from_residual-in_err-joined.ensures.1 in
    rw p.1 (joins_stopped c.args.making.now c.args.lost c.args.copies.now c.make_copies.new.making c.make_copies.new.copies c.requires.start c.in_ok-make_copies.ensures
    (length c.make_copies.new.copies) c.make_copies.auto.copies c.join_core.new.making c.in_err-joined.ensures)

pub returns : goal.returns
returns c =
    let m = c.args.making.now in
    let cs = c.args.copies.now in
    let m₁ = c.make_copies.new.making in
    let cs' = c.make_copies.new.copies in
    let m₂ = c.join_core.new.making in
    MatchResult-weaker c.add.result c.add.ensures
    (λ l p. root_made m c.args.lost cs m₁ cs' c.requires.start c.in_ok-make_copies.ensures (length cs') c.make_copies.auto.copies m₂ c.in_ok-joined.joined c.in_ok-joined.ensures
    c.add.new.self l _ c.root_gate.ensures p.0 p.1)
    (λ _ s. root_stopped m c.args.lost cs m₁ cs' c.requires.start c.in_ok-make_copies.ensures (length cs') c.make_copies.auto.copies m₂ c.in_ok-joined.joined c.in_ok-joined.ensures
    c.add.new.self s)
