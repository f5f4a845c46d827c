use Rattle.std.proofs.Common.{◌≡◌, suc, ◌+◌, ◌*◌, ◌/◌, ◌<◌, ◌≤◌, length, get_or, sym, refl, ap, ◌∙◌, subst, arith}
use Rattle.std.proofs.lemmas.Result.{err_from_is_err_and}
use Rattle.copying.specs.Gates.{part_in, GateCopied}
use Rattle.copying.specs.Places.{none, held_in, shown}
use Rattle.copying.proofs.Entries.{grown_none}
use Rattle.copying.proofs.Passed.{passed_none, passed_all, gate_stopped, going_at, going_skip, wanted_there, going_input, going_gate}
use Rattle.copying.proofs.making.make_copies.Goals as goal
use Rattle.copying.proofs.making.make_copies.Goals.{then-is_some, else-is_some, then-node-making, else-node-making+in_ok-copy}

pub loop-number-init : goal.loop-number-init
loop-number-init c = (grown_none c.args.making.now (omega arith), passed_none _ _ _ _ c.args.copies.now refl)

pub returns-in_err-copy : goal.returns-in_err-copy
returns-in_err-copy c =
    let m₀ = c.args.making.now in
    let part = part_in c.args.lost.bounds c.args.lost.play.now in
    let ns = shown c.args.copies.now in
    let cs = c.loop-number.copies in
    let l = c.place_at-place.result.code in
    let now_at = going_at m₀ part ns c.loop-number.number l _ _ _ _ (sym c.place_at-place.ensures) refl refl c.loop-number.invariant in
    let G = now_at.0 in
    let o = c.at.ensures ∙ ap (λ n. held_in (get_or cs n none) l) c.node.ensures in
    let deep : m₀.first ≤ l / 2 = omega (arith, G.first_is) in
    let within : l / 2 < m₀.first + m₀.used = omega arith in
    let p = err_from_is_err_and c.from_residual.result c.from_residual.ensures.1 in
    rw p.1 (gate_stopped m₀ c.loop-number.making part ns l cs c.requires.start (omega (arith, m₀.room)) c.requires.ascending deep within G now_at.1 c.copy_gate.new.making (2 * length c.args.copies.now) (wanted_there m₀ part ns l c.loop-number.making cs c.at.result c.is_some.result (omega arith) o c.is_some.ensures c.if-is_some.true now_at) (omega arith) c.in_err-copy.ensures)

pub loop-number-preserved : goal.loop-number-preserved
loop-number-preserved c =
    let m₀ = c.args.making.now in
    let part = part_in c.args.lost.bounds c.args.lost.play.now in
    let ns = shown c.args.copies.now in
    let cs = c.loop-number.copies in
    let m = c.loop-number.making in
    let l = c.place_at-place.result.code in
    let now_at = going_at m₀ part ns c.loop-number.number l _ _ _ _ (sym c.place_at-place.ensures) refl refl c.loop-number.invariant in
    let G = now_at.0 in
    let o = c.at.ensures ∙ ap (λ n. held_in (get_or cs n none) l) c.node.ensures in
    let next : suc l ≡ c.loop-number.number + 1 = omega arith in
    elim c.if-is_some.branch [
      | then-is_some w ↦ elim w.if-node-making.branch [
        | then-node-making w' ↦ going_at m₀ part ns (suc l) _ _ _ _ _ next (sym (w.making-is ∙ w'.making-is)) (sym w.copies-is)
            (going_input m₀ part ns l m cs w.put_copy.new.copies c.at.result c.is_some.result w.if-node-making.copy (omega arith) o c.is_some.ensures w.if-is_some.true now_at
            w.put_copy.ensures w.put_copy.auto.copies (omega (arith, G.first_is, w'.if-node-making.true, w.node-then-is_some.ensures)) (ap (λ x. x.code) w'.copy-is ∙ w'.input_copy-copy.ensures))
        | else-node-making+in_ok-copy w' ↦ going_at m₀ part ns (suc l) _ _ _ _ _ next (sym (w.making-is ∙ w'.making-is)) (sym w.copies-is)
            (going_gate m₀ part ns l m cs w.put_copy.new.copies c.at.result c.is_some.result w.if-node-making.copy (omega arith) o c.is_some.ensures w.if-is_some.true now_at
            w.put_copy.ensures w.put_copy.auto.copies w'.copy_gate.new.making c.requires.start (omega (arith, m₀.room)) c.requires.ascending (omega (arith, G.first_is, w'.if-node-making.false, w.node-then-is_some.ensures)) (omega arith)
            (subst (λ x. GateCopied m w'.copy_gate.new.making cs l x) (sym w'.copy-is) w'.in_ok-copy.ensures))
      ]
      | else-is_some w ↦ going_at m₀ part ns (suc l) _ _ _ _ _ next (sym w.making-is) (sym w.copies-is)
          (going_skip m₀ part ns l m cs c.at.result c.is_some.result (omega arith) o c.is_some.ensures w.if-is_some.false now_at)
    ]

pub returns : goal.returns
returns c =
    let e : c.loop-number.number ≡ 2 * length c.args.copies.now = omega arith in
    let I = going_at c.args.making.now (part_in c.args.lost.bounds c.args.lost.play.now) (shown c.args.copies.now) c.loop-number.number _ _ _ _ _ e refl refl c.loop-number.invariant in
    record { grown = I.0; copies = passed_all _ _ _ _ c.loop-number.copies (2 * length c.args.copies.now) (omega arith) I.1 }
