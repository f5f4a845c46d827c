use Rattle.std.proofs.Common.{◌≡◌, replicate, ◌∙◌, ap₂, arith, rules}
use Rattle.std.proofs.lemmas.List.{length-take, length-drop}
use Rattle.circuit.specs.Gates.{empty}
use Rattle.copying.proofs.Entries.{pairs_freed}
use Rattle.copying.proofs.guard.wipe.Goals as goal

pub returns : goal.returns
returns c =
    let f : c.fill.new.self ≡ replicate c.args.count empty = c.fill.ensures.after (λ y h. search rules) ∙ ap₂ replicate (simp (length-take, length-drop) (omega arith)) c.free.ensures in
    pairs_freed c.args.gates.now c.args.from _ c.args.count c.fill.new.self (omega arith) f
