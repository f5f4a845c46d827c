use Rattle.std.proofs.Common.{◌≡◌, ◌-◌, ◌≤◌, ◌++◌, length, take, drop, replicate, sym, ap, ◌∙◌, subst, ap₂, arith}
use Rattle.std.proofs.lemmas.List.{with_items_is, drop_at, length-take-le, length-drop, length-append, length-replicate}
use Rattle.bench.proofs.Lent.{cleared}
use Rattle.bench.proofs.Table.cut.Goals as goal

pub invariant_of-self-clause-rest : goal.invariant_of-self-clause-rest
invariant_of-self-clause-rest g c =
    let t = c.args.self.now in
    let xs = c.deref_mut.result.now in
    let n = c.deref_mut.ensures.len in
    let from = c.args.from in
    let blank = g.T.Blank.blank in
    let low : from ≤ length xs = omega (arith, c.requires, t.room) in
    let part : length (take (t.used - from) (drop from xs)) ≡ t.used - from = length-take-le (t.used - from) (drop from xs) (omega (arith, length-drop from xs, t.room)) in
    let rest : drop t.used xs ≡ replicate (length xs - t.used) blank = ap (drop t.used) c.deref_mut.ensures.value ∙ t.rest ∙ ap (λ k. replicate (k - t.used) blank) (sym n) in
    let fill : c.fill.new.self ≡ replicate (t.used - from) blank = c.fill.ensures.after (λ y h. g.met.T.Blank.alike y (subst (λ x. g.T.Clone.is_clone x y) c.blank.ensures h) ∙ sym c.blank.ensures) ∙ ap₂ (λ k x. replicate k x) part c.blank.ensures in
    let e = cleared blank xs c.fill.new.self from t.used c.requires (omega (arith, t.room)) rest fill in
    let long : length (take from xs ++ replicate (length xs - from) blank) ≡ t.entries.len = omega (arith, length-append (take from xs) (replicate (length xs - from) blank), length-take-le from xs low, length-replicate (length xs - from) blank) in
    ap (drop from) (with_items_is t.entries _ (ap length e ∙ long) ∙ e) ∙ drop_at (take from xs) (replicate (length xs - from) blank) from (length-take-le from xs low) ∙ ap (λ k. replicate (k - from) blank) n
