use Rattle.std.proofs.Common.{◌≡◌, ◌+◌, ◌∙◌, List, [], ◌∷◌, take, sum_by, refl, ap, rules, tests, arith}
use Rattle.std.proofs.lemmas.Iterator.{YieldsList-from_slice, YieldsList-from_take, YieldsList-from_map}
use Rattle.std.proofs.lemmas.Iterator.Consumers.{YieldsList-at, sum_by_from_yields_List, fits_by_from_yields_list}
use Rattle.std.proofs.lemmas.List.Sums.{sum_by-cons}
use Rattle.question.specs.declared.prefix.Block.{Block}
use Rattle.question.specs.Blocks.{total}
use Rattle.question.proofs.Totals.{total_take_le}
use Rattle.asking.proofs.before.Goals as goal

-- blocks have as many variables as their sizes add up to
sizes : (bs : List Block) → sum_by (λ (b : Block). b.size) bs ≡ total bs
unfolding total
sizes [] = refl
sizes (b ∷ bs) = sum_by-cons (λ (b : Block). b.size) b bs ∙ ap (λ n. b.size + n) (sizes bs)

pub sum-requires-clause-fits : goal.sum-requires-clause-fits
sum-requires-clause-fits c =
    let bs = c.args.blocks.now in
    fits_by_from_yields_list (λ (b : Block). b.size) (take c.args.depth bs) _ _
    (YieldsList-from_map _ (λ (b : Block). b.size) (YieldsList-at c.map.ensures.source (YieldsList-from_take c.args.depth (YieldsList-at c.take.ensures.source (YieldsList-from_slice bs cc)) (cc))) c.map.ensures.closure (λ x r q k. search (rules, tests)))
    (omega (arith, sizes (take c.args.depth bs), total_take_le bs c.args.depth, c.requires))

pub returns : goal.returns
returns c =
    let bs = c.args.blocks.now in
    sum_by_from_yields_List (λ (b : Block). b.size) (take c.args.depth bs) _ _ c.sum.ensures.ran
    (YieldsList-from_map _ (λ (b : Block). b.size) (YieldsList-at c.map.ensures.source (YieldsList-from_take c.args.depth (YieldsList-at c.take.ensures.source (YieldsList-from_slice bs cc)) (cc))) c.map.ensures.closure (λ x r q k. search (rules, tests)))
    ∙ sizes (take c.args.depth bs)
