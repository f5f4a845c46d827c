use Rattle.std.proofs.Common.{◌≡◌, ℕ, ◌+◌, List, length, get_or, ap, ◌∙◌, add-one, arith}
use Rattle.std.proofs.lemmas.List.{get_or_default}
use Rattle.circuit.specs.declared.Literal.{Literal}
use Rattle.question.specs.declared.prefix.Block.{Block}
use Rattle.runs.specs.State.{before, width}
use Rattle.asking.specs.declared.Level.{Level}
use Rattle.bench.proofs.Bench.level.Goals as goal

-- a level by its parts
parts : (a v b f v' b' f' : ℕ) (r r' : Literal) → v ≡ v' → r ≡ r' → b ≡ b' → f ≡ f' →
    ◌≡◌ {A = Level} (record { variables = v; root = r; below = b; free = f; allowance = a }) (record { variables = v'; root = r'; below = b'; free = f'; allowance = a })
parts a v b f v' b' f' r r' p q s t = cc

pub returns : goal.returns
returns g c =
    let d = c.args.self.now.desk in
    parts d.purse _ _ _ _ _ _ _ _ c.variables.ensures.value
    (get_or_default d.roots (d.depth + 1) (record { code = 0 }) (record { code = 1 }) (omega (arith, ap length c.blocks-blocks.ensures.value)) ∙ ap (λ j. get_or d.roots j (record { code = 1 })) (add-one d.depth))
    (c.before-2.ensures ∙ ap (λ (bs : List Block). before bs d.depth) c.blocks-blocks.ensures.value)
    (c.width.ensures ∙ ap (λ (bs : List Block). width bs d.depth) c.blocks-blocks.ensures.value)
