use Rattle.std.proofs.Common.{◌≡◌, false, length, get_or, replicate, sym, ap, ◌∙◌, arith, rules}
use Rattle.search.specs.declared.TheConstants.{NODES}
use Rattle.splitting.specs.Worklist.{holds, flag_count}
use Rattle.splitting.proofs.Listed.{flag_count_none, none_set}
use Rattle.splitter.proofs.blaming.Blame.new.Goals as goal

pub invariant_of-result : goal.invariant_of-result
invariant_of-result c =
    let none : c.in_ok-vec.field-0.items ≡ replicate NODES false = search rules in
    let empty = c.in_ok-with_capacity.ensures.items in
    record {
      wide = search rules;
      roomy = c.in_ok-with_capacity.ensures.capacity;
      counted = ap length empty ∙ sym (ap flag_count none ∙ flag_count_none NODES);
      listed = λ n. ap (λ xs. get_or xs n false) none ∙ none_set NODES n ∙ sym (ap (λ xs. holds xs n) empty);
      once = λ i j h l. absurd (omega (arith, ap length empty));
    }
