use Rattle.std.proofs.Common.{◌≡◌, ◌<◌, Bool, false, length, get_or, take, drop, replicate, List, [], ◌++◌, sym, ap, ◌∙◌, arith}
use Rattle.std.proofs.lemmas.List.{take_at, length-replicate}
use Rattle.search.specs.declared.TheConstants.{NODES}
use Rattle.search.proofs.Marks.{on_inside}
use Rattle.splitting.specs.Worklist.{holds, flag_count}
use Rattle.splitting.proofs.Working.{holds_at, place_of}
use Rattle.splitting.proofs.Listed.{flag_count_none, none_set}
use Rattle.splitter.proofs.blaming.Blame.clear.Goals as goal

pub forget-requires-clause-inside : goal.forget-requires-clause-inside
forget-requires-clause-inside c = λ i h.
    let s = c.args.self.now in
    let less : i < length s.order.items = omega (arith, ap length c.deref.ensures.value) in
    let set = on_inside s.seen.items (get_or s.order.items i 0) (s.listed (get_or s.order.items i 0) ∙ holds_at s.order.items i less) in
    rw (c.deref.ensures.value, c.deref_mut.ensures.value) set

pub forget-requires-clause-listed : goal.forget-requires-clause-listed
forget-requires-clause-listed c = λ n o.
    let s = c.args.self.now in
    rw c.deref.ensures.value (place_of s.order.items n (sym (s.listed n) ∙ ap (λ (xs : List Bool). get_or xs n false) (sym c.deref_mut.ensures.value) ∙ o))

pub invariant_of-self : goal.invariant_of-self
invariant_of-self c =
    let s = c.args.self.now in
    let empty = c.clear.ensures.items in
    let none : c.forget.new.seen ≡ replicate NODES false = c.forget.ensures ∙ ap (λ n. replicate n false) (ap length c.deref_mut.ensures.value ∙ sym s.seen.ok.0 ∙ s.wide) in
    let is : take s.seen.len (c.forget.new.seen ++ drop (length c.forget.new.seen) s.seen.items) ≡ replicate NODES false =
    take_at c.forget.new.seen (drop (length c.forget.new.seen) s.seen.items) s.seen.len (ap length none ∙ length-replicate NODES false ∙ sym s.wide) ∙ none in
    record {
      wide = s.wide;
      roomy = omega (arith, s.roomy, c.clear.ensures.capacity);
      counted = ap length empty ∙ sym (ap flag_count is ∙ flag_count_none NODES);
      listed = λ n. ap (λ (xs : List Bool). get_or xs n false) is ∙ none_set NODES n ∙ sym (ap (λ xs. holds xs n) empty);
      once = λ i j h l. absurd (omega (arith, ap length empty));
    }
