use Rattle.std.proofs.Common.{◌≡◌, ◌<◌, false, true, length, get_or, set, [], ◌∷◌, sym, ap, ◌∙◌, subst, arith}
use Rattle.std.proofs.lemmas.List.{length-append, length-set}
use Rattle.splitting.specs.Worklist.{holds}
use Rattle.splitting.proofs.Listed.{flag_count_le, flag_count_set, Once, listed_more, once_more}
use Rattle.splitter.proofs.blaming.Blame.note.Goals as goal
use Rattle.splitter.proofs.blaming.Blame.note.Goals.{After-index_mut}

-- the node is new, and inside
new : (c : After-index_mut) → get_or c.args.self.now.seen.items c.args.node false ≡ false
new c = let seen = get_or c.args.self.now.seen.items c.args.node in sym (ap seen c.if-not-index.true) ∙ sym c.index.ensures ∙ c.if-not-index.true

inside : (c : After-index_mut) → c.args.node < length c.args.self.now.seen.items
inside c = omega (arith, c.args.self.now.seen.ok.0)

pub push_reserved-requires : goal.push_reserved-requires
push_reserved-requires c =
    let s = c.args.self.now in
    let d = (goal.at.push_reserved-requires c).After-index_mut in
    omega (arith, s.order.ok.0, s.seen.ok.0, flag_count_set s.seen.items c.args.node (inside d) (new d), flag_count_le (set s.seen.items c.args.node true), length-set s.seen.items c.args.node true)

pub invariant_of-self : goal.invariant_of-self
invariant_of-self c =
    let s = c.args.self.now in
    let d = (goal.at.invariant_of-self c).After-index_mut in
    let items = c.push_reserved.ensures.items in
    record {
      wide = s.wide;
      roomy = omega (arith, s.roomy, c.push_reserved.ensures.capacity);
      counted = omega (arith, ap length items, length-append s.order.items (c.args.node ∷ []), flag_count_set s.seen.items c.args.node (inside d) (new d), s.counted);
      listed = λ n. listed_more s.seen.items s.order.items c.args.node s.listed (inside d) (new d) n ∙ sym (ap (λ xs. holds xs n) items);
      once = subst Once (sym items) (once_more s.seen.items s.order.items c.args.node s.listed (inside d) (new d) s.once);
    }
