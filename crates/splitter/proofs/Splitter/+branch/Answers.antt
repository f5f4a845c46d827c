use Rattle.std.proofs.Common.{◌≡◌, ◌+◌, ◌-◌, map, length, take, drop, sym, refl, ap, ◌∙◌, subst, inl, inr, arith, rules, ℕ, ◌/◌, ap₂}
use Rattle.std.specs.Vec.{with_items}
use Rattle.std.proofs.lemmas.List.{with_items_is}
use Rattle.valuation.specs.Circuit.{reads}
use Rattle.circuit.specs.Gates.{pairs}
use Rattle.search.specs.Queries.{Query, Sound}
use Rattle.search.specs.Asking.{asked}
use Rattle.search.specs.Answers.{core_of}
use Rattle.splitting.specs.Blame.{core}
use Rattle.splitting.specs.Tree.{join, tree}
use Rattle.splitter.proofs.Single.{Evaluated, evaluated}
use Rattle.splitting.specs.Steps.{settings_at, settled, answer_at}
use Rattle.splitting.proofs.Standing.{length_settings}
use Rattle.splitting.proofs.Branches.{unknown_left, ended_spent, ended_lost, ended_moved, first_asked, node_first, second_unset, second_asked, node_second}
use Rattle.splitter.proofs.Splitter.+branch.Goals as goal
use Rattle.splitter.proofs.Splitter.+branch.Goals.{After-evaluate-root, After-mark, then-eq-2-via-then-eq-2, then-eq-2-via-else-eq-2+then-unset-eq0}

-- the root is worked out
worked_out : (t : ℕ) (c : After-evaluate-root t) →
    Evaluated c.args.ask.gates.now (1 + c.args.ask.variables) c.args.ask.root.code (reads c.args.forced.now) c.args.self.now.values.items (with_items c.args.self.now.values c.evaluate-root.new.values).items c.evaluate-root.result
worked_out t c =
    let k = c.circuit-circuit.ensures in
    let w = c.evaluate-root.ensures in
    evaluated c.args.ask.gates.now c.circuit-circuit.result.gates.now (1 + c.args.ask.variables) c.circuit-circuit.result.first c.args.ask.root.code (reads c.args.forced.now)
    c.args.self.now.values.items (with_items c.args.self.now.values c.evaluate-root.new.values).items c.deref_mut.result.now c.evaluate-root.new.values c.evaluate-root.result
    k.gates k.first c.deref_mut.ensures.value (with_items_is c.args.self.now.values c.evaluate-root.new.values (c.evaluate-root.auto.values ∙ c.deref_mut.ensures.len)) (w.value 0 (omega arith)) (w.walked 0 (omega arith)) w.inputs

pub returns-then-ask-eq0 : goal.returns-then-ask-eq0
returns-then-ask-eq0 t c =
    let q : Query = asked c.args.ask c.args.forced.now (length c.args.range.now) in
    let s = settings_at c.args.ask.start (length c.args.range.now - c.args.unset) c.args.self.now.values.items in
    let e = ended_spent q c.requires.sound c.args.unset s c.args.ask.allowance c.args.marks.now c.args.self.now.values.items c.if-ask-eq0.true in
    record {
      reply = e.reply;
      range = c.requires.unset ∙ e.range;
      marks = λ n r. e.cores n r ∙ ap (λ z. join c.args.marks.now (core_of (tree q c.args.unset s).outcome z)) (sym c.requires.sound.covered);
      inputs = λ n r. refl {a = take (1 + c.args.ask.variables) c.args.self.now.values.items};
    }

-- the core of a branch that is refuted
blamed : (t : ℕ) (c : After-mark t) → c.mark.new.marks ≡ join c.args.marks.now
    (core (1 + c.args.ask.variables) (pairs c.args.ask.gates.now) (reads c.args.forced.now) (reads (with_items c.args.self.now.values c.evaluate-root.new.values).items) (c.args.ask.root.code / 2))
blamed t c =
    let k = c.circuit-circuit.ensures in
    let F = reads c.args.forced.now in
    let root = c.args.ask.root.code / 2 in
    c.mark.ensures.marks ∙ ap₂ (λ n gs. join c.args.marks.now (core n (pairs gs) F (reads c.deref.result.now) root)) k.first k.gates
    ∙ ap (λ vs. join c.args.marks.now (core (1 + c.args.ask.variables) (pairs c.args.ask.gates.now) F (reads vs) root)) c.deref.ensures.value

pub returns-then-eq : goal.returns-then-eq
returns-then-eq t c =
    let q : Query = asked c.args.ask c.args.forced.now (length c.args.range.now) in
    let s = settings_at c.args.ask.start (length c.args.range.now - c.args.unset) c.args.self.now.values.items in
    let w = worked_out t (goal.at.returns-then-eq t c).After-evaluate-root in
    let e = ended_lost q c.requires.sound c.args.unset s c.args.ask.allowance c.args.marks.now (omega arith) c.args.self.now.values.items (with_items c.args.self.now.values c.evaluate-root.new.values).items c.evaluate-root.result
    c.requires.stands w.value w.walked w.inputs (let h = c.if-eq.ensures in search rules) c.mark.new.marks (blamed t (goal.at.returns-then-eq t c).After-mark) in
    record {
      reply = e.reply;
      range = c.requires.unset ∙ e.range;
      marks = λ n r. e.cores n r ∙ ap (λ z. join c.args.marks.now (core_of (tree q c.args.unset s).outcome z)) (sym c.requires.sound.covered);
      inputs = λ n r. w.inputs;
    }

pub returns-then-eq-2 : goal.returns-then-eq-2
returns-then-eq-2 t c =
    let q : Query = asked c.args.ask c.args.forced.now (length c.args.range.now) in
    let free = length c.args.range.now in
    let s = settings_at c.args.ask.start (free - c.args.unset) c.args.self.now.values.items in
    let w = worked_out t (goal.at.returns-then-eq-2 t c).After-evaluate-root in
    let long : length s ≡ free - c.args.unset = length_settings q c.requires.sound s (free - c.args.unset) c.args.self.now.values.items (omega arith) c.requires.stands in
    let e = ended_moved q c.requires.sound c.args.unset s c.args.ask.allowance c.args.marks.now (omega arith) c.args.self.now.values.items (with_items c.args.self.now.values c.evaluate-root.new.values).items c.evaluate-root.result
    c.requires.stands w.value w.walked w.inputs
    (elim c.then-eq-2.branch [
      | then-eq-2-via-then-eq-2 x ↦ inl (let h = x.if-eq-2.ensures in search rules)
      | then-eq-2-via-else-eq-2+then-unset-eq0 x ↦ inr (unknown_left c.evaluate-root.result (let h = c.if-eq.ensures in search rules) (let h = x.if-eq-2.ensures in search rules), x.if-unset-eq0.true)
    ])
    c.write_setting.new.range (omega arith)
    (c.write_setting.ensures ∙ ap₂ (λ n xs. map settled (take n (drop c.args.ask.start xs))) (let e : c.args.ask.start + free - c.args.ask.start ≡ free = omega arith in e) (c.deref-then-eq-2.ensures.value ∙ elim c.then-eq-2.branch [
      | then-eq-2-via-then-eq-2 x ↦ ap (λ z. z.values.items) x.self-is
      | then-eq-2-via-else-eq-2+then-unset-eq0 x ↦ ap (λ z. z.values.items) x.self-is
    ])) in
    record {
      reply = e.reply;
      range = e.range;
      marks = λ n r. cc;
      inputs = λ n r. cc;
    }

pub branch-low-requires : goal.branch-low-requires
branch-low-requires t c =
    let ask = c.args.ask in
    let forced = c.args.forced.now in
    let free = length c.args.range.now in
    let k = c.args.unset in
    let before = c.args.self.now.values.items in
    let values = (with_items c.args.self.now.values c.evaluate-root.new.values).items in
    let old = c.args.marks.now in
    let r = worked_out t (goal.at.branch-low-requires t c).After-evaluate-root in
    let stands = first_asked ask forced free k before values ask.allowance old c.evaluate-root.result
    c.requires.sound c.requires.stands r.value r.inputs (let h = c.if-eq.ensures in search rules) (let h = c.if-eq-2.ensures in search rules) c.requires.fits c.if-unset-eq0.false c.if-ask-eq0.false c.requires.markable in (
      let m : k ≡ t = c.decreases in omega (arith, c.if-unset-eq0.false),
      (c.requires.sound, (stands, (omega arith, (c.requires.unset, c.requires.markable)))),
    )

pub returns-in_default-low : goal.returns-in_default-low
returns-in_default-low t c =
    let ask = c.args.ask in
    let forced = c.args.forced.now in
    let free = length c.args.range.now in
    let k = c.args.unset in
    let before = c.args.self.now.values.items in
    let values = (with_items c.args.self.now.values c.evaluate-root.new.values).items in
    let old = c.args.marks.now in
    let r = worked_out t (goal.at.returns-in_default-low t c).After-evaluate-root in
    let e = node_first ask forced free k before values ask.allowance old c.evaluate-root.result
    c.requires.sound c.requires.stands r.value r.inputs (let h = c.if-eq.ensures in search rules) (let h = c.if-eq-2.ensures in search rules) c.requires.fits c.if-unset-eq0.false c.if-ask-eq0.false c.requires.markable
    c.branch-low.result c.branch-low.new.range c.branch-low.new.marks c.branch-low.new.self.values.items
    c.branch-low.ensures.reply c.in_default-low.not-NoMove c.branch-low.ensures.range c.later.result c.later.ensures in
    record {
      reply = e.reply;
      range = e.range;
      marks = λ j x. e.cores j x ∙ ap (λ z. join old (core_of (answer_at ask forced free k before).outcome z)) (sym c.requires.sound.covered);
      inputs = λ j x. e.inputs j x ∙ sym c.requires.stands;
    }

pub branch-high-requires : goal.branch-high-requires
branch-high-requires t c =
    let ask = c.args.ask in
    let forced = c.args.forced.now in
    let free = length c.args.range.now in
    let k = c.args.unset in
    let before = c.args.self.now.values.items in
    let values = (with_items c.args.self.now.values c.evaluate-root.new.values).items in
    let old = c.args.marks.now in
    let r = worked_out t (goal.at.branch-high-requires t c).After-evaluate-root in
    let m = c.in_NoMove-low.spent in
    let low = c.in_NoMove-low.ensures in
    let middle = c.branch-low.new.marks in
    let last = c.branch-low.new.self.values.items in
    let room = length c.branch-low.new.range in
    let whole : room ≡ free = c.branch-low.auto.range in
    let stands = second_asked ask forced free k before values ask.allowance old c.evaluate-root.result
    c.requires.sound c.requires.stands r.value r.inputs (let h = c.if-eq.ensures in search rules) (let h = c.if-eq-2.ensures in search rules) c.requires.fits c.if-unset-eq0.false c.if-ask-eq0.false c.requires.markable
    m middle last low.reply (low.marks m refl) (low.inputs m refl) room whole in
    let unset = second_unset ask forced free k before values ask.allowance old c.evaluate-root.result
    c.requires.sound c.requires.stands r.value r.inputs (let h = c.if-eq.ensures in search rules) (let h = c.if-eq-2.ensures in search rules) c.requires.fits c.if-unset-eq0.false c.if-ask-eq0.false c.requires.markable
    m middle last low.reply (low.marks m refl) (low.inputs m refl) room whole in (
      let z : k ≡ t = c.decreases in omega (arith, c.if-unset-eq0.false),
      (
        subst (λ z. Sound (asked ask forced z)) (sym whole) c.requires.sound,
        (
          stands,
          (
            omega arith,
            (low.range ∙ unset, c.branch-low.auto.marks ∙ c.requires.markable),
          ),
        ),
      ),
    )

pub returns : goal.returns
returns t c =
    let ask = c.args.ask in
    let forced = c.args.forced.now in
    let free = length c.args.range.now in
    let k = c.args.unset in
    let before = c.args.self.now.values.items in
    let values = (with_items c.args.self.now.values c.evaluate-root.new.values).items in
    let old = c.args.marks.now in
    let r = worked_out t (goal.at.returns t c).After-evaluate-root in
    let m = c.in_NoMove-low.spent in
    let low = c.in_NoMove-low.ensures in
    let middle = c.branch-low.new.marks in
    let last = c.branch-low.new.self.values.items in
    let room = length c.branch-low.new.range in
    let whole : room ≡ free = c.branch-low.auto.range in
    let h = c.branch-high.ensures in
    let e = node_second ask forced free k before values ask.allowance old c.evaluate-root.result
    c.requires.sound c.requires.stands r.value r.inputs (let h = c.if-eq.ensures in search rules) (let h = c.if-eq-2.ensures in search rules) c.requires.fits c.if-unset-eq0.false c.if-ask-eq0.false c.requires.markable
    m middle last low.reply (low.marks m refl) (low.inputs m refl) room whole
    c.branch-high.result c.branch-high.new.range c.branch-high.new.marks c.branch-high.new.self.values.items h.reply h.range h.marks h.inputs c.later-2.result c.later-2.ensures in
    record {
      reply = e.reply;
      range = e.range;
      marks = λ j x. e.cores j x ∙ ap (λ z. join old (core_of (answer_at ask forced free k before).outcome z)) (sym c.requires.sound.covered);
      inputs = λ j x. e.inputs j x ∙ sym c.requires.stands;
    }
