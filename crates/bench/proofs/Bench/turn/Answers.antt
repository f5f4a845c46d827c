use Rattle.std.proofs.Common.{◌≡◌, true, Ok, sym, refl, ap, ◌∙◌, subst, add-one, arith}
use Rattle.asking.specs.declared.Level.{Level}
use Rattle.runs.specs.declared.Phase.TheVariants.{Playing}
use Rattle.runs.specs.State.{own}
use Rattle.runs.specs.declared.Stub.{Stub}
use Rattle.runs.specs.Papers.{owed, stub_of, ticket_present}
use Rattle.bench.specs.declared.Turned.TheVariants as outcome
use Rattle.runs.specs.Turn.{paid}
use Rattle.runs.proofs.Shape.{playing_since}
use Rattle.bench.specs.Model.{model}
use Rattle.bench.specs.Turning.{Ready}
use Rattle.bench.proofs.Owned.{ready, few_blocks}
use Rattle.bench.proofs.Turns.{reply_desk, Asked, answer_is, after_move, after_loss, no_answer, ticket_back, inside, after_asking}
use Rattle.bench.proofs.Bench.turn.Goals as goal

pub ask_tables-requires : goal.ask_tables-requires
ask_tables-requires g c =
    let b = c.args.self.now in
    let t = c.args.gates.now in
    let l = c.args.lists.now in
    let mine : own (model b t l) ≡ true = sym c.owns.ensures ∙ c.if-not-owns.false in
    let present : ticket_present b.desk c.args.ticket.stub ≡ true = sym (c.is_present.ensures.ticket refl) ∙ c.if-not-is_present.false in
    subst (λ (k : Level). Ready k t l) (sym c.level-level.ensures) (ready b.frame b.desk t l mine (playing_since b.desk c.args.ticket.stub present) b.rooted)

pub overflow_add-desk : goal.overflow_add-desk
overflow_add-desk g c = omega (arith, c.args.self.now.deep, few_blocks c.args.self.now.frame)

pub paid-desk-requires : goal.paid-desk-requires
paid-desk-requires g c =
    let b = c.args.self.now in
    let e = c.ask_tables.ensures in
    let a : Asked (g.S.Searcher.meaning b.searcher) b.frame b.desk c.args.gates.now c.args.lists.now c.args.ticket.stub c.level-level.result c.ask_tables.result =
    record { present = sym (c.is_present.ensures.ticket refl) ∙ c.if-not-is_present.false; mine = sym c.owns.ensures ∙ c.if-not-owns.false; level = c.level-level.ensures; right = e.right; reply_is = e.reply } in
    let x = after_move _ _ _ _ _ _ _ _ a c.in-Move.need c.in-Move.is in
    record { some = x.some; covered = x.covered; paid = b.paid; balanced = b.balanced }

pub invariant_of-self-in-Move : goal.invariant_of-self-in-Move
invariant_of-self-in-Move g c =
    let b = c.args.self.now in
    let e = c.ask_tables.ensures in
    let a : Asked (g.S.Searcher.meaning b.searcher) b.frame b.desk c.args.gates.now c.args.lists.now c.args.ticket.stub c.level-level.result c.ask_tables.result =
    record { present = sym (c.is_present.ensures.ticket refl) ∙ c.if-not-is_present.false; mine = sym c.owns.ensures ∙ c.if-not-owns.false; level = c.level-level.ensures; right = e.right; reply_is = e.reply } in
    let x = after_move _ _ _ _ _ _ _ _ a c.in-Move.need c.in-Move.is in
    let playing = playing_since b.desk c.args.ticket.stub a.present in
    rw c.paid-desk.ensures (record {
      deep = omega (arith, inside _ _ _ _ _ _ _ _ a);
      counted = omega (arith, ap owed playing, b.counted);
      paid = omega (arith, b.paid, x.some);
      balanced = omega (arith, b.balanced, x.covered);
      kept = b.kept;
      few = b.few;
      rooted = b.rooted;
    })

pub paid-desk-requires-in-NoMove : goal.paid-desk-requires-in-NoMove
paid-desk-requires-in-NoMove g c =
    let b = c.args.self.now in
    let e = c.ask_tables.ensures in
    let a : Asked (g.S.Searcher.meaning b.searcher) b.frame b.desk c.args.gates.now c.args.lists.now c.args.ticket.stub c.level-level.result c.ask_tables.result =
    record { present = sym (c.is_present.ensures.ticket refl) ∙ c.if-not-is_present.false; mine = sym c.owns.ensures ∙ c.if-not-owns.false; level = c.level-level.ensures; right = e.right; reply_is = e.reply } in
    let x = after_loss _ _ _ _ _ _ _ _ a c.in-NoMove.need c.in-NoMove.is in
    record { some = x.some; covered = x.covered; paid = b.paid; balanced = b.balanced }

pub invariant_of-self-in-NoMove : goal.invariant_of-self-in-NoMove
invariant_of-self-in-NoMove g c =
    let b = c.args.self.now in
    let e = c.ask_tables.ensures in
    let a : Asked (g.S.Searcher.meaning b.searcher) b.frame b.desk c.args.gates.now c.args.lists.now c.args.ticket.stub c.level-level.result c.ask_tables.result =
    record { present = sym (c.is_present.ensures.ticket refl) ∙ c.if-not-is_present.false; mine = sym c.owns.ensures ∙ c.if-not-owns.false; level = c.level-level.ensures; right = e.right; reply_is = e.reply } in
    let x = after_loss _ _ _ _ _ _ _ _ a c.in-NoMove.need c.in-NoMove.is in
    let playing = playing_since b.desk c.args.ticket.stub a.present in
    rw c.paid-desk-in-NoMove.ensures (record {
      deep = b.deep;
      counted = omega (arith, ap owed playing, b.counted);
      paid = omega (arith, b.paid, x.some);
      balanced = omega (arith, b.balanced, x.covered);
      kept = b.kept;
      few = b.few;
      rooted = b.rooted;
    })

pub returns-in-Spent : goal.returns-in-Spent
returns-in-Spent g c =
    let b = c.args.self.now in
    let e = c.ask_tables.ensures in
    let a : Asked (g.S.Searcher.meaning b.searcher) b.frame b.desk c.args.gates.now c.args.lists.now c.args.ticket.stub c.level-level.result c.ask_tables.result =
    record { present = sym (c.is_present.ensures.ticket refl) ∙ c.if-not-is_present.false; mine = sym c.owns.ensures ∙ c.if-not-owns.false; level = c.level-level.ensures; right = e.right; reply_is = e.reply } in
    record {
      meaning = e.same;
      answer = ticket_back _ _ _ _ _ _ _ _ a c.in-Spent.is c.args.ticket;
      after = after_asking _ _ _ _ _ _ _ _ a b.desk _ (sym (ap (λ r. reply_desk r b.desk) (no_answer _ _ _ _ _ _ _ _ a c.in-Spent.is))) e.lists;
    }

pub returns-in-Move : goal.returns-in-Move
returns-in-Move g c =
    let b = c.args.self.now in
    let e = c.ask_tables.ensures in
    let a : Asked (g.S.Searcher.meaning b.searcher) b.frame b.desk c.args.gates.now c.args.lists.now c.args.ticket.stub c.level-level.result c.ask_tables.result =
    record { present = sym (c.is_present.ensures.ticket refl) ∙ c.if-not-is_present.false; mine = sym c.owns.ensures ∙ c.if-not-owns.false; level = c.level-level.ensures; right = e.right; reply_is = e.reply } in
    let x = after_move _ _ _ _ _ _ _ _ a c.in-Move.need c.in-Move.is in
    record {
      meaning = e.same;
      answer = ap (λ (p : Stub). Ok (outcome.Moved (record { stub = p }))) (c.stub.ensures ∙ ap stub_of c.paid-desk.ensures) ∙ answer_is _ _ a.present a.mine _ _ _ c.args.ticket x;
      after = after_asking _ _ _ _ _ _ _ _ a c.paid-desk.result _ (c.paid-desk.ensures ∙ ap (λ n. paid Playing n c.in-Move.need b.desk) (add-one b.desk.depth) ∙ sym x.desk) e.lists;
    }

pub returns-in-NoMove : goal.returns-in-NoMove
returns-in-NoMove g c =
    let b = c.args.self.now in
    let e = c.ask_tables.ensures in
    let a : Asked (g.S.Searcher.meaning b.searcher) b.frame b.desk c.args.gates.now c.args.lists.now c.args.ticket.stub c.level-level.result c.ask_tables.result =
    record { present = sym (c.is_present.ensures.ticket refl) ∙ c.if-not-is_present.false; mine = sym c.owns.ensures ∙ c.if-not-owns.false; level = c.level-level.ensures; right = e.right; reply_is = e.reply } in
    let x = after_loss _ _ _ _ _ _ _ _ a c.in-NoMove.need c.in-NoMove.is in
    record {
      meaning = e.same;
      answer = ap (λ (p : Stub). Ok (outcome.Lost (record { stub = p }))) (c.stub-in-NoMove.ensures ∙ ap stub_of c.paid-desk-in-NoMove.ensures) ∙ answer_is _ _ a.present a.mine _ _ _ c.args.ticket x;
      after = after_asking _ _ _ _ _ _ _ _ a c.paid-desk-in-NoMove.result _ (c.paid-desk-in-NoMove.ensures ∙ sym x.desk) e.lists;
    }
