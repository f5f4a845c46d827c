-- What a turn makes of a reply. Assumes nothing.
use Rattle.std.proofs.Common.{◌≡◌, ℕ, suc, ◌≤◌, true, ◌&&◌, List, length, Some, None, Ok, Err, vec_items, Option, sym, refl, ap, ◌∙◌, subst, ap₂}
use Rattle.std.proofs.lemmas.List.{take-map}
use Rattle.std.proofs.lemmas.Bool.{and_from, cond-true}
use Rattle.circuit.specs.Gates.{pair}
use Rattle.valuation.specs.Circuit.{Pair}
use Rattle.question.specs.declared.frame.Frame.{Frame}
use Rattle.question.specs.Blocks.{total}
use Rattle.question.specs.Rules.{blocks_of}
use Rattle.question.proofs.Never.{impossible}
use Rattle.search.specs.declared.Reply.{Reply}
use Rattle.search.specs.declared.Reply.TheVariants.{Move, NoMove, Spent}
use Rattle.search.specs.Queries.{Query}
use Rattle.search.specs.Answers.{Outcome, moves, loses, Answer}
use Rattle.asking.specs.declared.Level.{Level}
use Rattle.asking.specs.Asked.{reply_for}
use Rattle.runs.specs.declared.Phase.TheVariants.{Playing, Lost}
use Rattle.runs.specs.declared.Desk.{Desk}
use Rattle.runs.specs.declared.Stub.{Stub}
use Rattle.runs.specs.declared.Refusal.TheVariants as refusal
use Rattle.runs.specs.Refusals.{answered, unless}
use Rattle.runs.specs.Papers.{stub_of, ticket_present}
use Rattle.runs.specs.State.{Sheets, State, before, width, root_at, own}
use Rattle.runs.specs.Turn.{level_query, query_of, within, reply_by, paid, answer_desk, spent_by, after_reply, turn_refusal, turned}
use Rattle.runs.specs.Calls.{RightReply}
use Rattle.bench.proofs.Owned.{owned}
use Rattle.bench.specs.declared.GateTable.{GateTable}
use Rattle.bench.specs.declared.Lists.{Lists}
use Rattle.bench.specs.declared.Ticket.{Ticket}
use Rattle.bench.specs.Model.{gate_sheet, sheets_of, state_of}
use Rattle.bench.specs.Turning.{level_of, asked_over, reply_over, sheets_after, paper_of}

-- a bench's numbers after a reply
abbrev pub reply_desk : Option Answer → Desk → Desk
reply_desk None d = d
reply_desk (Some a) d = answer_desk a.outcome a.need d

-- A reply with a need: the need is paid, the turn is accepted, and these are the numbers after it.
pub record Accepted (p : Stub) (s : State) (r : Option Answer) (need : ℕ) (d : Desk) : Type 0 where
  pub some : 1 ≤ need
  pub covered : need ≤ s.desk.purse
  pub desk : reply_desk r s.desk ≡ d
  pub refusal : turn_refusal p r s ≡ None

module _ (p : Stub) (s : State) (present : ticket_present s.desk p ≡ true) (mine : own s ≡ true) where
  asks : (ticket_present s.desk p && own s) ≡ true
  asks = and_from _ _ present mine

  -- it is asked, so only a reply refuses it
  pub refusal_is : (r : Option Answer) → turn_refusal p r s ≡ spent_by r
  refusal_is r = cond-true _ (spent_by r) (Some refusal.Foreign) asks

  pub spent_is : (r : Option Answer) → reply_for r ≡ Spent → r ≡ None
  spent_is None e = refl
  spent_is (Some a) e = by a.outcome e
    where
      by : (o : Outcome) → reply_for (Some (record { outcome = o; need = a.need })) ≡ Spent → Some a ≡ None
      by (moves x) h = impossible (cc)
      by (loses x) h = impossible (cc)

  pub moved : (r : Option Answer) (need : ℕ) → reply_for r ≡ Move need → RightReply (query_of s) s.desk.purse r → Accepted p s r need (paid Playing (suc s.desk.depth) need s.desk)
  moved None need e right = impossible (cc)
  moved (Some a) need e right = by a.outcome refl
    where
      by : (o : Outcome) → a.outcome ≡ o → Accepted p s (Some a) need (paid Playing (suc s.desk.depth) need s.desk)
      by (loses x) h = let z : reply_for (Some (record { outcome = loses x; need = a.need })) ≡ Move need = ap (λ k. reply_for (Some (record { outcome = k; need = a.need }))) (sym h) ∙ e in impossible (cc)
      by (moves x) h =
          let z : Move a.need ≡ Move need = ap (λ k. reply_for (Some (record { outcome = k; need = a.need }))) (sym h) ∙ e in
          let n : a.need ≡ need = cc in
          record {
            some = subst (λ k. 1 ≤ k) n right.1;
            covered = subst (λ k. k ≤ s.desk.purse) n right.3;
            desk = ap₂ (λ k j. answer_desk k j s.desk) h n;
            refusal = refusal_is (Some a);
          }

  pub lost : (r : Option Answer) (need : ℕ) → reply_for r ≡ NoMove need → RightReply (query_of s) s.desk.purse r → Accepted p s r need (paid Lost s.desk.depth need s.desk)
  lost None need e right = impossible (cc)
  lost (Some a) need e right = by a.outcome refl
    where
      by : (o : Outcome) → a.outcome ≡ o → Accepted p s (Some a) need (paid Lost s.desk.depth need s.desk)
      by (moves x) h = let z : reply_for (Some (record { outcome = moves x; need = a.need })) ≡ NoMove need = ap (λ k. reply_for (Some (record { outcome = k; need = a.need }))) (sym h) ∙ e in impossible (cc)
      by (loses x) h =
          let z : NoMove a.need ≡ NoMove need = ap (λ k. reply_for (Some (record { outcome = k; need = a.need }))) (sym h) ∙ e in
          let n : a.need ≡ need = cc in
          record {
            some = subst (λ k. 1 ≤ k) n right.1;
            covered = subst (λ k. k ≤ s.desk.purse) n right.3;
            desk = ap₂ (λ k j. answer_desk k j s.desk) h n;
            refusal = refusal_is (Some a);
          }

  -- a bench with these numbers and tables
  abbrev pub with_parts : Desk → Sheets → State
  with_parts d t = record { blocks = s.blocks; count = s.count; output = s.output; desk = d; gates = s.gates; sheets = t }

  pub turned_is : (r : Option Answer) → with_parts (reply_desk r s.desk) (sheets_after (before s.blocks s.desk.depth) r s.sheets) ≡ turned p r s
  turned_is None = sym (ap (λ x. unless x s s) (refusal_is None))
  turned_is (Some a) = sym (ap (λ x. unless x s (after_reply (Some a) s)) (refusal_is (Some a)))

  -- the bench and the tables after a reply, where they are these
  pub after_is : (r : Option Answer) (d : Desk) (t : Sheets) → d ≡ reply_desk r s.desk → t ≡ sheets_after (before s.blocks s.desk.depth) r s.sheets → with_parts d t ≡ turned p r s
  after_is r d t desk_is sheets_is = ap₂ with_parts desk_is sheets_is ∙ turned_is r

  -- an accepted turn leaves the paper of its numbers
  pub answer_is : (r : Option Answer) (need : ℕ) (d : Desk) (t : Ticket) → Accepted p s r need d →
      Ok (paper_of d.phase (stub_of d)) ≡ answered (turn_refusal p r s) t (paper_of (turned p r s).desk.phase (stub_of (turned p r s).desk))
  answer_is r need d t a =
      ap (λ (k : Desk). Ok (paper_of k.phase (stub_of k))) (sym a.desk ∙ ap (λ (x : State). x.desk) (turned_is r))
      ∙ ap (λ x. answered x t (paper_of (turned p r s).desk.phase (stub_of (turned p r s).desk))) (sym a.refusal)

  -- a spent turn gives the ticket back
  pub spent_answer : (r : Option Answer) (t : Ticket) → r ≡ None → Err (record { refusal = refusal.Spent; paper = t }) ≡ answered (turn_refusal p r s) t (paper_of (turned p r s).desk.phase (stub_of (turned p r s).desk))
  spent_answer r t none = sym (ap (λ x. answered x t (paper_of (turned p r s).desk.phase (stub_of (turned p r s).desk))) (refusal_is r ∙ ap spent_by none))

-- the reply over the tables is the one of the definition, and right
module _ (m : Query → Answer) (f : Frame) (d : Desk) (g : GateTable) (l : Lists) where
  abbrev s : State
  s = state_of f d (gate_sheet g) (sheets_of l)

  abbrev by_gates : List Pair → Query
  by_gates gs = level_query (total (blocks_of f.prefix)) gs (root_at d (suc d.depth)) (vec_items l.play.entries) (before (blocks_of f.prefix) d.depth) (width (blocks_of f.prefix) d.depth)

  pub reply_is : reply_over m (level_of f d) g l ≡ reply_by m s
  reply_is = ap (λ gs. within d.purse (m (by_gates gs))) (sym (take-map pair g.table.used (vec_items g.table.entries)))

  pub right_is : RightReply (asked_over (level_of f d) g l) d.purse (reply_over m (level_of f d) g l) → RightReply (query_of s) d.purse (reply_by m s)
  right_is = subst (λ (gs : List Pair). RightReply (by_gates gs) d.purse (within d.purse (m (by_gates gs)))) (sym (take-map pair g.table.used (vec_items g.table.entries)))

-- What a turn knows once it has asked: the ticket is present and the tables are the bench's own, at the level k the searcher gave this reply, and it is right.
pub record Asked (m : Query → Answer) (f : Frame) (d : Desk) (g : GateTable) (l : Lists) (p : Stub) (k : Level) (reply : Reply) : Type 0 where
  pub present : ticket_present d p ≡ true
  pub mine : own (state_of f d (gate_sheet g) (sheets_of l)) ≡ true
  pub level : k ≡ level_of f d
  pub right : RightReply (asked_over k g l) k.allowance (reply_over m k g l)
  pub reply_is : reply ≡ reply_for (reply_over m k g l)

-- What becomes of it: the reply by the definition, and the play and the marks after it.
module _ (m : Query → Answer) (f : Frame) (d : Desk) (g : GateTable) (l : Lists) (p : Stub) (k : Level) (reply : Reply) (a : Asked m f d g l p k reply) where
  abbrev at : State
  at = state_of f d (gate_sheet g) (sheets_of l)

  pub here_is : reply_over m k g l ≡ reply_by m at
  here_is = ap (λ (j : Level). reply_over m j g l) a.level ∙ reply_is m f d g l

  right_here : RightReply (query_of at) d.purse (reply_by m at)
  right_here = right_is m f d g l (subst (λ (j : Level). RightReply (asked_over j g l) j.allowance (reply_over m j g l)) a.level a.right)

  replied : reply_for (reply_by m at) ≡ reply
  replied = sym (a.reply_is ∙ ap reply_for here_is)

  pub after_move : (need : ℕ) → reply ≡ Move need → Accepted p at (reply_by m at) need (paid Playing (suc d.depth) need d)
  after_move need e = moved p at a.present a.mine (reply_by m at) need (replied ∙ e) right_here

  pub after_loss : (need : ℕ) → reply ≡ NoMove need → Accepted p at (reply_by m at) need (paid Lost d.depth need d)
  after_loss need e = lost p at a.present a.mine (reply_by m at) need (replied ∙ e) right_here

  pub no_answer : reply ≡ Spent → reply_by m at ≡ None
  no_answer e = spent_is p at a.present a.mine (reply_by m at) (replied ∙ e)

  -- a spent turn gives the ticket back
  pub ticket_back : reply ≡ Spent → (t : Ticket) → Err (record { refusal = refusal.Spent; paper = t }) ≡ answered (turn_refusal p (reply_by m at) at) t (paper_of (turned p (reply_by m at) at).desk.phase (stub_of (turned p (reply_by m at) at).desk))
  ticket_back e t = spent_answer p at a.present a.mine (reply_by m at) t (no_answer e)

  -- the bench is at the level of a block, or past the last
  pub inside : d.depth ≤ length (blocks_of f.prefix)
  inside = (owned at a.mine).level

  -- the bench and the tables after the reply, where the searcher left these tables and the numbers are d'
  pub after_asking : (d' : Desk) (t : Sheets) → d' ≡ reply_desk (reply_by m at) d → t ≡ sheets_after k.below (reply_over m k g l) at.sheets →
      with_parts p at a.present a.mine d' t ≡ turned p (reply_by m at) at
  after_asking d' t desk_is sheets_is =
      after_is p at a.present a.mine (reply_by m at) d' t desk_is (sheets_is ∙ ap₂ (λ n r. sheets_after n r at.sheets) (ap (λ (j : Level). j.below) a.level) here_is)
