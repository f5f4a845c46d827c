-- The premises of the law over runs are met.
use Rattle.std.proofs.Common.{◌≡◌, ℕ, ◌+◌, ◌≤◌, Bool, true, false, cond, ◌&&◌, leb, ◌≢◌, List, [], ◌∷◌, ◌++◌, length, Some, None, sym, refl, ap, ◌∙◌, subst, inl, inr, arith}
use Rattle.std.proofs.lemmas.List.{length-replicate}
use Rattle.std.proofs.lemmas.Bool.{cond-true, cond-false, and_from, and_right, leb-false, ne_eqb}
use Rattle.valuation.specs.declared.Value.TheVariants.{Unknown}
use Rattle.copying.specs.Places.{none}
use Rattle.question.specs.Blocks.{total}
use Rattle.question.specs.Formula.{Formula, WellFormed}
use Rattle.search.specs.Queries.{Query}
use Rattle.search.specs.Answers.{Answer, Keeps, ceiling}
use Rattle.runs.specs.declared.Phase.TheVariants.{Playing}
use Rattle.runs.specs.declared.Desk.{Desk}
use Rattle.runs.specs.declared.Refusal.TheVariants.{Short, Foreign, Grants}
use Rattle.runs.specs.declared.Stub.{Stub}
use Rattle.runs.specs.Refusals.{unless}
use Rattle.runs.specs.State.{State}
use Rattle.runs.specs.Papers.{stub_of, ticket_present}
use Rattle.runs.specs.Turn.{query_of, reply_by, spent_by, turn_refusal, after_answer}
use Rattle.runs.specs.Settle.{settle_refusal}
use Rattle.runs.specs.Grants.{granted, topped}
use Rattle.runs.specs.Calls.{Handed, same, handed, Call, turn, settle, top_up, step, Elsewhere, asks, Told, turn_of, all_turns}
use Rattle.runs.specs.Law.{widest, Fresh}
use Rattle.runs.specs.Met.{least_sheets, new_bench, tables_of, one_turn, Met, PremisesMet}
use Rattle.runs.proofs.Ways.{reply_paid, refused_turn, accepted_turn, refused_settle, top_ways}
use Rattle.runs.proofs.Ways as ways
use Rattle.runs.proofs.Shape.{own_stub, Shaped, Room, room_to, shaped_fresh, shaped_step}
use Rattle.runs.proofs.Levels.{widest_low, ceiling_mono}
use Rattle.runs.proofs.Linked.{Linked, linked_fresh, linked_step, owns, free_below, query_sound}

-- a top_up of the most that a turn needs covers it, or there were grants enough
covers : (n : ℕ) (d : Desk) → d.purse ≡ d.grants → n ≤ ceiling 40 → n ≤ (topped n d).purse
covers n d e low = by (leb (d.grants + n) 18446744073709551615) refl
  where
    by : (b : Bool) → leb (d.grants + n) 18446744073709551615 ≡ b → n ≤ (unless (cond b None (Some Grants)) d (granted n d)).purse
    by true h = omega arith
    by false h = omega (arith, leb-false (d.grants + n) 18446744073709551615 h)

-- lists that are just long enough are long enough
least_room : (v n : ℕ) → Room v n (least_sheets v n)
least_room v n = record {
  play = omega (arith, length-replicate v Unknown);
  values = omega (arith, length-replicate (1 + v + n) Unknown);
  forced = omega (arith, length-replicate (1 + v + n) Unknown);
  marks = omega (arith, length-replicate (1 + v + n) false);
  copies = omega (arith, length-replicate (1 + v + n) none);
}

module _ (f : Formula) (well : WellFormed f) (m : Query → Answer) (keeps : Keeps m) (entries : ℕ) (room : length f.gates ≤ entries) (few : entries ≤ 8000) (stamp other grant : ℕ) (apart : stamp ≢ other) where
  abbrev s : State
  s = new_bench f entries stamp grant

  abbrev p : Stub
  p = stub_of s.desk

  abbrev theirs : State
  theirs = new_bench f entries other grant

  abbrev h : Handed
  h = tables_of theirs

  -- the bench after the top_up
  abbrev s' : State
  s' = step (top_up (one_turn f)) s

  abbrev q : Query
  q = query_of s'

  fresh : Fresh f s
  fresh = record {
    entries = entries;
    sheets = least_sheets (total f.blocks) entries;
    stamp = stamp;
    grant = grant;
    room = room;
    few = few;
    accepted = cond-true _ None (Some Short) (room_to _ _ _ (least_room (total f.blocks) entries));
    is = refl;
  }

  elsewhere : Elsewhere stamp h
  elsewhere = ap (λ b. b && b && b && b && b && b) (ne_eqb other stamp (λ e. apart (sym e)))

  no_slip : settle_refusal p s ≡ Some Foreign
  no_slip = refl

  not_own : turn_refusal p (reply_by m (handed h s)) (handed h s) ≡ Some Foreign
  not_own = cond-false _ (spent_by (reply_by m (handed h s))) (Some Foreign) (and_right (ticket_present s.desk p) _ (ways.not_own s theirs.gates theirs.sheets elsewhere))

  settled : step (settle p same) s ≡ s
  settled = (refused_settle p same s Foreign no_slip).0

  refused : (step (turn p h (reply_by m (handed h s))) s ≡ s) × (turn_of p h (reply_by m (handed h s)) s ≡ [])
  refused = refused_turn p h (reply_by m (handed h s)) s Foreign not_own

  shape : Shaped f s'
  shape = shaped_step f well s (top_up (one_turn f)) (shaped_fresh f well s fresh) tt

  link : Linked f s'
  link = linked_step f well s (shaped_fresh f well s fresh) (linked_fresh f well s fresh) (top_up (one_turn f)) tt

  playing : s'.desk.phase ≡ Playing
  playing = elim (top_ways (one_turn f) s) [ inl e ↦ ap (λ x. x.desk.phase) e | inr e ↦ ap (λ x. x.desk.phase) e ]

  present : ticket_present s'.desk p ≡ true
  present =
      let here : ticket_present s.desk p ≡ true = own_stub s.desk in
      elim (top_ways (one_turn f) s) [ inl e ↦ ap (λ x. ticket_present x.desk p) e ∙ here | inr e ↦ ap (λ x. ticket_present x.desk p) e ∙ here ]

  asked : asks p s' ≡ true
  asked = and_from _ _ present (owns f well s' shape link)

  -- the purse covers the need
  replied : reply_by m s' ≡ Some (m q)
  replied =
      reply_paid m s'
      (omega (
        arith,
        keeps.bounded q (query_sound f well s' shape link playing),
        free_below f well s' shape link,
        covers (one_turn f) s.desk refl (ceiling_mono (widest f.blocks) 40 (widest_low f.blocks well.good.sized)),
      ))

  went : turn_of p same (reply_by m s') s' ≡ record { query = q; answer = m q; after = after_answer (m q) s' } ∷ []
  went = ap (λ r. turn_of p same r s') replied ∙ (accepted_turn p (m q) s' asked).1

  met : Met f m s theirs
  unfolding all_turns
  met = record {
    fresh = fresh;
    told = (tt, subst (Told m (turn p h (reply_by m (handed h s)) ∷ last_two)) (sym settled) (elsewhere, refl, subst (Told m last_two) (sym refused.0) (tt, refl, tt)));
    no_slip = no_slip;
    not_own = not_own;
    turns = ap (all_turns (turn p h (reply_by m (handed h s)) ∷ last_two)) settled ∙ ap (λ xs. xs ++ all_turns last_two (step (turn p h (reply_by m (handed h s))) s)) refused.1 ∙ ap (all_turns last_two) refused.0
        ∙ ap (λ xs. xs ++ []) went;
  }
    where
      last_two : List Call
      last_two = top_up (one_turn f) ∷ turn p same (reply_by m s') ∷ []

pub premises_met : PremisesMet
premises_met = met
