-- A run goes to its end: while the bench plays a turn is accepted, and accepted turns are bounded.
use Rattle.std.proofs.Common.{◌≡◌, ℕ, zero, suc, ◌+◌, ◌*◌, ◌<◌, ◌≤◌, true, ◌⊎◌, List, [], ◌∷◌, ◌++◌, length, Some, None, sym, refl, ap, ◌∙◌, inl, inr, append-nil, arith}
use Rattle.std.proofs.lemmas.Bool.{cond-true, and_from}
use Rattle.game.specs.Run.{any, state_of}
use Rattle.game.proofs.Claims.{turns_bounded}
use Rattle.question.proofs.Never.{impossible}
use Rattle.question.specs.Formula.{Formula, WellFormed}
use Rattle.search.specs.Queries.{Query}
use Rattle.search.specs.Answers.{Outcome, moves, loses, Answer, Keeps}
use Rattle.runs.specs.declared.Phase.TheVariants.{Playing, Lost, Over}
use Rattle.runs.specs.declared.Desk.{Desk}
use Rattle.runs.specs.declared.Stub.{Stub}
use Rattle.runs.specs.declared.Refusal.TheVariants.{Foreign, Full}
use Rattle.runs.specs.State.{State}
use Rattle.runs.specs.Papers.{stub_of, is_playing, is_lost, slip_present}
use Rattle.runs.specs.Turn.{query_of, reply_by, answer_desk, after_answer}
use Rattle.runs.specs.Settle.{full_at, settle_refusal, gone_back, settle_at}
use Rattle.runs.specs.Calls.{same, Call, turn, settle, step, run, Fair, asks, verdicts_of, all_verdicts}
use Rattle.runs.specs.Law.{game_of, most_turns}
use Rattle.runs.specs.Met.{one_turn, Decided, Stopped, Ended, RunsEnd}
use Rattle.runs.proofs.Ways.{reply_paid, accepted_turn, said_at, accepted_settle}
use Rattle.runs.proofs.Shape.{own_stub, Shaped, shaped_fresh, shaped_step}
use Rattle.runs.proofs.Linked.{Linked, linked_fresh, linked_step, some_blocks, owns, query_sound}
use Rattle.runs.proofs.Sounds.{one_more, covered, settles_refused, replied}

-- the phase and the grants after an answer
turn_phase : (o : Outcome) (need : ℕ) (d : Desk) → ((answer_desk o need d).phase ≡ Playing) ⊎ ((answer_desk o need d).phase ≡ Lost)
turn_phase (moves setting) need d = inl refl
turn_phase (loses core) need d = inr refl

same_grants : (o : Outcome) (need : ℕ) (d : Desk) → (answer_desk o need d).grants ≡ d.grants
same_grants (moves setting) need d = refl
same_grants (loses core) need d = refl

-- nothing is full at level 1 or 2
past_two : (d : ℕ) (s : State) → full_at d s ≡ Some Full → 2 ≤ d
past_two zero s e = impossible (cc)
past_two (suc zero) s e = impossible (cc)
past_two (suc (suc d)) s e = omega arith

-- a call that gives no verdict, before a run to its end
one_more_call : (c : Call) (cs : List Call) (s : State) → verdicts_of c s ≡ [] → Decided cs (step c s) ⊎ Stopped (run cs (step c s)) → Decided (c ∷ cs) s ⊎ Stopped (run (c ∷ cs) s)
unfolding all_verdicts
one_more_call c cs s none (inl x) = inl (x.0, ap (λ xs. length (xs ++ all_verdicts cs (step c s))) none ∙ x.1)
one_more_call c cs s none (inr x) = inr x

module _ (f : Formula) (well : WellFormed f) (m : Query → Answer) (keeps : Keeps m) where
  -- a bench of a run with the grants of the bound, which has fewer than n turns left
  record Within (n : ℕ) (s : State) : Type 0 where
    shape : Shaped f s
    link : Linked f s
    granted : most_turns f * one_turn f ≤ s.desk.grants
    left : most_turns f < s.desk.turns + n

  -- a bench that plays goes to its end
  abbrev Goes : ℕ → Type 0
  Goes n = (s : State) → Within n s → s.desk.phase ≡ Playing → Ended m s

  -- so does one that has lost, by a settlement
  lost_ends : (n : ℕ) → Goes n → (s : State) → Within n s → s.desk.phase ≡ Lost → Ended m s
  unfolding all_verdicts
  lost_ends n go s w e =
      elim (settles_refused f well s w.shape w.link p present) [
        | inr full ↦ record {
          calls = [];
          told = tt;
          end = inr (e, past_two s.desk.depth s (sym (cond-true _ (full_at s.desk.depth s) (Some Foreign) (and_from _ _ present (owns f well s w.shape w.link))) ∙ full), full);
        }
        | inl ok ↦ by ok s.desk.depth refl
      ]
    where
      p : Stub
      p = stub_of s.desk

      present : slip_present s.desk p ≡ true
      present = and_from _ _ (ap is_lost e) (own_stub s.desk)

      c : Call
      c = settle p same

      over : (step c s).desk.phase ≡ Over → length (verdicts_of c s) ≡ 1 → Ended m s
      over o one = record { calls = c ∷ []; told = (tt, tt); end = inl (o, ap length (append-nil (verdicts_of c s)) ∙ one) }

      by : settle_refusal p s ≡ None → (d : ℕ) → s.desk.depth ≡ d → Ended m s
      by ok zero at = over (ap (λ x. x.desk.phase) ((accepted_settle p s ok).0 ∙ ap (λ k. settle_at k s) at)) (ap length ((accepted_settle p s ok).1 ∙ ap (λ k. said_at k s) at))
      by ok (suc zero) at = over (ap (λ x. x.desk.phase) ((accepted_settle p s ok).0 ∙ ap (λ k. settle_at k s) at)) (ap length ((accepted_settle p s ok).1 ∙ ap (λ k. said_at k s) at))
      by ok (suc (suc d)) at =
          let is : step c s ≡ gone_back d s = (accepted_settle p s ok).0 ∙ ap (λ k. settle_at k s) at in
          let rest : Ended m (step c s) = go (step c s) (record {
            shape = shaped_step f well s c w.shape tt;
            link = linked_step f well s w.shape w.link c tt;
            granted = omega (arith, w.granted, ap (λ x. x.desk.grants) is);
            left = omega (arith, w.left, ap (λ x. x.desk.turns) is);
          }) (ap (λ x. x.desk.phase) is) in
          record { calls = c ∷ rest.calls; told = (tt, rest.told); end = one_more_call c rest.calls s ((accepted_settle p s ok).1 ∙ ap (λ k. said_at k s) at) rest.end }

  -- .. and one that has a turn more
  turn_ends : (n : ℕ) → Goes n → (s : State) → Within (suc n) s → s.desk.phase ≡ Playing → Ended m s
  turn_ends n go s w e = record { calls = c ∷ rest.calls; told = (tt, refl, rest.told); end = one_more_call c rest.calls s refl rest.end }
    where
      q : Query
      q = query_of s

      p : Stub
      p = stub_of s.desk

      c : Call
      c = turn p same (reply_by m s)

      asked : asks p s ≡ true
      asked = and_from _ _ (and_from _ _ (ap is_playing e) (own_stub s.desk)) (owns f well s w.shape w.link)

      fair : Fair c s
      fair = (tt, λ _. replied f well s w.shape w.link m keeps e)

      -- the purse covers the need
      paid : reply_by m s ≡ Some (m q)
      paid = reply_paid m s (omega (arith, keeps.bounded q (query_sound f well s w.shape w.link e), covered f well s w.shape w.link e w.granted))

      is : step c s ≡ after_answer (m q) s
      is = ap (λ r. step (turn p same r) s) paid ∙ (accepted_turn p (m q) s asked).0

      next : Within n (step c s)
      next = record {
        shape = shaped_step f well s c w.shape fair;
        link = linked_step f well s w.shape w.link c fair;
        granted = omega (arith, w.granted, ap (λ x. x.desk.grants) is, same_grants (m q).outcome (m q).need s.desk);
        left = omega (arith, w.left, ap (λ x. x.desk.turns) is, one_more (m q).outcome (m q).need s.desk);
      }

      rest : Ended m (step c s)
      rest =
          elim (turn_phase (m q).outcome (m q).need s.desk) [
            | inl y ↦ go (step c s) next (ap (λ x. x.desk.phase) is ∙ y)
            | inr y ↦ lost_ends n go (step c s) next (ap (λ x. x.desk.phase) is ∙ y)
          ]

  playing_ends : (n : ℕ) → Goes n
  playing_ends zero s w e = absurd (omega (arith, w.left, turns_bounded (game_of f) (some_blocks f well s w.shape w.link) any (state_of w.link.reached)))
  playing_ends (suc n) s w e = turn_ends n (playing_ends n) s w e

pub runs_end : RunsEnd
runs_end f well m keeps s fresh granted =
    playing_ends f well m keeps (suc (most_turns f)) s
    (record { shape = shaped_fresh f well s fresh; link = linked_fresh f well s fresh; granted = granted; left = omega arith })
    (ap (λ x. x.desk.phase) fresh.is)
