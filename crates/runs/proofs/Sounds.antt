-- Every run with right replies is sound.
use Rattle.std.proofs.Common.{◌≡◌, ℕ, zero, suc, ◌+◌, ◌*◌, ◌<◌, ◌≤◌, Bool, true, false, cond, not, ltb, ◌≢◌, ◌⊎◌, List, [], ◌∷◌, map, length, take, replicate, Some, None, Option, sym, refl, ap, ◌∙◌, subst, ap₂, inl, inr, arith}
use Rattle.std.proofs.lemmas.List.{length-append, length-map, take_at}
use Rattle.std.proofs.lemmas.Bool.{false≢true, ltb-true, ltb-false, and_parts, and_from, cond_both}
use Rattle.game.specs.Prefix.{owner}
use Rattle.game.specs.Run.{any, verdict, state_of}
use Rattle.game.specs.Game.{value_at, Opening}
use Rattle.game.specs.Strategy.{HasWin}
use Rattle.game.specs.Claims as claims
use Rattle.game.proofs.Settings.{not_not, not_self}
use Rattle.game.proofs.Claims.{verdicts_right, openings_win, turns_bounded, grants_suffice}
use Rattle.game.proofs.Strategies.{openings_decided}
use Rattle.valuation.specs.declared.Value.TheVariants.{Unknown}
use Rattle.valuation.specs.Three.{of_bool}
use Rattle.copying.specs.Settle.{fits}
use Rattle.question.proofs.Never.{impossible}
use Rattle.question.specs.Formula.{Formula, WellFormed}
use Rattle.search.specs.Queries.{Query}
use Rattle.search.specs.Answers.{Outcome, moves, loses, Answer, Keeps, ceiling}
use Rattle.runs.specs.declared.Desk.{Desk}
use Rattle.runs.specs.declared.Phase.TheVariants.{Playing, Lost}
use Rattle.runs.specs.declared.Refusal.{Refusal}
use Rattle.runs.specs.declared.Refusal.TheVariants.{Spent, Foreign, Full}
use Rattle.runs.specs.declared.Stub.{Stub}
use Rattle.runs.specs.State.{State, width}
use Rattle.runs.specs.Papers.{ticket_present, slip_present}
use Rattle.runs.specs.Turn.{query_of, answer_desk, reply_by, spent_by, turn_refusal}
use Rattle.runs.specs.Settle.{new_gates, universal_at, opening_at, verdict_of, concludes, full_at, settle_at, settle_refusal}
use Rattle.runs.specs.Calls.{Handed, same, others, handed, Call, turn, settle, top_up, step, run, Elsewhere, RightReply, asks, Fair, Fairly, Told, turns_of, verdicts_of, all_turns, all_verdicts, setting_at}
use Rattle.runs.specs.Law.{game_of, widest, most_turns, Fresh, All, HandsOver, RightVerdict, FairRuns}
use Rattle.runs.proofs.Ways.{all_append, not_own, turn_ways, settle_ways, top_ways}
use Rattle.runs.proofs.Shape.{Shaped, shaped_fresh, shaped_step, playing_since, lost_since}
use Rattle.runs.proofs.Levels.{size_is, owner_is, question_is}
use Rattle.runs.proofs.Linked.{Linked, linked_fresh, linked_step, some_blocks, owns, still_playing, now_lost, free_below, query_sound}

-- every accepted turn is counted
pub one_more : (o : Outcome) (need : ℕ) (d : Desk) → (answer_desk o need d).turns ≡ d.turns + 1
one_more (moves setting) need d = refl
one_more (loses core) need d = refl

same_turns : (d : ℕ) (s : State) → (settle_at d s).desk.turns ≡ s.desk.turns
same_turns zero s = refl
same_turns (suc zero) s = refl
same_turns (suc (suc d)) s = refl

counted_step : (c : Call) (s : State) → Fair c s → length (turns_of c s) + s.desk.turns ≡ (step c s).desk.turns
counted_step (turn p h r) s fair =
    elim (turn_ways p h r s fair) [
      | inl x ↦ omega (arith, ap length x.1, ap (λ s'. s'.desk.turns) x.0)
      | inr w ↦ omega (arith, ap length w.turned, ap (λ s'. s'.desk.turns) w.is, one_more w.answer.outcome w.answer.need s.desk)
    ]
counted_step (settle p h) s fair =
    elim (settle_ways p h s fair) [
      | inl x ↦ omega (arith, ap (λ s'. s'.desk.turns) x.0)
      | inr w ↦ omega (arith, ap (λ s'. s'.desk.turns) w.is, same_turns s.desk.depth s)
    ]
counted_step (top_up n) s fair =
    elim (top_ways n s) [
      | inl e ↦ omega (arith, ap (λ s'. s'.desk.turns) e)
      | inr e ↦ omega (arith, ap (λ s'. s'.desk.turns) e)
    ]

counted_run : (cs : List Call) (s : State) → Fairly cs s → length (all_turns cs s) + s.desk.turns ≡ (run cs s).desk.turns
unfolding all_turns
counted_run [] s fair = omega arith
counted_run (c ∷ cs) s fair = omega (arith, length-append (turns_of c s) (all_turns cs (step c s)), counted_step c s fair.0, counted_run cs (step c s) fair.1)

deep_enough : (d : ℕ) → concludes d ≡ true → d ≤ 1
deep_enough zero e = omega arith
deep_enough (suc zero) e = omega arith
deep_enough (suc (suc d)) e = absurd (false≢true e)

-- a settlement with own tables is refused only as full
full_or_not : (d : ℕ) (s : State) → (full_at d s ≡ None) ⊎ (full_at d s ≡ Some Full)
full_or_not zero s = inl refl
full_or_not (suc zero) s = inl refl
full_or_not (suc (suc d)) s = by (fits s.gates.entries s.gates.used (new_gates d s))
  where
    by : (b : Bool) → (◌≡◌ {A = Option Refusal} (cond b None (Some Full)) None) ⊎ (◌≡◌ {A = Option Refusal} (cond b None (Some Full)) (Some Full))
    by true = inl refl
    by false = inr refl

-- a turn with own tables only as spent
spent_or_not : (r : Option Answer) → (spent_by r ≡ None) ⊎ (spent_by r ≡ Some Spent)
spent_or_not None = inr refl
spent_or_not (Some a) = inl refl

-- nor as spent where the purse covers the ceiling
unspent : (b : Bool) (r : Option Answer) (q : Query) (purse : ℕ) → (b ≡ true → ceiling q.free ≤ purse) → (b ≡ true → RightReply q purse r) → cond b (spent_by r) (Some Foreign) ≢ Some Spent
unspent false r q purse enough right e = impossible (cc)
unspent true None q purse enough right e = omega (arith, enough refl, right refl)
unspent true (Some a) q purse enough right e = impossible (cc)

module _ (f : Formula) (well : WellFormed f) (s : State) (shape : Shaped f s) (link : Linked f s) where
  some : 0 < length (game_of f).sizes
  some = some_blocks f well s shape link

  turns_refused : (p : Stub) (r : Option Answer) → ticket_present s.desk p ≡ true → (turn_refusal p r s ≡ None) ⊎ (turn_refusal p r s ≡ Some Spent)
  turns_refused p r present =
      subst (λ b. (cond b (spent_by r) (Some Foreign) ≡ None) ⊎ (cond b (spent_by r) (Some Foreign) ≡ Some Spent)) (sym (and_from _ _ present (owns f well s shape link))) (spent_or_not r)

  pub settles_refused : (p : Stub) → slip_present s.desk p ≡ true → (settle_refusal p s ≡ None) ⊎ (settle_refusal p s ≡ Some Full)
  settles_refused p present =
      let full = full_at s.desk.depth s in
      subst (λ b. (cond b full (Some Foreign) ≡ None) ⊎ (cond b full (Some Foreign) ≡ Some Full)) (sym (and_from _ _ present (owns f well s shape link))) (full_or_not s.desk.depth s)

  -- with the grants of the bound the purse covers a turn
  pub covered : s.desk.phase ≡ Playing → most_turns f * ceiling (widest f.blocks) ≤ s.desk.grants → ceiling (query_of s).free ≤ s.desk.purse
  covered e granted =
      omega (
        arith,
        link.purse,
        free_below f well s shape link,
        grants_suffice (game_of f) some any (state_of (still_playing f well s shape link e)) refl (ceiling (widest f.blocks)) s.desk.steps link.most,
      )

  never_spent : (p : Stub) (h : Handed) (r : Option Answer) → (asks p (handed h s) ≡ true → RightReply (query_of (handed h s)) s.desk.purse r) →
      most_turns f * ceiling (widest f.blocks) ≤ s.desk.grants → turn_refusal p r (handed h s) ≢ Some Spent
  never_spent p same r right granted = unspent (asks p s) r (query_of s) s.desk.purse (λ y. covered (playing_since s.desk p (and_parts _ _ y).0) granted) right
  never_spent p (others g t) r right granted =
      unspent (asks p (handed (others g t) s)) r (query_of (handed (others g t) s)) s.desk.purse (λ y. covered (playing_since s.desk p (and_parts _ _ y).0) granted) right

  -- the bench's verdict
  abbrev ended : (e : s.desk.phase ≡ Lost) → s.desk.depth ≤ 1 → claims.Verdict (game_of f) any
  ended e low = record { state = state_of (verdict (now_lost f well s shape link e) low); word = not (owner (game_of f) s.desk.depth); said = refl }

  module _ (e : s.desk.phase ≡ Lost) (d : ℕ) (at : s.desk.depth ≡ d) (low : d ≤ 1) where
    ends : (not (owner (game_of f) d) ≡ value_at (game_of f) 0 []) × HasWin (game_of f) (not (owner (game_of f) d)) 0 []
    ends = subst (λ k. (not (owner (game_of f) k) ≡ value_at (game_of f) 0 []) × HasWin (game_of f) (not (owner (game_of f) k)) 0 []) at
        (verdicts_right (game_of f) some any (ended e (omega arith)))

    word_is : universal_at s.blocks d ≡ not (owner (game_of f) d)
    word_is = ap (λ bs. universal_at bs d) shape.blocks ∙ owner_is f d

  by_opening : s.desk.phase ≡ Lost → (d : ℕ) → s.desk.depth ≡ d → d ≤ 1 → HandsOver f (universal_at s.blocks d) (setting_at (opening_at s.blocks d) s.sheets.play.entries)
  by_opening e zero at low = λ own. not_self (game_of f).first (sym (word_is e zero at low) ∙ own)
  by_opening e (suc zero) at low = (
    word_is e 1 at low ∙ not_not (game_of f).first,
    record {
      bits = link.play;
      is = ap₂ take (ap (λ bs. width bs 0) shape.blocks) link.played ∙ take_at (map of_bool link.play) (replicate link.rest Unknown) (width f.blocks 0) (omega (arith, length-map link.play of_bool, wins.fits, size_is f 0));
      opening = wins;
      strategy = (openings_decided (game_of f) some link.play wins.fits).0 wins;
    },
  )
    where
      wins : Opening (game_of f) link.play
      wins = openings_win (game_of f) some any (state_of (now_lost f well s shape link e)) refl at
  by_opening e (suc (suc d)) at low = absurd (omega arith)

  right_verdict : s.desk.phase ≡ Lost → s.desk.depth ≤ 1 → RightVerdict f (record { verdict = verdict_of s; play = s.sheets.play.entries })
  right_verdict e low = record {
    word = word_is e s.desk.depth refl low ∙ (ends e s.desk.depth refl low).0 ∙ sym (question_is f well.some well.good.alternating);
    strategy = subst (λ w. HasWin (game_of f) w 0 []) (sym (word_is e s.desk.depth refl low)) (ends e s.desk.depth refl low).1;
    opening = by_opening e s.desk.depth refl low;
  }

  -- every verdict of a call is right
  said_right : (c : Call) → Fair c s → All (RightVerdict f) (verdicts_of c s)
  said_right (turn p h r) fair = tt
  said_right (settle p h) fair =
      elim (settle_ways p h s fair) [
        | inl x ↦ subst (All (RightVerdict f)) (sym x.1) tt
        | inr w ↦ subst (All (RightVerdict f)) (sym w.said)
            (cond_both (concludes s.desk.depth) _ [] (All (RightVerdict f)) (λ e. (right_verdict (lost_since s.desk p (and_parts _ _ w.present).0) (deep_enough s.desk.depth e), tt)) (λ e. tt))
      ]
  said_right (top_up n) fair = tt

  -- the replies of a meaning that keeps its promises are right
  pub replied : (m : Query → Answer) → Keeps m → s.desk.phase ≡ Playing → RightReply (query_of s) s.desk.purse (reply_by m s)
  replied m keeps e =
      let q = query_of s in
      let ok = query_sound f well s shape link e in
      cond_both (ltb s.desk.purse (m q).need) None (Some (m q)) (RightReply q s.desk.purse)
      (λ b. omega (arith, ltb-true s.desk.purse (m q).need b, keeps.bounded q ok))
      (λ b. (keeps.right q ok, keeps.some q ok, keeps.bounded q ok, ltb-false s.desk.purse (m q).need b))

module _ (f : Formula) (well : WellFormed f) where
  kept_run : (cs : List Call) (s : State) → Shaped f s → Linked f s → Fairly cs s → Shaped f (run cs s) × Linked f (run cs s)
  kept_run [] s shape link fair = (shape, link)
  kept_run (c ∷ cs) s shape link fair = kept_run cs (step c s) (shaped_step f well s c shape fair.0) (linked_step f well s shape link c fair.0) fair.1

  verdicts_run : (cs : List Call) (s : State) → Shaped f s → Linked f s → Fairly cs s → All (RightVerdict f) (all_verdicts cs s)
  unfolding all_verdicts
  verdicts_run [] s shape link fair = tt
  verdicts_run (c ∷ cs) s shape link fair =
      all_append (RightVerdict f) (verdicts_of c s) (all_verdicts cs (step c s)) (said_right f well s shape link c fair.0)
      (verdicts_run cs (step c s) (shaped_step f well s c shape fair.0) (linked_step f well s shape link c fair.0) fair.1)

  -- a run that is told by such a meaning is fair
  told_run : (m : Query → Answer) → Keeps m → (cs : List Call) (s : State) → Shaped f s → Linked f s → Told m cs s → Fairly cs s
  told_run m keeps [] s shape link told = tt
  told_run m keeps (turn p h r ∷ cs) s shape link told = (here, told_run m keeps cs (step (turn p h r) s) (shaped_step f well s (turn p h r) shape here) (linked_step f well s shape link (turn p h r) here) told.2)
    where
      here : Fair (turn p h r) s
      here = (told.0, right h told.0 told.1)
        where
          right : (h : Handed) → Elsewhere s.desk.stamp h → r ≡ reply_by m (handed h s) → asks p (handed h s) ≡ true → RightReply (query_of (handed h s)) s.desk.purse r
          right same else is y = subst (RightReply (query_of s) s.desk.purse) (sym is) (replied f well s shape link m keeps (playing_since s.desk p (and_parts _ _ y).0))
          right (others g t) else is y = absurd (false≢true (sym (not_own s g t else) ∙ (and_parts _ _ y).1))
  told_run m keeps (settle p h ∷ cs) s shape link told = (told.0, told_run m keeps cs (step (settle p h) s) (shaped_step f well s (settle p h) shape told.0) (linked_step f well s shape link (settle p h) told.0) told.1)
  told_run m keeps (top_up n ∷ cs) s shape link told = (tt, told_run m keeps cs (step (top_up n) s) (shaped_step f well s (top_up n) shape tt) (linked_step f well s shape link (top_up n) tt) told)

pub told_fairly : (f : Formula) → WellFormed f → (m : Query → Answer) → Keeps m → (s : State) → Fresh f s → (cs : List Call) → Told m cs s → Fairly cs s
told_fairly f well m keeps s fresh cs told = told_run f well m keeps cs s (shaped_fresh f well s fresh) (linked_fresh f well s fresh) told

no_turns : (f : Formula) (s : State) → Fresh f s → s.desk.turns ≡ 0
no_turns f s fresh = ap (λ s'. s'.desk.turns) fresh.is

pub fair_runs : FairRuns
fair_runs f well s fresh cs fair = record {
  counted = count;
  bounded = omega (arith, count, turns_bounded (game_of f) (some_blocks f well (run cs s) shape link) any (state_of link.reached));
  paid = never_spent f well (run cs s) shape link;
  turns = turns_refused f well (run cs s) shape link;
  settles = settles_refused f well (run cs s) shape link;
  verdicts = verdicts_run f well cs s (shaped_fresh f well s fresh) (linked_fresh f well s fresh) fair;
}
  where
    kept : Shaped f (run cs s) × Linked f (run cs s)
    kept = kept_run f well cs s (shaped_fresh f well s fresh) (linked_fresh f well s fresh) fair

    shape : Shaped f (run cs s)
    shape = kept.0

    link : Linked f (run cs s)
    link = kept.1

    count : length (all_turns cs s) ≡ (run cs s).desk.turns
    count = omega (arith, counted_run cs s fair, no_turns f s fresh)
