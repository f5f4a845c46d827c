-- The law over runs: runs that are told by meanings are fair, and with equal meanings they agree.
use Rattle.std.proofs.Common.{◌≡◌, Bool, true, false, cond, ltb, List, [], ◌∷◌, Some, None, Option, sym, ap, ◌∙◌}
use Rattle.std.proofs.lemmas.Bool.{cond_both}
use Rattle.question.proofs.Never.{impossible}
use Rattle.search.specs.Queries.{Query}
use Rattle.search.specs.Answers.{Answer}
use Rattle.runs.specs.declared.Stub.{Stub}
use Rattle.runs.specs.State.{State}
use Rattle.runs.specs.Turn.{query_of, reply_by, turn_refusal}
use Rattle.runs.specs.Calls.{Handed, handed, Call, turn, settle, top_up, step, Fairly, Told, accepted, Turned, turn_of, all_turns}
use Rattle.runs.specs.Law.{All, Agreeing, RunLaw}
use Rattle.runs.proofs.Ways.{all_append}
use Rattle.runs.proofs.Sounds.{fair_runs, told_fairly}
use Rattle.runs.proofs.Alike.{agreeing_runs}

-- a turn with a meaning's answer
abbrev By : (Query → Answer) → Turned → Type 0
By m x = x.answer ≡ m x.query

-- the answer of a reply that is there
replies : (b : Bool) (a a' : Answer) → Some a ≡ cond b None (Some a') → a ≡ a'
replies true a a' e = impossible (cc)
replies false a a' e = cc

module _ (m : Query → Answer) where
  by_turn : (p : Stub) (h : Handed) (r : Option Answer) (s : State) → r ≡ reply_by m (handed h s) → All (By m) (turn_of p h r s)
  by_turn p h None s e = tt
  by_turn p h (Some a) s e =
      cond_both (accepted (turn_refusal p (Some a) (handed h s))) _ [] (All (By m)) (λ _. (replies (ltb (handed h s).desk.purse (m (query_of (handed h s))).need) a (m (query_of (handed h s))) e, tt)) (λ _. tt)

  -- every accepted turn of a run that is told by a meaning has its answer
  by_meaning : (cs : List Call) (s : State) → Told m cs s → All (By m) (all_turns cs s)
  unfolding all_turns
  by_meaning [] s told = tt
  by_meaning (turn p h r ∷ cs) s told = all_append (By m) (turn_of p h r s) (all_turns cs (step (turn p h r) s)) (by_turn p h r s told.1) (by_meaning cs (step (turn p h r) s) told.2)
  by_meaning (settle p h ∷ cs) s told = by_meaning cs (step (settle p h) s) told.1
  by_meaning (top_up n ∷ cs) s told = by_meaning cs (step (top_up n) s) told

-- turns with the answers of equal meanings agree
agree : (m₁ m₂ : Query → Answer) → ((q : Query) → m₁ q ≡ m₂ q) → (xs ys : List Turned) → All (By m₁) xs → All (By m₂) ys → Agreeing xs ys
agree m₁ m₂ same [] ys h i = tt
agree m₁ m₂ same (x ∷ xs) ys h i = (each ys i, agree m₁ m₂ same xs ys h.1 i)
  where
    each : (zs : List Turned) → All (By m₂) zs → All (λ z. x.query ≡ z.query → x.answer ≡ z.answer) zs
    each [] i = tt
    each (z ∷ zs) i = (λ e. h.0 ∙ same x.query ∙ ap m₂ e ∙ sym i.0, each zs i.1)

pub run_law : RunLaw
run_law f well m₁ m₂ keeps₁ keeps₂ s₁ s₂ fresh₁ fresh₂ cs₁ cs₂ told₁ told₂ = record {
  first = fair_runs f well s₁ fresh₁ cs₁ fair₁;
  second = fair_runs f well s₂ fresh₂ cs₂ fair₂;
  alike = λ same. agreeing_runs f well s₁ s₂ fresh₁ fresh₂ cs₁ cs₂ fair₁ fair₂ (agree m₁ m₂ same (all_turns cs₁ s₁) (all_turns cs₂ s₂) (by_meaning m₁ cs₁ s₁ told₁) (by_meaning m₂ cs₂ s₂ told₂));
}
  where
    fair₁ : Fairly cs₁ s₁
    fair₁ = told_fairly f well m₁ keeps₁ s₁ fresh₁ cs₁ told₁

    fair₂ : Fairly cs₂ s₂
    fair₂ = told_fairly f well m₂ keeps₂ s₂ fresh₂ cs₂ told₂
