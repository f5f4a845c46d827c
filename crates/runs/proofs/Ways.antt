-- The ways that a call may go: refused, with nothing changed, or accepted.
use Rattle.std.proofs.Common.{◌≡◌, ℕ, ◌≤◌, true, false, cond, ◌&&◌, ltb, ◌⊎◌, List, [], ◌∷◌, ◌++◌, length, Some, None, Option, refl, ap, ◌∙◌, inl, inr}
use Rattle.std.proofs.lemmas.Bool.{cases_Bool, cond-true, cond-false, and_right, le-ltb}
use Rattle.question.specs.Blocks.{total}
use Rattle.search.specs.Queries.{Query}
use Rattle.search.specs.Answers.{Answer}
use Rattle.runs.specs.declared.Desk.{Desk}
use Rattle.runs.specs.declared.Stub.{Stub}
use Rattle.runs.specs.declared.Refusal.{Refusal}
use Rattle.runs.specs.declared.Refusal.TheVariants.{Spent, Foreign}
use Rattle.runs.specs.Refusals.{unless}
use Rattle.runs.specs.State.{GateSheet, Sheets, State, in_shape, roomy, own}
use Rattle.runs.specs.Papers.{ticket_present, slip_present}
use Rattle.runs.specs.Turn.{query_of, reply_by, turn_refusal, after_reply, after_answer, spent_by}
use Rattle.runs.specs.Settle.{full_at, settle_refusal, settle_at, concludes, verdict_of}
use Rattle.runs.specs.Grants.{top_refusal, granted}
use Rattle.runs.specs.Calls.{Handed, same, others, turn, settle, top_up, handed, returned, step, Elsewhere, RightReply, asks, Fair, accepted, turn_of, Said, verdicts_of}
use Rattle.runs.specs.Law.{All}

cases_option : {X : Type 0} (o : Option X) → (o ≡ None) ⊎ ((x : X) × (o ≡ Some x))
cases_option None = inl refl
cases_option (Some x) = inr (x, refl)

-- a fact of all elements of two lists
pub all_append : {X : Type 0} (P : X → Type 0) (xs ys : List X) → All P xs → All P ys → All P (xs ++ ys)
all_append P [] ys h i = i
all_append P (x ∷ xs) ys h i = (h.0, all_append P xs ys h.1 i)

-- tables of another stamp are not own
pub not_own : (s : State) (g : GateSheet) (t : Sheets) → Elsewhere s.desk.stamp (others g t) → own (handed (others g t) s) ≡ false
not_own s g t e = ap (λ b. b && in_shape s.blocks s.desk g t && roomy (total s.blocks) (length g.entries) t) e

-- a meaning's reply where the purse covers the need
pub reply_paid : (m : Query → Answer) (s : State) → (m (query_of s)).need ≤ s.desk.purse → reply_by m s ≡ Some (m (query_of s))
reply_paid m s h = cond-false (ltb s.desk.purse (m (query_of s)).need) None (Some (m (query_of s))) (le-ltb s.desk.purse (m (query_of s)).need h)

-- an accepted turn, and what it did
pub record Went (p : Stub) (h : Handed) (r : Option Answer) (s : State) : Type 0 where
  pub answer : Answer
  pub asked : asks p s ≡ true
  pub right : RightReply (query_of s) s.desk.purse (Some answer)
  pub is : step (turn p h r) s ≡ after_answer answer s
  pub turned : turn_of p h r s ≡ record { query = query_of s; answer = answer; after = after_answer answer s } ∷ []

-- an accepted turn does so
pub accepted_turn : (p : Stub) (a : Answer) (s : State) → asks p s ≡ true → (step (turn p same (Some a)) s ≡ after_answer a s) × (turn_of p same (Some a) s ≡ record { query = query_of s; answer = a; after = after_answer a s } ∷ [])
accepted_turn p a s y =
    let e : turn_refusal p (Some a) s ≡ None = cond-true _ None (Some Foreign) y in
    let i : step (turn p same (Some a)) s ≡ after_answer a s = ap (λ x. unless x s (after_answer a s)) e in
    (i, ap (λ x. cond (accepted x) (record { query = query_of s; answer = a; after = step (turn p same (Some a)) s } ∷ []) []) e ∙ ap (λ x. record { query = query_of s; answer = a; after = x } ∷ []) i)

-- how a refused turn leaves the bench, and its accepted turns
pub refused_turn : (p : Stub) (h : Handed) (r : Option Answer) (s : State) (why : Refusal) → turn_refusal p r (handed h s) ≡ Some why → (step (turn p h r) s ≡ s) × (turn_of p h r s ≡ [])
refused_turn p same None s why e = (ap (λ x. unless x s (after_reply None s)) e, refl)
refused_turn p same (Some a) s why e = (ap (λ x. unless x s (after_reply (Some a) s)) e, ap (λ x. cond (accepted x) (record { query = query_of s; answer = a; after = step (turn p same (Some a)) s } ∷ []) []) e)
refused_turn p (others g t) None s why e = (ap (λ x. returned (others g t) s (unless x (handed (others g t) s) (after_reply None (handed (others g t) s)))) e, refl)
refused_turn p (others g t) (Some a) s why e = (
  ap (λ x. returned (others g t) s (unless x (handed (others g t) s) (after_reply (Some a) (handed (others g t) s)))) e,
  ap (λ x. cond (accepted x) (record { query = query_of (handed (others g t) s); answer = a; after = step (turn p (others g t) (Some a)) s } ∷ []) []) e,
)

pub turn_ways : (p : Stub) (h : Handed) (r : Option Answer) (s : State) → Fair (turn p h r) s → ((step (turn p h r) s ≡ s) × (turn_of p h r s ≡ [])) ⊎ Went p h r s
turn_ways p (others g t) r s fair = inl (refused_turn p (others g t) r s Foreign (cond-false _ (spent_by r) (Some Foreign) (and_right (ticket_present s.desk p) _ (not_own s g t fair.0))))
turn_ways p same None s fair =
    inl (elim (cases_Bool (asks p s)) [
      | inl y ↦ refused_turn p same None s Spent (cond-true _ (Some Spent) (Some Foreign) y)
      | inr n ↦ refused_turn p same None s Foreign (cond-false _ (Some Spent) (Some Foreign) n)
    ])
turn_ways p same (Some a) s fair =
    elim (cases_Bool (asks p s)) [
      | inl y ↦ inr (record { answer = a; asked = y; right = fair.1 y; is = (accepted_turn p a s y).0; turned = (accepted_turn p a s y).1 })
      | inr n ↦ inl (refused_turn p same (Some a) s Foreign (cond-false _ None (Some Foreign) n))
    ]

-- the verdict of an accepted settlement, if its depth gives one
abbrev pub said_at : ℕ → State → List Said
said_at n s = cond (concludes n) (record { verdict = verdict_of s; play = s.sheets.play.entries } ∷ []) []

-- a settlement that is not refused
pub accepted_settle : (p : Stub) (s : State) → settle_refusal p s ≡ None → (step (settle p same) s ≡ settle_at s.desk.depth s) × (verdicts_of (settle p same) s ≡ said_at s.desk.depth s)
accepted_settle p s e = (
  ap (λ x. unless x s (settle_at s.desk.depth s)) e,
  ap (λ x. cond (accepted x && concludes s.desk.depth) (record { verdict = verdict_of s; play = s.sheets.play.entries } ∷ []) []) e,
)

-- an accepted settlement, and what it did
pub record Closed (p : Stub) (h : Handed) (s : State) : Type 0 where
  pub present : slip_present s.desk p && own s ≡ true
  pub fits : full_at s.desk.depth s ≡ None
  pub is : step (settle p h) s ≡ settle_at s.desk.depth s
  pub said : verdicts_of (settle p h) s ≡ said_at s.desk.depth s

pub refused_settle : (p : Stub) (h : Handed) (s : State) (why : Refusal) → settle_refusal p (handed h s) ≡ Some why → (step (settle p h) s ≡ s) × (verdicts_of (settle p h) s ≡ [])
refused_settle p same s why e =
    (ap (λ x. unless x s (settle_at s.desk.depth s)) e, ap (λ x. cond (accepted x && concludes s.desk.depth) (record { verdict = verdict_of s; play = s.sheets.play.entries } ∷ []) []) e)
refused_settle p (others g t) s why e = (
  ap (λ x. returned (others g t) s (unless x (handed (others g t) s) (settle_at s.desk.depth (handed (others g t) s)))) e,
  ap (λ x. cond (accepted x && concludes s.desk.depth) (record { verdict = verdict_of (handed (others g t) s); play = t.play.entries } ∷ []) []) e,
)

pub settle_ways : (p : Stub) (h : Handed) (s : State) → Fair (settle p h) s → ((step (settle p h) s ≡ s) × (verdicts_of (settle p h) s ≡ [])) ⊎ Closed p h s
settle_ways p (others g t) s fair =
    inl (refused_settle p (others g t) s Foreign (cond-false _ (full_at s.desk.depth (handed (others g t) s)) (Some Foreign) (and_right (slip_present s.desk p) _ (not_own s g t fair))))
settle_ways p same s fair =
    elim (cases_Bool (slip_present s.desk p && own s)) [
      | inr n ↦ inl (refused_settle p same s Foreign (cond-false _ (full_at s.desk.depth s) (Some Foreign) n))
      | inl y ↦
          let e = cond-true (slip_present s.desk p && own s) (full_at s.desk.depth s) (Some Foreign) y in
          elim (cases_option (full_at s.desk.depth s)) [
            | inr w ↦ inl (refused_settle p same s w.0 (e ∙ w.1))
            | inl none ↦ inr (record { present = y; fits = none; is = (accepted_settle p s (e ∙ none)).0; said = (accepted_settle p s (e ∙ none)).1 })
          ]
    ]

-- a bench with other numbers
abbrev pub with_desk : State → Desk → State
with_desk s d = record { blocks = s.blocks; count = s.count; output = s.output; desk = d; gates = s.gates; sheets = s.sheets }

-- a top_up: nothing, or more in the purse
pub top_ways : (n : ℕ) (s : State) → (step (top_up n) s ≡ s) ⊎ (step (top_up n) s ≡ with_desk s (granted n s.desk))
top_ways n s = by (top_refusal n s.desk)
  where
    by : (o : Option Refusal) → (with_desk s (unless o s.desk (granted n s.desk)) ≡ s) ⊎ (with_desk s (unless o s.desk (granted n s.desk)) ≡ with_desk s (granted n s.desk))
    by None = inr refl
    by (Some why) = inl refl
