-- Two runs whose replies agree on equal queries go alike: along both, equal gists give equal queries, answers and gists after them.
use Rattle.std.proofs.Common.{◌≡◌, ℕ, zero, suc, Bool, true, false, ◌⊎◌, List, [], ◌∷◌, ◌++◌, take, Option, sym, refl, ap, ◌∙◌, subst, inl, inr}
use Rattle.std.proofs.lemmas.Bool.{and_parts, both_ways}
use Rattle.question.proofs.Never.{impossible}
use Rattle.question.specs.Blocks.{total}
use Rattle.question.specs.Formula.{Formula, WellFormed}
use Rattle.search.specs.Answers.{Answer}
use Rattle.runs.specs.declared.Phase.{Phase}
use Rattle.runs.specs.declared.Phase.TheVariants.{Playing, Lost, Over}
use Rattle.runs.specs.declared.Stub.{Stub}
use Rattle.runs.specs.State.{State}
use Rattle.runs.specs.Turn.{query_of, after_answer}
use Rattle.runs.specs.Settle.{concludes, settle_at, verdict_of}
use Rattle.runs.specs.Calls.{Handed, Call, turn, settle, top_up, step, Fairly, Turned, Said, verdicts_of, all_turns, all_verdicts, setting_at}
use Rattle.runs.specs.Law.{All, Abreast, SameTurn, SameVerdict, Agreeing, AgreeingRuns}
use Rattle.runs.proofs.Ways.{all_append, Went, Closed, said_at, turn_ways, settle_ways}
use Rattle.runs.proofs.Shape.{Shaped, shaped_fresh, shaped_step, playing_since, lost_since}
use Rattle.runs.proofs.Gist.{Gist, gist, asked, answered, back, start, verdict_in, setting_in, query_gist, gist_answer, gist_back, gist_top, setting_gist, gist_fresh}

-- the gist of the next accepted turn, by that after the last one: after a loss it is settled
abbrev ready_at : Phase → ℕ → Gist → Gist
ready_at Playing n c = c
ready_at Lost zero c = c
ready_at Lost (suc zero) c = c
ready_at Lost (suc (suc d)) c = back d c
ready_at Over n c = c

abbrev ready : Gist → Gist
ready c = ready_at c.phase c.depth c

-- whether no accepted turn follows: a loss at level 1 or 2
abbrev ended_at : Phase → ℕ → Bool
ended_at Playing n = false
ended_at Lost n = concludes n
ended_at Over n = false

abbrev ended : Gist → Bool
ended c = ended_at c.phase c.depth

-- the gist after the next accepted turn
abbrev next : Answer → Gist → Gist
next a c = answered a.outcome a.need (ready c)

-- accepted turns one after the other, from a gist on
abbrev Replay : Formula → Gist → List Turned → Type 0
Replay f c [] = Unit {0}
Replay f c (x ∷ xs) = (ended c ≡ false) × (x.query ≡ asked (ready c)) × (gist x.after ≡ next x.answer c) × (x.after.blocks ≡ f.blocks) × Replay f (next x.answer c) xs

-- the gist after them
abbrev last : Gist → List Turned → Gist
last c [] = c
last c (x ∷ xs) = last (next x.answer c) xs

-- A bench since the last accepted turn: as it was, settled, or over.
abbrev Due : Gist → Gist → Type 0
Due c k = (k ≡ c) ⊎ (((d : ℕ) × (c.phase ≡ Lost) × (c.depth ≡ suc (suc d)) × (k ≡ back d c)) ⊎ (k.phase ≡ Over))

-- while it plays, it is ready for the next
due_playing : (c k : Gist) → Due c k → k.phase ≡ Playing → (k ≡ ready c) × (ended c ≡ false)
due_playing c k (inl e) h =
    let p : c.phase ≡ Playing = ap (λ x. x.phase) (sym e) ∙ h in
    (e ∙ sym (ap (λ x. ready_at x c.depth c) p), ap (λ x. ended_at x c.depth) p)
due_playing c k (inr (inl (d, l, n, e))) h =
    (e ∙ sym (ap (λ m. ready_at Lost m c) n) ∙ sym (ap (λ x. ready_at x c.depth c) l), ap (λ x. ended_at x c.depth) l ∙ ap concludes n)
due_playing c k (inr (inr o)) h = impossible (cc)

-- while it has lost, it is as it was
due_lost : (c k : Gist) → Due c k → k.phase ≡ Lost → k ≡ c
due_lost c k (inl e) h = e
due_lost c k (inr (inl (d, l, n, e))) h = let p : k.phase ≡ Playing = ap (λ x. x.phase) e in impossible (cc)
due_lost c k (inr (inr o)) h = impossible (cc)

-- after the end no turn is replayed
last_ended : (f : Formula) (c : Gist) (xs : List Turned) → Replay f c xs → ended c ≡ true → last c xs ≡ c
last_ended f c [] r h = refl
last_ended f c (x ∷ xs) r h = absurd (both_ways (ended c) r.0 h)

-- a verdict of a gist
abbrev Says : Gist → Said → Type 0
Says c x = (ended c ≡ true) × (x.verdict ≡ verdict_in c) × (setting_at x.verdict.opening x.play ≡ setting_in c)

-- verdicts of a gist from which turns are replayed
says_last : (f : Formula) (c : Gist) (ts : List Turned) → Replay f c ts → (xs : List Said) → All (Says c) xs → All (Says (last c ts)) xs
says_last f c ts r [] h = tt
says_last f c ts r (x ∷ xs) h = (subst (λ k. Says k x) (sym (last_ended f c ts r h.0.0)) h.0, says_last f c ts r xs h.1)

-- one run
module _ (f : Formula) (well : WellFormed f) where
  -- a settlement
  settle_due : (c : Gist) (s : State) → Shaped f s → gist s ≡ c → s.desk.phase ≡ Lost → (n : ℕ) → s.desk.depth ≡ n → Due c (gist (settle_at n s))
  settle_due c s shape e l zero n = inr (inr refl)
  settle_due c s shape e l (suc zero) n = inr (inr refl)
  settle_due c s shape e l (suc (suc d)) n = inr (inl (d, ap (λ x. x.phase) (sym e) ∙ l, ap (λ x. x.depth) (sym e) ∙ n, gist_back f s shape d l ∙ ap (back d) e))

  module _ (c : Gist) (s : State) (shape : Shaped f s) (due : Due c (gist s)) (p : Stub) (h : Handed) where
    closed_lost : Closed p h s → s.desk.phase ≡ Lost
    closed_lost w = lost_since s.desk p (and_parts _ _ w.present).0

    due_settle : ((step (settle p h) s ≡ s) × (verdicts_of (settle p h) s ≡ [])) ⊎ Closed p h s → Due c (gist (step (settle p h) s))
    due_settle (inl stay) = subst (λ x. Due c (gist x)) (sym stay.0) due
    due_settle (inr w) = subst (λ x. Due c (gist x)) (sym w.is) (settle_due c s shape (due_lost c (gist s) due (closed_lost w)) (closed_lost w) s.desk.depth refl)

    -- an accepted turn
    went : (r : Option Answer) (w : Went p h r s) → (ended c ≡ false) × (query_of s ≡ asked (ready c)) × (gist (after_answer w.answer s) ≡ next w.answer c)
    went r w =
        let k = due_playing c (gist s) due (playing_since s.desk p (and_parts _ _ w.asked).0) in
        (k.1, query_gist s ∙ ap asked k.0, gist_answer f s shape w.answer.outcome w.answer.need w.right.0 ∙ ap (answered w.answer.outcome w.answer.need) k.0)

    -- a verdict
    told : Closed p h s → concludes s.desk.depth ≡ true → Says c (record { verdict = verdict_of s; play = s.sheets.play.entries })
    told w h =
        let l = closed_lost w in
        let e : gist s ≡ c = due_lost c (gist s) due l in
        (ap ended (sym e) ∙ ap (λ x. ended_at x s.desk.depth) l ∙ h, ap verdict_in e, setting_gist s ∙ ap setting_in e)

    says : Closed p h s → (n : ℕ) → s.desk.depth ≡ n → All (Says c) (said_at n s)
    says w zero n = (told w (ap concludes n), tt)
    says w (suc zero) n = (told w (ap concludes n), tt)
    says w (suc (suc d)) n = tt

  -- its accepted turns are replayed
  replayed : (cs : List Call) (s : State) (c : Gist) → Shaped f s → Fairly cs s → Due c (gist s) → Replay f c (all_turns cs s)
  unfolding all_turns
  replayed [] s c shape fair due = tt
  replayed (turn p h r ∷ cs) s c shape fair due =
      let s' = step (turn p h r) s in
      let shape' : Shaped f s' = shaped_step f well s (turn p h r) shape fair.0 in
      elim (turn_ways p h r s fair.0) [
        | inl stay ↦ subst (λ ts. Replay f c (ts ++ all_turns cs s')) (sym stay.1) (replayed cs s' c shape' fair.1 (subst (λ x. Due c (gist x)) (sym stay.0) due))
        | inr w ↦
            let k = went c s shape due p h r w in
            subst (λ ts. Replay f c (ts ++ all_turns cs s')) (sym w.turned)
            (k.0, k.1, k.2, shape.blocks, replayed cs s' (next w.answer c) shape' fair.1 (inl (ap gist w.is ∙ k.2)))
      ]
  replayed (settle p h ∷ cs) s c shape fair due =
      replayed cs (step (settle p h) s) c (shaped_step f well s (settle p h) shape fair.0) fair.1 (due_settle c s shape due p h (settle_ways p h s fair.0))
  replayed (top_up n ∷ cs) s c shape fair due = replayed cs (step (top_up n) s) c (shaped_step f well s (top_up n) shape fair.0) fair.1 (subst (Due c) (sym (gist_top n s)) due)

  -- its verdicts are of the gist after them
  verdicts_say : (cs : List Call) (s : State) (c : Gist) → Shaped f s → Fairly cs s → Due c (gist s) → All (Says (last c (all_turns cs s))) (all_verdicts cs s)
  unfolding all_turns all_verdicts
  verdicts_say [] s c shape fair due = tt
  verdicts_say (turn p h r ∷ cs) s c shape fair due =
      let s' = step (turn p h r) s in
      let shape' : Shaped f s' = shaped_step f well s (turn p h r) shape fair.0 in
      elim (turn_ways p h r s fair.0) [
        | inl stay ↦ subst (λ ts. All (Says (last c (ts ++ all_turns cs s'))) (all_verdicts cs s')) (sym stay.1) (verdicts_say cs s' c shape' fair.1 (subst (λ x. Due c (gist x)) (sym stay.0) due))
        | inr w ↦ subst (λ ts. All (Says (last c (ts ++ all_turns cs s'))) (all_verdicts cs s')) (sym w.turned)
            (verdicts_say cs s' (next w.answer c) shape' fair.1 (inl (ap gist w.is ∙ (went c s shape due p h r w).2)))
      ]
  verdicts_say (settle p h ∷ cs) s c shape fair due =
      let s' = step (settle p h) s in
      let shape' : Shaped f s' = shaped_step f well s (settle p h) shape fair.0 in
      let due' = due_settle c s shape due p h (settle_ways p h s fair.0) in
      let rest : All (Says (last c (all_turns cs s'))) (all_verdicts cs s') = verdicts_say cs s' c shape' fair.1 due' in
      elim (settle_ways p h s fair.0) [
        | inl stay ↦ subst (λ vs. All (Says (last c (all_turns cs s'))) (vs ++ all_verdicts cs s')) (sym stay.1) rest
        | inr w ↦ subst (λ vs. All (Says (last c (all_turns cs s'))) (vs ++ all_verdicts cs s')) (sym w.said)
            (all_append (Says (last c (all_turns cs s'))) (said_at s.desk.depth s) (all_verdicts cs s') (says_last f c (all_turns cs s') (replayed cs s' c shape' fair.1 due') (said_at s.desk.depth s) (says c s shape due p h w s.desk.depth refl)) rest)
      ]
  verdicts_say (top_up n ∷ cs) s c shape fair due = verdicts_say cs (step (top_up n) s) c (shaped_step f well s (top_up n) shape fair.0) fair.1 (subst (Due c) (sym (gist_top n s)) due)

-- two lists of accepted turns, from one gist on
module _ (f : Formula) where
  -- the first two agree on the query, so they agree
  same_next : (c : Gist) (x y : Turned) (xs ys : List Turned) → Replay f c (x ∷ xs) → Replay f c (y ∷ ys) → Agreeing (x ∷ xs) (y ∷ ys) → x.answer ≡ y.answer
  same_next c x y xs ys r q agree = agree.0.0 (r.1 ∙ sym q.1)

  rest_agree : (x y : Turned) (xs ys : List Turned) → Agreeing (x ∷ xs) (y ∷ ys) → Agreeing xs ys
  rest_agree x y xs ys agree = drop_first xs agree.1
    where
      drop_first : (zs : List Turned) → All (λ z. All (λ v. z.query ≡ v.query → z.answer ≡ v.answer) (y ∷ ys)) zs → Agreeing zs ys
      drop_first [] h = tt
      drop_first (z ∷ zs) h = (h.0.1, drop_first zs h.1)

  same_turns : (c : Gist) (xs ys : List Turned) → Replay f c xs → Replay f c ys → Agreeing xs ys → Abreast (SameTurn f) xs ys
  same_turns c [] ys r q agree = tt
  same_turns c (x ∷ xs) [] r q agree = tt
  same_turns c (x ∷ xs) (y ∷ ys) r q agree =
      let a = same_next c x y xs ys r q agree in
      let g : gist x.after ≡ gist y.after = r.2 ∙ ap (λ z. next z c) a ∙ sym q.2 in (
        record {
          play = ap (λ bs. take (total bs) x.after.sheets.play.entries) (sym r.3) ∙ ap (λ z. z.play) g ∙ ap (λ bs. take (total bs) y.after.sheets.play.entries) q.3;
          gates = ap (λ z. z.gates) g;
        },
        same_turns (next x.answer c) xs ys r.4 (subst (λ z. Replay f (next z c) ys) (sym a) q.4) (rest_agree x y xs ys agree),
      )

  same_last : (c : Gist) (xs ys : List Turned) → Replay f c xs → Replay f c ys → Agreeing xs ys → ended (last c xs) ≡ true → ended (last c ys) ≡ true → last c xs ≡ last c ys
  same_last c [] [] r q agree e g = refl
  same_last c [] (y ∷ ys) r q agree e g = absurd (both_ways (ended c) q.0 e)
  same_last c (x ∷ xs) [] r q agree e g = absurd (both_ways (ended c) r.0 g)
  same_last c (x ∷ xs) (y ∷ ys) r q agree e g =
      let a = same_next c x y xs ys r q agree in
      same_last (next x.answer c) xs ys r.4 (subst (λ z. Replay f (next z c) ys) (sym a) q.4) (rest_agree x y xs ys agree) e (subst (λ z. ended (last (next z c) ys) ≡ true) (sym a) g)
      ∙ ap (λ z. last (next z c) ys) a

-- verdicts of gists that are equal where both have ended
same_verdicts : (c k : Gist) → (ended c ≡ true → ended k ≡ true → c ≡ k) → (xs ys : List Said) → All (Says c) xs → All (Says k) ys → All (λ x. All (SameVerdict x) ys) xs
same_verdicts c k same [] ys h i = tt
same_verdicts c k same (x ∷ xs) ys h i = (each ys i, same_verdicts c k same xs ys h.1 i)
  where
    each : (zs : List Said) → All (Says k) zs → All (SameVerdict x) zs
    each [] i = tt
    each (z ∷ zs) i =
        let e = same h.0.0 i.0.0 in
        (record { verdict = h.0.1 ∙ ap verdict_in e ∙ sym i.0.1; setting = h.0.2 ∙ ap setting_in e ∙ sym i.0.2 }, each zs i.1)

pub agreeing_runs : AgreeingRuns
agreeing_runs f well s₁ s₂ fresh₁ fresh₂ cs₁ cs₂ fair₁ fair₂ agree =
    let shape₁ = shaped_fresh f well s₁ fresh₁ in
    let shape₂ = shaped_fresh f well s₂ fresh₂ in
    let due₁ : Due (start f) (gist s₁) = inl (gist_fresh f s₁ fresh₁) in
    let due₂ : Due (start f) (gist s₂) = inl (gist_fresh f s₂ fresh₂) in
    let r₁ = replayed f well cs₁ s₁ (start f) shape₁ fair₁ due₁ in
    let r₂ = replayed f well cs₂ s₂ (start f) shape₂ fair₂ due₂ in
    record {
      turns = same_turns f (start f) (all_turns cs₁ s₁) (all_turns cs₂ s₂) r₁ r₂ agree;
      verdicts = same_verdicts (last (start f) (all_turns cs₁ s₁)) (last (start f) (all_turns cs₂ s₂)) (same_last f (start f) (all_turns cs₁ s₁) (all_turns cs₂ s₂) r₁ r₂ agree)
          (all_verdicts cs₁ s₁) (all_verdicts cs₂ s₂) (verdicts_say f well cs₁ s₁ (start f) shape₁ fair₁ due₁) (verdicts_say f well cs₂ s₂ (start f) shape₂ fair₂ due₂);
    }
