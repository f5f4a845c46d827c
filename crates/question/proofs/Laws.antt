-- When a load accepts and when it refuses. Assumes nothing.
use Rattle.std.proofs.Common.{◌≡◌, ℕ, true, false, ltb, List, length, Ok, Err, Result, sym, refl, ap, ◌∙◌, subst, inl, inr}
use Rattle.std.proofs.lemmas.Bool.{ltb-false, le-ltb, or_parts, or_from, cases_Bool, cond-true, cond-false}
use Rattle.valuation.specs.Circuit.{Pair}
use Rattle.circuit.specs.declared.Gate.{Gate}
use Rattle.question.specs.declared.records.Refusal.{Refusal}
use Rattle.question.specs.declared.records.Refusal.TheVariants.{TableSize}
use Rattle.question.specs.Formula.{Formula, WellFormed, Encodes, encode}
use Rattle.question.specs.Judging.{judgement, Breaks, Right}
use Rattle.question.specs.Loading.{Loaded, accepted, refused, cells, unfit, loaded_as, loaded, Room, Faulty, AcceptedExactly, RefusedExactly, OneEncoding}
use Rattle.question.proofs.Reading.{accepts, refuses}

-- the test of a table's size
roomy : (f : Formula) (entries : ℕ) → unfit (length f.gates) entries ≡ false → Room f entries
roomy f entries h = let p = or_parts (ltb entries (length f.gates)) (ltb 8000 entries) h in (ltb-false _ _ p.0, ltb-false _ _ p.1)

fits : (f : Formula) (entries : ℕ) → Room f entries → unfit (length f.gates) entries ≡ false
fits f entries r = or_from _ _ (le-ltb entries (length f.gates) r.0) (le-ltb 8000 entries r.1)

cramped : (f : Formula) (entries : ℕ) → unfit (length f.gates) entries ≡ true → Room f entries → ⊥
cramped f entries h r = let z : true ≡ false = sym h ∙ fits f entries r in absurd (cc)

tight : (f : Formula) (entries : ℕ) → (Room f entries → ⊥) → unfit (length f.gates) entries ≡ true
tight f entries never = elim (cases_Bool (unfit (length f.gates) entries)) [ inl small ↦ small | inr large ↦ absurd (never (roomy f entries large)) ]

module _ (bytes : List ℕ) (table : List Gate) where
  accepted_by : (g f : Formula) (after : List Pair) → WellFormed g × Encodes g bytes → unfit (length g.gates) (length table) ≡ false → accepted g (cells g (length table)) ≡ accepted f after →
      WellFormed f × Encodes f bytes × Room f (length table) × (after ≡ cells f (length table))
  accepted_by g f after r fit e =
      let same : g ≡ f = cc in
      let held : after ≡ cells f (length table) = cc in
      (subst WellFormed same r.0, subst (λ x. Encodes x bytes) same r.1, subst (λ x. Room x (length table)) same (roomy g (length table) fit), held)

  accepted_from : (j : Result Formula Refusal) → Right bytes j → (f : Formula) (after : List Pair) → loaded_as j table ≡ accepted f after →
      WellFormed f × Encodes f bytes × Room f (length table) × (after ≡ cells f (length table))
  accepted_from (Err why) r f after h = absurd (cc)
  accepted_from (Ok g) r f after h =
      elim (cases_Bool (unfit (length g.gates) (length table))) [
        | inl small ↦
            let e : refused TableSize table ≡ accepted f after = sym (cond-true _ (refused TableSize table) (accepted g (cells g (length table))) small) ∙ h in
            absurd (cc)
        | inr large ↦ accepted_by g f after r large (sym (cond-false _ (refused TableSize table) (accepted g (cells g (length table))) large) ∙ h)
      ]

  refused_from : (j : Result Formula Refusal) → Right bytes j → (why : Refusal) (after : List Gate) → loaded_as j table ≡ refused why after →
      (after ≡ table) × Faulty bytes (length table) why
  refused_from (Err e) r why after h =
      let same : e ≡ why = cc in
      let held : after ≡ table = cc in
      (held, inl (subst (Breaks bytes) same r))
  refused_from (Ok g) r why after h =
      elim (cases_Bool (unfit (length g.gates) (length table))) [
        | inl small ↦
            let e : refused TableSize table ≡ refused why after = sym (cond-true _ (refused TableSize table) (accepted g (cells g (length table))) small) ∙ h in
            let held : after ≡ table = cc in
            let same : why ≡ TableSize = cc in
            (held, inr (same, (g, r.0, r.1, cramped g (length table) small)))
        | inr large ↦
            let e : accepted g (cells g (length table)) ≡ refused why after = sym (cond-false _ (refused TableSize table) (accepted g (cells g (length table))) large) ∙ h in
            absurd (cc)
      ]

  refused_by : (why : Refusal) → Faulty bytes (length table) why → loaded bytes table ≡ refused why table
  refused_by why (inl breaks) = ap (λ j. loaded_as j table) (refuses bytes why breaks)
  refused_by why (inr (same, (f, well, encoded, never))) =
      ap (λ j. loaded_as j table) (accepts f bytes well encoded) ∙ cond-true _ (refused TableSize table) (accepted f (cells f (length table))) (tight f (length table) never) ∙ ap (λ w. refused w table) (sym same)

  module _ (out : Loaded) (right : Right bytes (judgement bytes)) (is : out ≡ loaded bytes table) where
    pub accepted_exactly : AcceptedExactly bytes table out
    accepted_exactly f after = (
      λ h. accepted_from (judgement bytes) right f after (sym is ∙ h),
      λ w.
          is ∙ ap (λ j. loaded_as j table) (accepts f bytes w.0 w.1) ∙ cond-false _ (refused TableSize table) (accepted f (cells f (length table))) (fits f (length table) w.2) ∙ ap (accepted f) (sym w.3),
    )

    pub refused_exactly : RefusedExactly bytes table out
    refused_exactly why after = (λ h. refused_from (judgement bytes) right why after (sym is ∙ h), λ w. is ∙ refused_by why w.1 ∙ ap (refused why) (sym w.0))

pub one_encoding : OneEncoding
one_encoding f g wf wg same = let a = accepts f (encode f) wf refl in let b = accepts g (encode f) wg same in cc
