-- A tally of one line more. Assumes nothing.
use Rattle.std.proofs.Common.{◌≡◌, ℕ, ◌+◌, Bool, true, false, not, cond, List, [], ◌∷◌, ◌++◌, sym, ap, ◌∙◌, zero-add, arith}
use Rattle.std.specs.List.{count_by}
use Rattle.std.proofs.lemmas.List.{map-append}
use Rattle.std.proofs.lemmas.List.Sums.{sum_by-append}
use Rattle.std.proofs.lemmas.Fn.{FoldsTo-push}
use Rattle.vectors.specs.declared.Tally.{Tally}
use Rattle.vectors.specs.Tallies.{capped, more_if, Counts}

counted_more : (b : Bool) (n : ℕ) → more_if b (capped n) ≡ capped (n + cond b 1 0)
counted_more true n = omega arith
counted_more false n = omega arith

counted_push : {X : Type 0} (p : X → Bool) (xs : List X) (x : X) → more_if (p x) (capped (count_by p xs)) ≡ capped (count_by p (xs ++ x ∷ []))
counted_push p xs x = counted_more (p x) (count_by p xs) ∙ ap capped (ap (λ k. count_by p xs + k) (sym (zero-add _)) ∙ sym (sum_by-append _ xs (x ∷ [])))

pub one_more : {F X : Type 0} (Asks : F → X × Bool → F → Type 0) (first last next : F) (read : List X) (t u : Tally) (x : X) (b : Bool) → Counts Asks first last read t → Asks last (x, b) next →
    u.agree ≡ more_if b t.agree → u.differ ≡ more_if (not b) t.differ → Counts Asks first next (read ++ x ∷ []) u
one_more {X = X} Asks first last next read t u x b c asks a d =
    record {
      asked = c.asked ++ (x, b) ∷ [];
      each = map-append (λ (p : X × Bool). p.0) c.asked ((x, b) ∷ []) ∙ ap (λ xs. xs ++ x ∷ []) c.each;
      in_turn = FoldsTo-push Asks first c.asked last (x, b) next c.in_turn asks;
      agree = a ∙ ap (more_if b) c.agree ∙ counted_push (λ (p : X × Bool). p.1) c.asked (x, b);
      differ = d ∙ ap (more_if (not b)) c.differ ∙ counted_push (λ (p : X × Bool). not p.1) c.asked (x, b);
    }
