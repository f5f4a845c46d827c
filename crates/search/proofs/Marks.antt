-- Marks by node.
use Rattle.std.proofs.Common.{◌≡◌, ℕ, ◌<◌, Bool, true, false, List, length, get_or, sym, ◌∙◌, inl, inr}
use Rattle.std.proofs.lemmas.List.{get_or_past}
use Rattle.std.proofs.lemmas.Bool.{cases_lt, false≢true}

-- a mark that is on stands in the list
pub on_inside : (marks : List Bool) (n : ℕ) → get_or marks n false ≡ true → n < length marks
on_inside marks n h =
    elim (cases_lt n (length marks)) [
      | inl l ↦ l
      | inr l ↦ absurd (false≢true (sym (get_or_past marks n false l) ∙ h))
    ]
