-- What a list holds once its memory is back. Assumes nothing.
use Rattle.std.proofs.Common.{◌≡◌, ℕ, ◌+◌, ◌-◌, ◌≤◌, List, ◌++◌, length, take, drop, replicate, sym, ap, ◌∙◌, ap₂, arith}
use Rattle.std.proofs.lemmas.List.{drop-drop, replicate-append-replicate, take-replicate}

-- entries of which those from a place on were cleared, where they were clear from another on
pub cleared : {X : Type 0} (x : X) (xs ys : List X) (from used : ℕ) → from ≤ used → used ≤ length xs → drop used xs ≡ replicate (length xs - used) x → ys ≡ replicate (used - from) x →
    take from xs ++ (ys ++ drop (used - from) (drop from xs)) ≡ take from xs ++ replicate (length xs - from) x
cleared x xs ys from used low high e f =
    ap (λ zs. take from xs ++ zs)
    (ap₂ (λ zs ws. zs ++ ws) f (drop-drop (used - from) from xs ∙ ap (λ k. drop k xs) (let s : from + (used - from) ≡ used = omega arith in s) ∙ e)
    ∙ replicate-append-replicate (used - from) (length xs - used) x ∙ ap (λ k. replicate k x) (let s : used - from + (length xs - used) ≡ length xs - from = omega arith in s))

-- a part of the entries that are clear
pub clear_part : {X : Type 0} (x : X) (xs ys : List X) (set below free n : ℕ) → drop set xs ≡ replicate (n - set) x → ys ≡ xs → set ≡ below → below + free ≤ n → take free (drop below ys) ≡ replicate free x
clear_part x xs ys set below free n e s at fits =
    ap (λ zs. take free (drop below zs)) s ∙ ap (λ k. take free (drop k xs)) (sym at) ∙ ap (take free) e ∙ take-replicate free (n - set) x (omega arith)
