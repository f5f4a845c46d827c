-- The front of a longer list, lent and put back. Assumes nothing.
use Rattle.std.proofs.Common.{◌≡◌, ℕ, ◌+◌, Bool, List, ◌++◌, length, take, drop, replicate, Some, None, Option, sym, ap, ◌∙◌, arith}
use Rattle.std.proofs.lemmas.List.{take-append-drop, take-replicate}
use Rattle.search.specs.Answers.{Outcome, moves, loses, Answer}
use Rattle.asking.specs.Asked.{Zero, marks_in, marks_over}
use Rattle.asking.proofs.Levels.{marks_by, marks_for}

-- the front of a list of zeros
pub front_zero : {X : Type 0} (zero : X) (n k : ℕ) (xs : List X) → Zero zero n xs → k ≡ n → take k xs ≡ replicate n zero
front_zero zero n k xs z e = ap (take k) z.all ∙ take-replicate k (length xs) zero (omega (arith, z.long)) ∙ ap (λ j. replicate j zero) e

-- a front that is as it was
pub same_front : {X : Type 0} (k : ℕ) (xs ys : List X) → ys ≡ take k xs → ys ++ drop k xs ≡ xs
same_front k xs ys e = ap (λ zs. zs ++ drop k xs) e ∙ take-append-drop k xs

-- marks at the front
pub marks_front : (r : Option Answer) (k : ℕ) (marks ms : List Bool) → ms ≡ marks_for r (take k marks) → length ms ≡ k → ms ++ drop k marks ≡ marks_over r marks
marks_front None k marks ms e l = same_front k marks ms e
marks_front (Some a) k marks ms e l = by a.outcome e
  where
    by : (o : Outcome) → ms ≡ marks_by o (take k marks) → ms ++ drop k marks ≡ marks_in o marks
    by (moves s) h = same_front k marks ms h
    by (loses core) h = ap (λ xs. xs ++ drop k marks) h ∙ ap (λ j. core ++ drop j marks) (let f : k ≡ 0 + length core = omega (arith, ap length h) in f)

-- a front of zeros that was written and is zero again
pub zero_front : {X : Type 0} (zero : X) (n k : ℕ) (xs zs : List X) → Zero zero n xs → k ≡ n → zs ≡ replicate n zero → zs ++ drop k xs ≡ xs
zero_front zero n k xs zs z e f = same_front k xs zs (f ∙ sym (front_zero zero n k xs z e))
