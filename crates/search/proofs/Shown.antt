-- What an answer shows of itself under an allowance.
use Rattle.std.proofs.Common.{ℕ, ◌<◌, ◌≤◌, false, replicate, sym}
use Rattle.std.proofs.lemmas.Bool.{lt-ltb, le-ltb, cond-true, cond-false}
use Rattle.valuation.specs.declared.Value.TheVariants.{Unknown}
use Rattle.search.specs.declared.Reply.TheVariants.{Spent}
use Rattle.search.specs.Answers.{Answer, Answered, paid, setting_of, core_of}

pub spent : (a : Answer) (allowance nodes f : ℕ) → allowance < a.need → Answered a allowance nodes f (replicate f Unknown) (replicate nodes false) Spent
spent a allowance nodes f h =
    let t = lt-ltb allowance a.need h in
    record { reply = sym (cond-true _ _ _ t); set = sym (cond-true _ _ _ t); marked = sym (cond-true _ _ _ t) }

pub enough : (a : Answer) (allowance nodes f : ℕ) → a.need ≤ allowance → Answered a allowance nodes f (setting_of a.outcome f) (core_of a.outcome nodes) (paid a.outcome a.need)
enough a allowance nodes f h =
    let t = le-ltb allowance a.need h in
    record { reply = sym (cond-false _ _ _ t); set = sym (cond-false _ _ _ t); marked = sym (cond-false _ _ _ t) }
