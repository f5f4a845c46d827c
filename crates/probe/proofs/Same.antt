-- Lists of one value. Assumes nothing.
use Rattle.std.proofs.Common.{◌≡◌, ℕ, ◌<◌, List, length, get_or, replicate, sym, ◌∙◌}
use Rattle.std.proofs.lemmas.List.{ext_get_or, length-replicate, get_or-replicate}

pub all_same : {X : Type 0} (d : X) (xs : List X) → ((k : ℕ) → k < length xs → get_or xs k d ≡ d) → xs ≡ replicate (length xs) d
all_same d xs each =
    ext_get_or d xs (replicate (length xs) d) (sym (length-replicate (length xs) d)) (λ k lt. each k lt ∙ sym (get_or-replicate (length xs) k d d lt))
