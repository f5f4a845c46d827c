-- The place of the lowest one bit.
use Rattle.std.specs.Prelude.{ℕ, zero, suc, ◌/◌, ◌%◌, cond, ◌==◌}

-- among w bits, counted from the bottom; w where there is none
unfoldable pub lowest : ℕ → ℕ → ℕ
lowest zero x = 0
lowest (suc w) x = cond (x % 2 == 1) 0 (suc (lowest w (x / 2)))
