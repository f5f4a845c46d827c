-- Replies, with the steps that came before them.
use Rattle.std.specs.Prelude.{ℕ, ◌+◌}
use Rattle.search.specs.declared.Reply.{Reply}
use Rattle.search.specs.declared.Reply.TheVariants.{Move, NoMove, Spent}

-- some steps more
abbrev pub later : ℕ → Reply → Reply
later steps (Move need) = Move (steps + need)
later steps (NoMove need) = NoMove (steps + need)
later steps Spent = Spent

-- the steps that a reply reports
abbrev pub steps_of : Reply → ℕ
steps_of (Move need) = need
steps_of (NoMove need) = need
steps_of Spent = 0
