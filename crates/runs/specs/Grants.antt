-- A top-up.
use Rattle.std.specs.Prelude.{ℕ, ◌+◌, cond, Some, None, Option, nat_le}
use Rattle.runs.specs.declared.Desk.{Desk}
use Rattle.runs.specs.declared.Refusal.{Refusal}
use Rattle.runs.specs.declared.Refusal.TheVariants.{Grants}
use Rattle.runs.specs.Refusals.{unless}

-- refused where the sum of all grants would pass 2^64 - 1
abbrev pub top_refusal : ℕ → Desk → Option Refusal
top_refusal amount d = cond (nat_le (d.grants + amount) 18446744073709551615) None (Some Grants)

-- the numbers with a grant more
abbrev pub granted : ℕ → Desk → Desk
granted amount d =
    record {
      stamp = d.stamp;
      phase = d.phase;
      depth = d.depth;
      gates = d.gates;
      roots = d.roots;
      turns = d.turns;
      settlements = d.settlements;
      purse = d.purse + amount;
      steps = d.steps;
      grants = d.grants + amount;
    }

-- a bench's numbers after a top-up
abbrev pub topped : ℕ → Desk → Desk
topped amount d = unless (top_refusal amount d) d (granted amount d)
