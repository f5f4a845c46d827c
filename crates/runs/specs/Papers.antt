-- Papers: a ticket or a slip is present if its numbers and its kind agree with the bench.
use Rattle.std.specs.Prelude.{ℕ, Bool, true, false, ◌&&◌, ◌==◌}
use Rattle.runs.specs.declared.Phase.{Phase}
use Rattle.runs.specs.declared.Phase.TheVariants.{Playing, Lost, Over}
use Rattle.runs.specs.declared.Desk.{Desk}
use Rattle.runs.specs.declared.Stub.{Stub}

-- what the present paper carries
abbrev pub stub_of : Desk → Stub
stub_of d = record { stamp = d.stamp; turns = d.turns; settlements = d.settlements }

-- whether a paper carries these numbers
abbrev pub carries : Desk → Stub → Bool
carries d p = p.stamp == d.stamp && p.turns == d.turns && p.settlements == d.settlements

abbrev pub is_playing : Phase → Bool
is_playing Playing = true
is_playing Lost = false
is_playing Over = false

abbrev pub is_lost : Phase → Bool
is_lost Playing = false
is_lost Lost = true
is_lost Over = false

abbrev pub is_over : Phase → Bool
is_over Playing = false
is_over Lost = false
is_over Over = true

-- whether a ticket is the present paper
abbrev pub ticket_present : Desk → Stub → Bool
ticket_present d p = is_playing d.phase && carries d p

-- whether a slip is the present paper
abbrev pub slip_present : Desk → Stub → Bool
slip_present d p = is_lost d.phase && carries d p

-- how many settlements are due
abbrev pub owed : Phase → ℕ
owed Playing = 0
owed Lost = 1
owed Over = 0
