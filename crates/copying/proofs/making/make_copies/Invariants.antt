use Rattle.copies.specs.Make.{make}
use Rattle.copying.specs.Gates.{part_in, olds}
use Rattle.copying.specs.Places.{shown}
use Rattle.copying.specs.Guard.{Grown}
use Rattle.copying.proofs.Passed.{Passed}
use Rattle.copying.proofs.making.make_copies.Given as goal

-- the places so far are made
abbrev pub invariant-loop-number : goal.invariant-loop-number
invariant-loop-number l =
    Grown l.initial.making l.making (make l.initial.making.first (olds l.initial.making) (part_in l.lost.bounds l.lost.play.now) (shown l.initial.copies) l.number).gates ×
    Passed l.initial.making.first (olds l.initial.making) (part_in l.lost.bounds l.lost.play.now) (shown l.initial.copies) l.number l.copies
