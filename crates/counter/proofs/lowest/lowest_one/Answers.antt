use Rattle.std.proofs.Common.{◌-◌, inl, inr, arith}
use Rattle.counting.proofs.Lowest.{one_byte, none_left}
use Rattle.counter.proofs.lowest.lowest_one.Goals as goal

pub returns-then-place-lt8 : goal.returns-then-place-lt8
returns-then-place-lt8 c =
    elim (one_byte c.loop-base.base c.loop-base.rest c.lowest_in_byte-place.result (omega arith) c.lowest_in_byte-place.ensures) [ inl p ↦ omega arith | inr p ↦ omega arith ]

pub loop-base-preserved : goal.loop-base-preserved
loop-base-preserved c = (
  omega arith,
  omega arith,
  elim (one_byte c.loop-base.base c.loop-base.rest c.lowest_in_byte-place.result (omega arith) c.lowest_in_byte-place.ensures) [ inl p ↦ omega arith | inr p ↦ omega arith ],
)

pub returns : goal.returns
returns c = omega (arith, none_left (64 - c.loop-base.base) c.loop-base.rest (omega arith))
