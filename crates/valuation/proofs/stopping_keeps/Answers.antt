use Rattle.valuation.proofs.Computed.{stopping_keeps}
use Rattle.valuation.proofs.stopping_keeps.Goals as goal

pub returns : goal.returns
returns c = stopping_keeps
