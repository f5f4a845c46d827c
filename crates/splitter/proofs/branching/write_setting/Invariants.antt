use Rattle.std.proofs.Common.{◌≡◌, map, take}
use Rattle.splitting.specs.Steps.{settled}
use Rattle.splitter.proofs.branching.write_setting.Given as goal

-- the entries so far are written
abbrev pub invariant-loop-place : goal.invariant-loop-place
invariant-loop-place l = take l.place l.range ≡ map settled (take l.place l.settings)
