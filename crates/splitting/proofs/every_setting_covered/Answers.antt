use Rattle.splitting.proofs.Covers.{every_setting_covered}
use Rattle.splitting.proofs.every_setting_covered.Goals as goal

pub returns : goal.returns
returns c = every_setting_covered
