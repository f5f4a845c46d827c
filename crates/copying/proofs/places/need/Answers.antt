use Rattle.std.proofs.Common.{ap, ◌∙◌}
use Rattle.copying.specs.Places.{shown}
use Rattle.copying.proofs.Held.{shown_put}
use Rattle.copying.proofs.places.need.Goals as goal

pub returns : goal.returns
returns c = ap shown c.put_copy.ensures ∙ shown_put c.args.copies.now c.args.place.code c.plain.result c.requires
