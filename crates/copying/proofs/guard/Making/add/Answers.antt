use Rattle.std.proofs.Common.{◌+◌, ◌<◌, length, sym, refl, ◌∙◌, arith}
use Rattle.std.proofs.lemmas.List.{map-set}
use Rattle.std.proofs.lemmas.Bool.{leb-false}
use Rattle.circuit.proofs.Records.{length_pairs}
use Rattle.circuit.specs.Gates.{pair, pairs}
use Rattle.copying.proofs.Entries.{written_one}
use Rattle.copying.proofs.guard.Making.add.Goals as goal

pub returns : goal.returns
returns c =
    let m = c.args.self.now in
    let at = m.used + m.made in
    let free : at < length m.gates.now = leb-false _ _ (sym c.is_full.ensures ∙ c.if-is_full.false) in (
      record {
        first_is = refl;
        used_is = refl;
        made_is = refl;
        name_is = refl;
        gates_are = map-set pair m.gates.now at c.args.gate ∙ written_one (pairs m.gates.now) at (pair c.args.gate) (omega (arith, length_pairs m.gates.now));
        room = omega arith;
      },
      c.new.ensures ∙ omega arith,
    )
