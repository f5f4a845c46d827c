use Rattle.std.proofs.Common.{length, sym, subst}
use Rattle.search.specs.Queries.{Query, Sound}
use Rattle.search.specs.Asking.{asked}
use Rattle.halving.proofs.Under.{put_back, tail_length, asked_under, under_sound}
use Rattle.halver.proofs.half.Goals as goal

pub query-reply-requires-clause-sound : goal.query-reply-requires-clause-sound
query-reply-requires-clause-sound g c =
    let q : Query = asked c.args.ask c.args.forced.now (length c.args.range.now) in
    subst Sound (sym (asked_under q c.args.first c.from-value.result _ c.from-value.ensures (tail_length c.args.range.now))) (under_sound q c.requires.sound c.requires.some c.args.first)

pub returns-in-Move-clause-put_back : goal.returns-in-Move-clause-put_back
returns-in-Move-clause-put_back g c =
    put_back (asked c.args.ask c.args.forced.now (length c.args.range.now)) c.requires.sound c.requires.some c.args.first c.query-reply.new.forced c.from-value.result c.in-Move.ensures.put_back

pub returns-in_default-clause-put_back : goal.returns-in_default-clause-put_back
returns-in_default-clause-put_back g c =
    put_back (asked c.args.ask c.args.forced.now (length c.args.range.now)) c.requires.sound c.requires.some c.args.first c.query-reply.new.forced c.from-value.result c.query-reply.ensures.put_back
