use Rattle.speedy_write.proofs.FixedLemmas.{values_wait}
use Rattle.speedy_write.proofs.buffering.BufferingCollectorWriter.put_fixed.Goals as goal

pub returns-clause-puts : goal.returns-clause-puts
returns-clause-puts g c =
    values_wait g.T.Layout.layout.laws g.T.Layout.seen c.args.values.now c.endianness.ensures c.add_values.ensures
