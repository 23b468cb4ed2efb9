use Rattle.speedy_write.proofs.CountLemmas.{items_counted_if}
use Rattle.speedy_write.proofs.each.count_short.Goals as goal

pub returns-clause-counts : goal.returns-clause-counts
returns-clause-counts g c =
    items_counted_if _ g.W.Writer.state g.W.Writer.appends _ c.args.writer.now _ g.T.Layout.seen c.args.values.now
    g.T.Layout.layout.laws (c.in_ok-size_of_short.ensures.counts _) _ c.count_bytes.ensures.counts
