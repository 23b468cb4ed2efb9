use Rattle.std.proofs.Common.{refl}
use Rattle.speedy_write.proofs.CountLemmas.{whole_item_counted}
use Rattle.speedy_write.proofs.frames.write_counted_value.Goals as goal

pub returns-in-Some : goal.returns-in-Some
returns-in-Some g c = whole_item_counted g.T.Whole.whole.laws refl c.requires c.in-Some.ensures.counts
