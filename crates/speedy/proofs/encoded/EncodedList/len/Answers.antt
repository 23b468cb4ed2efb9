use Rattle.std.proofs.Common.{sym}
use Rattle.speedy.specs.EncodedLists.{counted}
use Rattle.speedy.proofs.encoded.EncodedList.len.Goals as goal

pub returns-clause-items : goal.returns-clause-items
returns-clause-items g c =
    let list = c.args.self.now in
    sym (counted g.T.InPlace.in_place.codec list.order list.count list.bytes.now list.decoded)
