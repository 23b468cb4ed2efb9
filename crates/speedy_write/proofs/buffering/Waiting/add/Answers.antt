use Rattle.std.proofs.Common.{◌∙◌, ◌++◌, ◌+◌, ◌-◌, length, take, drop, ap, arith}
use Rattle.std.proofs.lemmas.List.{drop-append-le, length-take-le}
use Rattle.std.proofs.lemmas.Slice.{take-put_mid}
use Rattle.speedy_write.proofs.buffering.Waiting.add.Goals as goal

pub returns : goal.returns
returns c =
    let w = c.args.self.now in
    let slice = c.args.slice.now in
    let put = c.copy_from_slice.new.self in
    let end = w.end + length slice in
    let same = c.copy_from_slice.ensures.after in
    ap (drop w.start)
    (take-put_mid w.end (end - w.end) w.room.now put end (omega (arith, ap length same)) w.within
    ∙ ap (λ l. take w.end w.room.now ++ l) same)
    ∙ drop-append-le w.start (take w.end w.room.now) slice
    (omega (arith, length-take-le w.end w.room.now w.within, w.ordered))
