use Rattle.std.proofs.Common.{take, Ok}
use Rattle.speedy_layout.specs.Until.{entry_codec}
use Rattle.speedy_write.specs.Writing.{WritesEach}
use Rattle.speedy_write.proofs.until.write_entries.Given as goal

-- the first entries are written
abbrev pub invariant-loop-entry : goal.invariant-loop-entry
invariant-loop-entry g l =
    let W = g.W.Writer in
    WritesEach g.C.Error.From.from_gives (entry_codec g.N.Prefix.numbers.codec g.row.MARK g.T.Layout.layout).format
    (λ it. (it.0, g.T.Layout.seen it.1)) (take l.entry-index l.entries) (Ok tt) (W.state l.fn.writer)
    (W.state l.writer) (λ b. W.appends l.fn.writer b l.writer)
