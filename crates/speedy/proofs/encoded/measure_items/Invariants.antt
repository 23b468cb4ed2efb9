use Rattle.std.proofs.Common.{◌≡◌, List, length}
use Rattle.speedy_layout.specs.Format.{Each}
use Rattle.speedy_read.specs.Buffers.{bytes_state}
use Rattle.speedy_read.specs.ReadingLemmas.{ReadSoFar}
use Rattle.speedy.proofs.encoded.measure_items.Given as goal

-- the first items were read
abbrev pub invariant-loop-i : goal.invariant-loop-i
invariant-loop-i g l =
    let mode = g.C.Context.mode l.fn.context in
    (items : List g.T.Layout.Seen) × (length items ≡ l._i)
    × ReadSoFar (Each (g.T.Layout.layout.format mode).encodes items) (bytes_state l.fn.bytes mode)
    (bytes_state l.reader.rest.now (g.C.Context.mode l.reader.context))
