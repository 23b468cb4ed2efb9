use Rattle.std.proofs.Common.{take, drop, Ok}
use Rattle.speedy_base.specs.Mode.{plain_mode}
use Rattle.speedy_layout.specs.Format.{Each}
use Rattle.speedy_write.specs.Writing.{WritesEach}
use Rattle.speedy.proofs.encoded.write_items.Given as goal

-- the first items are written, and the bytes that are left encode the others
abbrev pub invariant-loop-i : goal.invariant-loop-i
invariant-loop-i g l =
    let W = g.W.Writer in
    let items = l.fn.list.decoded.0 in
    let format = g.T.InPlace.in_place.codec.format in
    WritesEach g.C.Error.From.from_gives format (λ v. v) (take l._i items) (Ok tt) (W.state l.fn.writer)
    (W.state l.writer) (λ b. W.appends l.fn.writer b l.writer)
    × ∥ Each (format (plain_mode l.fn.list.order)).encodes (drop l._i items) l.rest ∥₁
