use Rattle.std.proofs.Common.{sym, ◌∙◌}
use Rattle.speedy_read.proofs.StreamLemmas.{succeeded, filled_peeked, fill_not_peeked}
use Rattle.speedy_read.proofs.stream_reader.StreamReaderLendingReaderRefSliceU8.peek_bytes.Goals as goal

pub returns-clause-peeks : goal.returns-clause-peeks
returns-clause-peeks g c =
    let source = g.S.Source.source in
    let same = succeeded c.reserve.result (sym c.if-is_err.ensures.value) c.reserve.ensures.bytes in
    filled_peeked (source c.args.self.now.source.now) (source c.fill.new.self.source.now) c.args.self.now.ring same
    c.in_ok-fill.ensures (c.copy_from_slice.ensures.after ∙ c.as_slices_of_length.ensures.bytes)

pub returns-in_err-fill-clause-peeks : goal.returns-in_err-fill-clause-peeks
returns-in_err-fill-clause-peeks g c =
    let source = g.S.Source.source in
    let same = succeeded c.reserve.result (sym c.if-is_err.ensures.value) c.reserve.ensures.bytes in
    fill_not_peeked (source c.args.self.now.source.now) (source c.fill.new.self.source.now) c.args.self.now.ring same
    c.from_residual.ensures.1
    c.in_err-fill.ensures
