use Rattle.std.proofs.Common.{refl}
use Rattle.speedy_layout.specs.Lengths.{told_codec}
use Rattle.speedy_read.specs.Sequences.{refused_first, refused_second, got_both}
use Rattle.speedy.proofs.ToldFrameLemmas.{with_frame_composes}
use Rattle.speedy.proofs.told_frames.WithFrameReadFrom.read_from.Goals as goal

pub returns-in_err-before : goal.returns-in_err-before
returns-in_err-before g c =
    let K = g.K.Length in
    let B = g.B.Holds in
    refused_first (with_frame_composes K.is_told K.told B.numbers K.field B.layout g.T.Whole.whole _)
    c.from_residual.ensures.1 c.in_err-before.ensures.reads

pub returns-in_err-value : goal.returns-in_err-value
returns-in_err-value g c =
    let K = g.K.Length in
    let B = g.B.Holds in
    let first = c.in_ok-before.ensures.reads in
    let second = rw first.kept.mode at c.in_err-value.ensures in
    refused_second (with_frame_composes K.is_told K.told B.numbers K.field B.layout g.T.Whole.whole _)
    ((told_codec K.is_told B.numbers B.layout).laws _) first
    c.from_residual-in_err-value.ensures.1 (rw c.in_ok-before.ensures.length at second)

pub returns : goal.returns
returns g c =
    let K = g.K.Length in
    let B = g.B.Holds in
    let first = c.in_ok-before.ensures.reads in
    let second = rw first.kept.mode at c.in_ok-value.ensures in
    got_both (with_frame_composes K.is_told K.told B.numbers K.field B.layout g.T.Whole.whole _) first
    (rw c.in_ok-before.ensures.length at second) refl
