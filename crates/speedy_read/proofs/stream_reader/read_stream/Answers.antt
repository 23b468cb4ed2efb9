use Rattle.std.proofs.Common.{arith}
use Rattle.speedy_read.proofs.StreamLemmas.{view_name, stream_answered}
use Rattle.speedy_read.proofs.stream_reader.read_stream.Goals as goal

pub returns : goal.returns
returns g c =
    let made = c.over-reader.ensures in
    let fixed = c.read_from-value.ensures.kept.fixed in
    let same_name = view_name c.over-reader.result made in
    let given_name = c.into_source.ensures.same_source in
    let given = c.into_source.ensures.source in
    stream_answered g.S.Source.source g.C.Context.mode g.T.Layout.layout.format c.over-reader.result
    c.read_from-value.new.reader made c.in-Ok.ensures.made (grind arith) c.read_from-value.ensures
