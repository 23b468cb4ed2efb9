use Rattle.speedy_read.proofs.StreamLemmas.{filled_read}
use Rattle.speedy_read.proofs.stream_reader.StreamReader.read_more.Goals as goal

pub returns : goal.returns
returns g c =
    let source = g.S.Source.source in
    filled_read (source c.args.self.now.source.now) (source c.fill.new.self.source.now) c.requires
    c.in_ok-fill.ensures c.consume_into.ensures.output c.consume_into.ensures.rest
