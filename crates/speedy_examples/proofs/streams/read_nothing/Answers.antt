use Rattle.speedy_examples.proofs.StreamLemmas.{nothing_taken}
use Rattle.speedy_examples.proofs.streams.read_nothing.Goals as goal

pub returns : goal.returns
returns g c = nothing_taken c.read_from_stream_buffered.result c.read_from_stream_buffered.ensures
