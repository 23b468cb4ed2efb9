use Rattle.speedy_read.proofs.WholeLemmas.{bytes_whole}
use Rattle.speedy_read.proofs.whole.read_bytewise.Goals as goal

pub returns : goal.returns
returns g c =
    let memory = g.met.R.MemoryReader.in_memory in
    bytes_whole _ g.T.OfLength.counting (λ n v b. c.requires _ n v b) (memory _) (memory _) c.left-length.ensures
    c.read_of_length.result c.read_of_length.ensures
