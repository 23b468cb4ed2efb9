use Rattle.speedy.proofs.ExportWriteLemmas.{read_is_written}
use Rattle.speedy.proofs.exports.read_is_written.Goals as goal

pub returns : goal.returns
returns g c = read_is_written
