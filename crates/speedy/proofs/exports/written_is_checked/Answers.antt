use Rattle.speedy.proofs.ExportWriteLemmas.{written_is_checked}
use Rattle.speedy.proofs.exports.written_is_checked.Goals as goal

pub returns : goal.returns
returns g c = written_is_checked
