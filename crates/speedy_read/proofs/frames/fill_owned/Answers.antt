use Rattle.std.proofs.Common.{rules}
use Rattle.speedy_read.proofs.FrameLemmas.{filled}
use Rattle.speedy_read.proofs.frames.fill_owned.Goals as goal

pub returns-clause-fills : goal.returns-clause-fills
returns-clause-fills g c =
    rw (← c.new-reader.ensures.rest, ← c.new-reader.ensures.context)
    (filled g.met.C.Context.keeps_eof (search rules) _ _ c.unless_ended.ensures c.read_owned_whole-read.ensures)
