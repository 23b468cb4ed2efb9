use Rattle.speedy_read.specs.ReadingLemmas.{ends_input}
use Rattle.speedy_read.proofs.StreamLemmas.{fill_ended}
use Rattle.speedy_read.proofs.stream_reader.StreamReader.fill.Goals as goal

pub returns-in-Ok-false : goal.returns-in-Ok-false
returns-in-Ok-false g c =
    fill_ended c.in-Ok-false.field-0-test c.in-Ok-false.ensures
    (ends_input g.met.C.Context.keeps_eof c.error_end_of_input.ensures)
