use Rattle.speedy_write.proofs.buffering.BufferingCollector.write_past.Goals as goal

pub returns : goal.returns
returns g c = c.write_past.ensures _ _
