use Rattle.std.proofs.Common.{◌∙◌, ◌++◌, ap, sym}
use Rattle.speedy_protocol.proofs.MessageKinds.{framed, framed_wrong, framed_whole}
use Rattle.speedy_protocol.proofs.RefusalLemmas.{prefix_read, refused_why}
use Rattle.speedy_protocol.proofs.frames.decode.Goals as goal

pub returns-in-Ok-clause-message : goal.returns-in-Ok-clause-message
returns-in-Ok-clause-message c =
    let read = prefix_read _ _ (rw c.in-Ok.is at c.read_with_length-outcome.ensures).value in
    (read.0, read.1, read.2 ∙ ap (λ rest. read.0 ++ rest) (sym c.split_at.ensures.back))

pub returns-in-Err-clause-refused : goal.returns-in-Err-clause-refused
returns-in-Err-clause-refused c =
    let read = rw c.in-Err.is at c.read_with_length-outcome.ensures in
    refused_why 2 framed framed_wrong (c.no_encoding_is_below_least.ensures _) (framed_whole _) read
