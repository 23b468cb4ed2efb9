use Rattle.speedy_protocol.proofs.MessageKinds.{any_frame, any_frame_wrong, any_frame_whole}
use Rattle.speedy_protocol.proofs.RefusalLemmas.{refused_why}
use Rattle.speedy_protocol.proofs.frames.skip.Goals as goal

pub returns-in-Err-clause-refused : goal.returns-in-Err-clause-refused
returns-in-Err-clause-refused c =
    let read = rw c.in-Err.is at c.read_with_length-outcome.ensures in
    refused_why 2 any_frame any_frame_wrong (c.no_encoding_is_below_least.ensures _) (any_frame_whole _) read
