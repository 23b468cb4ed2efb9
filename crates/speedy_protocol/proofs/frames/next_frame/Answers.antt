use Rattle.std.proofs.Common.{sym, ◌∙◌, arith}
use Rattle.std.proofs.lemmas.List.{map-id}
use Rattle.speedy_protocol.proofs.NextFrameLemmas.{ended, byte_refused, number_refused, past_limit, frame_refused}
use Rattle.speedy_protocol.proofs.NextFrameLemmas.{frame_taken}
use Rattle.speedy_protocol.proofs.frames.next_frame.Goals as goal

pub returns-in-UnexpectedEndOfInput-clause-next : goal.returns-in-UnexpectedEndOfInput-clause-next
returns-in-UnexpectedEndOfInput-clause-next g c =
    ended (sym c.get_error_kind.ensures ∙ c.in-UnexpectedEndOfInput.is) c.in-Err.ensures

pub returns-in_default : goal.returns-in_default
returns-in_default g c = record { next = tt; refused = byte_refused 1024 c.in-Err.ensures }

pub returns-in-Err-peek_u16-clause-refused : goal.returns-in-Err-peek_u16-clause-refused
returns-in-Err-peek_u16-clause-refused g c = number_refused c.in-Ok.ensures 1024 c.in-Err-peek_u16.ensures

pub returns-then-length-gt-LIMIT-clause-refused : goal.returns-then-length-gt-LIMIT-clause-refused
returns-then-length-gt-LIMIT-clause-refused g c =
    past_limit c.in-Ok.ensures c.in-Ok-peek_u16.ensures 1024 c.if-length-gt-LIMIT.true c.custom.ensures

pub returns-in-Ok-read_vec-clause-next : goal.returns-in-Ok-read_vec-clause-next
returns-in-Ok-read_vec-clause-next g c =
    let within = c.if-length-gt-LIMIT.false in
    rw (map-id c.in-Ok-read_vec.frame.items)
    at (frame_taken c.in-Ok.ensures c.in-Ok-peek_u16.ensures 1024 (omega arith) c.in-Ok-read_vec.ensures.reads)

pub returns-in-Err-read_vec-clause-refused : goal.returns-in-Err-read_vec-clause-refused
returns-in-Err-read_vec-clause-refused g c =
    frame_refused c.in-Ok.ensures c.in-Ok-peek_u16.ensures 1024 c.in-Err-read_vec.ensures.reads
