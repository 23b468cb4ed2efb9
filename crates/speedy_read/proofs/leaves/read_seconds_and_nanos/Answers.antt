use Rattle.std.proofs.Common.{take, drop, sym, ap, ◌++◌, ◌∙◌, arith}
use Rattle.std.proofs.lemmas.List.{take-append-drop, take_all, length-drop}
use Rattle.speedy_read.proofs.NumberLemmas.{two_refused, two_read}
use Rattle.speedy_read.proofs.leaves.read_seconds_and_nanos.Goals as goal

pub returns-in_err-read_bytes : goal.returns-in_err-read_bytes
returns-in_err-read_bytes g c = two_refused 8 4 c.from_residual.ensures.1 c.in_err-read_bytes.ensures

pub returns : goal.returns
returns g c =
    let bytes = c.read_bytes.new.output in
    let suffix = take_all 4 (drop 8 bytes) (omega (arith, length-drop 8 bytes, c.read_bytes.auto.output)) in
    two_read (take 8 bytes) (take 4 (drop 8 bytes)) c.in_ok-read_bytes.ensures c.endianness-order.ensures
    (sym (ap (λ l. take 8 bytes ++ l) suffix ∙ take-append-drop 8 bytes)) c.read_u64.ensures c.read_u32.ensures
