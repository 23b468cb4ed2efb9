use Rattle.std.proofs.Common.{refl, sym}
use Rattle.speedy_read.proofs.CTextLemmas.{byte_more, byte_no_room, byte_refused, first_byte, first_refused, nul_read}
use Rattle.speedy_read.proofs.WholeLemmas.{pushed}
use Rattle.speedy_read.proofs.c_text.read_to_nul.Goals as goal

pub returns-in_err-byte : goal.returns-in_err-byte
returns-in_err-byte g c = first_refused _ c.from_residual.ensures.1 c.in_err-byte.ensures

pub loop-byte-init : goal.loop-byte-init
loop-byte-init g c = first_byte _ c.new-bytes.ensures.items c.in_ok-byte.ensures

pub returns-then-is_err : goal.returns-then-is_err
returns-then-is_err g c = byte_no_room c.loop-byte.invariant c.error_out_of_memory.ensures

pub returns-in_err-byte-2 : goal.returns-in_err-byte-2
returns-in_err-byte-2 g c =
    let so_far = c.loop-byte.invariant in
    byte_refused _ c.from_residual-in_err-byte-2.ensures.1 so_far c.loop-byte-test.true
    (rw so_far.so_far.kept.mode at c.in_err-byte-2.ensures)

pub loop-byte-preserved : goal.loop-byte-preserved
loop-byte-preserved g c =
    let so_far = c.loop-byte.invariant in
    byte_more _ so_far c.loop-byte-test.true
    (pushed _ c.push.result (sym c.if-is_err.ensures.value) c.push.ensures.items)
    (rw so_far.so_far.kept.mode at c.in_ok-byte-2.ensures)

pub returns : goal.returns
returns g c = nul_read c.loop-byte.invariant c.loop-byte-test.false refl
