use Rattle.speedy_layout.specs.CText.{NulWithin-some}
use Rattle.speedy_write.proofs.CTextLemmas.{first_bytes_refused, nul_refused, nul_written}
use Rattle.speedy_write.proofs.c_text.write_c_bytes.Goals as goal

pub returns-in-Some : goal.returns-in-Some
returns-in-Some g c =
    nul_refused (NulWithin-some c.in-Some.ensures) c.error_out_of_range_length.ensures (g.met.W.Writer.nothing _)

pub returns-in_err-write_bytes-in-None : goal.returns-in_err-write_bytes-in-None
returns-in_err-write_bytes-in-None g c =
    first_bytes_refused c.in-None.ensures c.from_residual.ensures.1
    c.in_err-write_bytes-in-None.ensures.writes

pub returns-in_ok-write_bytes-in-None : goal.returns-in_ok-write_bytes-in-None
returns-in_ok-write_bytes-in-None g c =
    nul_written c.in-None.ensures (g.met.W.Writer.additive _ _ _)
    c.in_ok-write_bytes-in-None.ensures.writes c.write_bytes-in-None.ensures.writes
