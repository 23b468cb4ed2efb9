use Rattle.speedy_read.specs.Codes.{refused_covered}
use Rattle.speedy_read.specs.Decoding.{decoded_read}
use Rattle.speedy_read.proofs.codes.AnyReadFrom.read_from.Goals as goal

pub returns-in_err-code : goal.returns-in_err-code
returns-in_err-code g c =
    refused_covered (g.met.T.FromCode.is_coded.covers _) c.from_residual.ensures.1 c.in_err-code.ensures

pub returns : goal.returns
returns g c = decoded_read _ c.demands_written_form.ensures c.decode.ensures c.in_ok-code.ensures
