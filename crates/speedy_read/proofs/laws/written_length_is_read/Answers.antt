use Rattle.speedy_layout.specs.Numbers.{unsigned_number_laws, length_codec}
use Rattle.speedy_layout.specs.Varint.{varint_laws}
use Rattle.speedy_read.proofs.RoundTripLemmas.{written_is_read}
use Rattle.speedy_read.proofs.laws.written_length_is_read.Goals as goal

pub returns-clause-u7 : goal.returns-clause-u7
returns-clause-u7 g c = written_is_read _ _ _ _ (length_codec 1 127).laws

pub returns-clause-digits : goal.returns-clause-digits
returns-clause-digits g c width = written_is_read _ _ _ _ (unsigned_number_laws width)

pub returns-clause-varint : goal.returns-clause-varint
returns-clause-varint g c = written_is_read _ _ _ _ varint_laws
