use Rattle.speedy_layout.proofs.CTextLemmas.{nul_found}
use Rattle.speedy_layout.proofs.c_text.length_to_nul.Goals as goal

pub returns-in-Some : goal.returns-in-Some
returns-in-Some c = nul_found c.args.bytes.now c.in-Some.index c.in-Some.ensures
