use Rattle.speedy_lines.proofs.DepthLemmas.{encoded_within, within_written, names_one}
use Rattle.speedy_lines.proofs.tree.bounds.levels_are_bounded.Goals as goal

pub returns-clause-encoded : goal.returns-clause-encoded
returns-clause-encoded c = encoded_within 16

pub returns-clause-written : goal.returns-clause-written
returns-clause-written c = within_written 16

pub returns-clause-named : goal.returns-clause-named
returns-clause-named c = names_one 16
