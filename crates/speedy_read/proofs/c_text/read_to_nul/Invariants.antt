use Rattle.std.proofs.Common.{◌-◌, ◌^◌, length}
use Rattle.speedy_read.proofs.CTextLemmas.{OneMore}
use Rattle.speedy_read.proofs.c_text.read_to_nul.Given as goal

abbrev pub invariant-loop-byte : goal.invariant-loop-byte
invariant-loop-byte g l =
    OneMore l.bytes.items l.byte (g.R.LendingReader.state l.fn.reader) (g.R.LendingReader.state l.reader)

abbrev pub decreases-loop-byte : goal.decreases-loop-byte
decreases-loop-byte g l = 2 ^ 64 - length l.bytes.items
