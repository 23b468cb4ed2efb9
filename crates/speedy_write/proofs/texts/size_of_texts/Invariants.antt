use Rattle.speedy_write.proofs.TextLemmas.{Joined}
use Rattle.speedy_write.proofs.texts.size_of_texts.Given as goal

abbrev pub invariant-loop-text : goal.invariant-loop-text
invariant-loop-text g l =
    Joined g.T.Layout.layout.format g.T.Layout.seen l.texts l.text-index l.joined l.sum
