use Rattle.std.proofs.Common.{arith}
use Rattle.speedy_write.proofs.TextLemmas.{none_joined, one_more_joined, all_joined, one_too_long, all_too_long}
use Rattle.speedy_write.proofs.texts.size_of_texts.Goals as goal

pub loop-text-init : goal.loop-text-init
loop-text-init g c = none_joined g.T.Layout.layout.format g.T.Layout.seen c.args.texts.now

pub loop-text-preserved : goal.loop-text-preserved
loop-text-preserved g c =
    one_more_joined g.T.Layout.layout.format g.T.Layout.seen c.args.texts.now (omega arith) (omega arith)
    c.text-item.is c.loop-text.invariant c.length-length.ensures.takes c.length-length.ensures.few

pub returns-clause-counts : goal.returns-clause-counts
returns-clause-counts g c =
    all_joined g.T.Layout.layout.format g.T.Layout.seen c.args.texts.now (omega arith) c.loop-text.invariant
    (omega arith) c.in-Some.ensures.1

pub returns-then-joined-gt-LONGEST-clause-answers : goal.returns-then-joined-gt-LONGEST-clause-answers
returns-then-joined-gt-LONGEST-clause-answers g c =
    one_too_long g.T.Layout.layout.format g.T.Layout.seen c.args.texts.now (omega arith) c.loop-text.invariant
    (omega arith)

pub returns-in_default-clause-answers : goal.returns-in_default-clause-answers
returns-in_default-clause-answers g c =
    all_too_long g.T.Layout.layout.format g.T.Layout.seen c.args.texts.now (omega arith) c.loop-text.invariant
    g.T.Layout.layout.laws (omega arith) (omega arith)
