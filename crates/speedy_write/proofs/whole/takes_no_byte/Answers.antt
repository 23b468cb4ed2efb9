use Rattle.speedy_write.proofs.whole.takes_no_byte.Goals as goal

pub returns-clause-joins : goal.returns-clause-joins
returns-clause-joins g c =
    let W = g.met.W.Writer in
    λ bytes w h. W.additive _ _ _ _ bytes (W.appends_with _ _ _ _ (W.nothing c.args.writer.now)).0 h
