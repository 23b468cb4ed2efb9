use Rattle.std.proofs.Common.{◌≡◌, length, sym, subst, ◌∙◌, arith}
use Rattle.std.proofs.lemmas.List.{take-append-le, take_all}
use Rattle.speedy_write.specs.WaysOfWriting.{IsShortest}
use Rattle.speedy_write.proofs.FillLemmas.{filled_whole}
use Rattle.speedy_write.proofs.whole.fill_vec.Goals as goal

pub returns-then-room-le-MOST_ZEROED-clause-fills : goal.returns-then-room-le-MOST_ZEROED-clause-fills
returns-then-room-le-MOST_ZEROED-clause-fills g c =
    let F = g.T.Whole.whole.format (g.C.Context.mode c.args.context.now) in
    let v = g.T.Whole.seen c.args.value.now in
    let buffer = c.fill.new.buffer in
    let sized : length buffer ≡ c.resize.new.self.len = c.fill.auto.buffer ∙ c.as_mut_slice.ensures.len in
    subst (IsShortest F v)
    (sym (take-append-le c.resize.new.self.len buffer _ (omega (arith, sized))
    ∙ take_all c.resize.new.self.len buffer (omega (arith, sized))))
    (filled_whole (g.T.Whole.whole.laws _) v c.requires.0 c.requires.1 (grind arith) c.fill.ensures.stands)
