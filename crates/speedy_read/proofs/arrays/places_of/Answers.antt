use Rattle.std.proofs.Common.{◌∙◌, ◌++◌, List, length, map, ap, subst, sym, arith}
use Rattle.std.proofs.lemmas.List.{length_push}
use Rattle.speedy_layout.specs.FixedNumbers.{encoded_in}
use Rattle.speedy_layout.specs.Format.{Each}
use Rattle.speedy_layout.specs.Lists.{each_more, vector}
use Rattle.speedy_read.proofs.ArrayLemmas.{one_taken, taken_behind}
use Rattle.speedy_read.proofs.ListLemmas.{seen_added}
use Rattle.speedy_read.proofs.arrays.places_of.Goals as goal

pub loop-i-preserved : goal.loop-i-preserved
loop-i-preserved g c =
    let before = c.loop-i.invariant in
    let rest = c.loop-i.rest.now in
    let some = c.split_at.result.0.now in
    let seen = λ (p : g.row.P.Denot). map g.T.Layout.seen (g.P.Places.shown p) in
    let encodes = encoded_in (λ e. vector g.P.Places.count (g.T.Layout.layout.format e)) c.args.order in
    let items = seen_added seen _ _ c.take.new.self c.push_reserved.ensures.items in (
      ap length c.push_reserved.ensures.items
          ∙ (length_push c.loop-i.all.items c.take.new.self ∙ omega (arith, before.0)),
      omega (arith, c.push_reserved.ensures.capacity, before.1),
      one_taken c.args.width c.loop-i._i c.args.count (length rest) _ before.2 c.split_at.ensures.back_len,
      before.3 ++ some,
      taken_behind _ before.3 rest some _ c.args.width before.4 c.split_at.ensures.front c.split_at.ensures.back,
      subst (λ (vs : List (List g.T.Layout.Seen)). Each encodes vs (before.3 ++ some)) (sym items)
          (each_more encodes (map seen c.loop-i.all.items) (seen c.take.new.self) before.3 some before.5
          c.take.ensures),
    )
