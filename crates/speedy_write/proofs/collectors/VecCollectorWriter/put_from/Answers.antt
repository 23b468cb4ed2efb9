use Rattle.std.proofs.Common.{◌≡◌, ◌∙◌, ◌-◌, length, sym, ap, arith}
use Rattle.std.proofs.lemmas.List.{take_at}
use Rattle.std.specs.Prelude.{vec_len}
use borrow.Rule.Slice.PartMut.{put_mid, same_len_mid, mid_len}
use Rattle.speedy_write.proofs.FrontLemmas.{items_behind}
use Rattle.speedy_write.proofs.collectors.VecCollectorWriter.put_from.Goals as goal

pub returns-clause-puts : goal.returns-clause-puts
returns-clause-puts g c =
    let w = c.args.self.now in
    let lent = c.as_mut_slice.result.now in
    let filled = c.fill_from-end.new.buffer in
    let put = c.fill_from-end.ensures.fills in
    let same = c.as_mut_slice.ensures.value in
    let long : length lent ≡ vec_len w.bytes.now = c.as_mut_slice.ensures.len in
    let whole : length w.bytes.now.items ≡ vec_len w.bytes.now = ap length (sym same) ∙ long in
    let sized = mid_len w.position (length lent) lent (omega arith) in (
      put.0,
      put.1,
      items_behind g.T.Layout.layout.laws g.T.Layout.seen put.0 c.fill_from-end.ensures.mode
          (length lent - w.position) w.bytes.now.items
          (omega (arith, whole, w.has_room))
          (omega (arith, long, w.has_room, c.fill_from-end.auto.buffer ∙ sized))
          (take_at _ _ _ (same_len_mid w.position _ lent filled c.fill_from-end.auto.buffer ∙ long)
          ∙ ap (λ xs. put_mid w.position (length lent - w.position) xs filled) same) put.2,
    )
