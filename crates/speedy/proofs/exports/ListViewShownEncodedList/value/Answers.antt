use Rattle.std.proofs.Common.{sym, ◌∙◌, ap}
use Rattle.speedy.specs.Exports.{number_of_order}
use Rattle.speedy.proofs.ExportLemmas.{same_order}
use Rattle.speedy.proofs.ShownListLemmas.{same_list, none_refused, none_of_size, all_encode}
use Rattle.speedy.proofs.exports.ListViewShownEncodedList.value.Goals as goal

pub returns-in_default-measure : goal.returns-in_default-measure
returns-in_default-measure g c = λ list shown.
    let number = (c.order_of.ensures.known c.in-Some.order).0 c.in-Some.is in
    none_refused g.T.InPlace.in_place (same_order list.order c.in-Some.order (sym shown.2 ∙ number)) (sym shown.1)
    (sym shown.0) list.decoded c.in_default-measure.ensures

pub returns-then-size-bytes : goal.returns-then-size-bytes
returns-then-size-bytes g c = λ list shown.
    let number = (c.order_of.ensures.known c.in-Some.order).0 c.in-Some.is in
    none_of_size g.T.InPlace.in_place (same_order list.order c.in-Some.order (sym shown.2 ∙ number)) (sym shown.1)
    (sym shown.0) list.decoded c.in-Ok.ensures.0 c.in-Ok.ensures.1 c.if-size-bytes.true

pub over-requires : goal.over-requires
over-requires g c =
    let items = c.in-Ok.ensures.0 in
    (items, ∣ all_encode g.T.InPlace.in_place c.in-Some.order items c.in-Ok.ensures.1 c.if-size-bytes.false ∣₁)

pub returns : goal.returns
returns g c =
    let made = c.over.result in
    let number = (c.order_of.ensures.known c.in-Some.order).0 c.in-Some.is
    ∙ ap number_of_order (sym c.over.ensures.order)
    in (
      (sym c.over.ensures.bytes, sym c.over.ensures.count, number),
      λ other shown. same_list g.T.InPlace.in_place (same_order other.order made.order (sym shown.2 ∙ number))
          (sym shown.1 ∙ sym c.over.ensures.count) (sym shown.0 ∙ sym c.over.ensures.bytes) made.decoded other.decoded,
    )
