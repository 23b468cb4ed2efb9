use Rattle.std.proofs.Common.{◌<◌, length, map, ◌∙◌, ap, refl, arith}
use Rattle.std.proofs.lemmas.List.{length_push, length-map}
use Rattle.speedy_read.specs.ReadingLemmas.{Kept-same, none_so_far}
use Rattle.speedy_read.proofs.ListLemmas.{seen_added, item_more, got_items, refused_item, refused_room}
use Rattle.speedy_read.proofs.many.read_each.Goals as goal

pub loop-left-init : goal.loop-left-init
loop-left-init g c = rw c.in_ok-items.ensures.empty (omega arith, omega arith, none_so_far refl)

pub loop-i-init : goal.loop-i-init
loop-i-init g c =
    let before = c.loop-left.invariant in
    let count = length-map c.in-Ok.roomy.items g.T.Layout.seen in
    let same = ap (λ items. map g.T.Layout.seen items) c.in-Ok.ensures.same in
    let now = ap length same ∙ before.1 in (
      omega (arith, now),
      omega (arith, now, count, c.min-some.ensures, c.capacity.ensures, c.len.ensures, c.in-Ok.ensures.one, before.0),
      rw c.in-Ok.ensures.same before.2,
    )

pub loop-i-preserved : goal.loop-i-preserved
loop-i-preserved g c =
    let so_far = c.loop-i.invariant.2 in
    let items = seen_added g.T.Layout.seen _ _ c.in_ok-item.item c.push_reserved.ensures.items in
    let count = length_push (map g.T.Layout.seen c.loop-i.items.items) (g.T.Layout.seen c.in_ok-item.item) in (
      omega (arith, ap length items, count, c.loop-i.invariant.0),
      omega (arith, c.loop-i.invariant.1, c.push_reserved.ensures.capacity),
      item_more _ _ so_far (rw so_far.kept.mode at c.in_ok-item.ensures) items,
    )

pub push_reserved-requires : goal.push_reserved-requires
push_reserved-requires g c =
    let count = length-map c.loop-i.items.items g.T.Layout.seen in
    omega (arith, count, c.loop-i.invariant.0, c.loop-i.invariant.1, c.loop-i-test.true)

pub loop-left-preserved : goal.loop-left-preserved
loop-left-preserved g c = (
  omega (arith, c.loop-left.invariant.0),
  omega (
    arith,
    c.loop-left.invariant.0,
    c.loop-i.invariant.0,
    c.loop-i.auto,
    c.loop-i-test.false,
    c.min-some.ensures,
  ),
  c.loop-i.invariant.2,
)

pub returns : goal.returns
returns g c = got_items _ _ c.loop-left.invariant.2 (c.loop-left.invariant.1 ∙ omega arith)

pub returns-in_err-item : goal.returns-in_err-item
returns-in_err-item g c =
    let so_far = c.loop-i.invariant.2 in
    let fewer : length (map g.T.Layout.seen c.loop-i.items.items) < c.args.length =
    omega (arith, c.loop-i.invariant.0, c.loop-left.invariant.0, c.loop-i-test.true, c.min-some.ensures) in
    refused_item (g.T.Layout.layout.laws _) _ _ {new = g.R.LendingReader.state c.read_from.new.reader} fewer so_far
    c.from_residual-in_err-item.ensures.1
    (rw so_far.kept.mode at c.in_err-item.ensures)

pub returns-in_err-items : goal.returns-in_err-items
returns-in_err-items g c =
    refused_room _ _ _ Kept-same refl c.from_residual.ensures.1 c.in_err-items.ensures.empty

pub returns-in-Err : goal.returns-in-Err
returns-in-Err g c = let so_far = c.loop-left.invariant.2 in
    refused_room _ _ _ so_far.kept so_far.got.no_fault refl c.error_out_of_memory.ensures
