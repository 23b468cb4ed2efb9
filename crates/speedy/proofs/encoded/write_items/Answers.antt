use Rattle.std.proofs.Common.{length, ◌<◌, arith, take_all}
use Rattle.std.proofs.Math.Logic.{∥∥₁_map}
use Rattle.speedy_base.specs.Mode.{plain_mode}
use Rattle.speedy_write.proofs.ListLemmas.{no_items_written, one_more_written, items_refused}
use Rattle.speedy.specs.EncodedLists.{counted}
use Rattle.speedy.proofs.EncodedLemmas.{next_begins, next_of_list}
use Rattle.speedy.proofs.encoded.write_items.Goals as goal

pub loop-i-init : goal.loop-i-init
loop-i-init g c = (
  no_items_written g.T.InPlace.in_place.codec.format (λ v. v) (g.met.W.Writer.nothing _),
  ∥∥₁_map c.args.list.now.decoded.1 (λ h. h.1),
)

pub unreachable-requires : goal.unreachable-requires
unreachable-requires g c =
    let list = c.args.list.now in
    let item = g.T.InPlace.in_place in
    let many = counted item.codec list.order list.count list.bytes.now list.decoded in
    let within : c.loop-i._i < length list.decoded.0 = omega (arith, many, c.loop-i-test.true) in
    next_begins item (plain_mode list.order) list.decoded.0 c.loop-i._i within c.loop-i.invariant.1 c.in_default.ensures

pub returns-in_err-outcome : goal.returns-in_err-outcome
returns-in_err-outcome g c =
    let list = c.args.list.now in
    let item = g.T.InPlace.in_place in
    let many = counted item.codec list.order list.count list.bytes.now list.decoded in
    let within : c.loop-i._i < length list.decoded.0 = omega (arith, many, c.loop-i-test.true) in
    let found = c.in-Some.ensures in
    let next = next_of_list item (plain_mode list.order) list.decoded.0 c.loop-i._i within c.loop-i.invariant.1 found.0
    found.1 in
    items_refused (g.met.W.Writer.additive _ _ _) (λ v. v) list.decoded.0 c.loop-i._i within next.0 item.codec.laws
    c.from_residual.ensures.1 c.loop-i.invariant.0 (rw c.in_err-outcome.was at found.2)

pub loop-i-preserved : goal.loop-i-preserved
loop-i-preserved g c =
    let list = c.args.list.now in
    let item = g.T.InPlace.in_place in
    let many = counted item.codec list.order list.count list.bytes.now list.decoded in
    let within : c.loop-i._i < length list.decoded.0 = omega (arith, many, c.loop-i-test.true) in
    let found = c.in-Some.ensures in
    let next = next_of_list item (plain_mode list.order) list.decoded.0 c.loop-i._i within c.loop-i.invariant.1 found.0
    found.1 in (
      one_more_written (g.met.W.Writer.additive _ _ _) (λ v. v) list.decoded.0 c.loop-i._i within next.0
          c.loop-i.invariant.0 (rw c.in_ok-outcome.was at found.2),
      rw c.split_at.ensures.back next.1,
    )

pub returns : goal.returns
returns g c =
    let list = c.args.list.now in
    let many = counted g.T.InPlace.in_place.codec list.order list.count list.bytes.now list.decoded in
    rw (take_all c.loop-i._i list.decoded.0 (omega (arith, many, c.loop-i-test.false))) at c.loop-i.invariant.0
