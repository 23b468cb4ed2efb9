use Rattle.std.proofs.Common.{rules, ◌≡◌, ◌-◌, ◌^◌, ◌<◌, ◌++◌, ◌∷◌, [], refl, sym, ◌∙◌, subst, length, arith}
use Rattle.std.proofs.lemmas.List.{length_push}
use Rattle.speedy_read.specs.Buffers.{bytes_state}
use Rattle.speedy_read.specs.ReadingLemmas.{ReadSoFar, none_so_far}
use Rattle.speedy_read.proofs.ListLemmas.{item_more}
use Rattle.speedy.proofs.EncodedLemmas.{read_in, measured, measured_early, measure_refused}
use Rattle.speedy.proofs.encoded.measure_items.Goals as goal

pub loop-i-init : goal.loop-i-init
loop-i-init g c =
    let old = bytes_state c.args.bytes.now (g.C.Context.mode c.args.context) in
    ([], refl, subst (ReadSoFar _ old) (sym c.new-reader.ensures.state) (none_so_far refl))

pub loop-i-preserved : goal.loop-i-preserved
loop-i-preserved g c =
    let before = c.loop-i.invariant in
    let item = g.T.Layout.seen c.in_ok-_item._item in (
      before.0 ++ item ∷ [],
      omega (arith, before.1, length_push before.0 item),
      item_more _ before.0 before.2 (read_in g.T.Layout.layout.format before.2.kept.mode c.in_ok-_item.ensures) refl,
    )

pub returns-in_err-_item : goal.returns-in_err-_item
returns-in_err-_item g c =
    let before = c.loop-i.invariant in
    let fewer : length before.0 < c.args.count = omega (arith, before.1, c.loop-i-test.true) in
    let fit : length c.args.bytes.now < 2 ^ 64 - 1 = search rules in
    measure_refused (g.T.Layout.layout.laws _) c.args.count before.0 fewer c.bytes_in_range.ensures fit before.2
    c.from_residual.result c.from_residual.ensures.1
    (read_in g.T.Layout.layout.format before.2.kept.mode c.in_err-_item.ensures)

pub returns-then-len-before : goal.returns-then-len-before
returns-then-len-before g c =
    let before = c.loop-i.invariant in
    let fewer : length before.0 < c.args.count = omega (arith, before.1, c.loop-i-test.true) in
    let got = (read_in g.T.Layout.layout.format before.2.kept.mode c.in_ok-_item.ensures).answer in
    rw c.len-before.ensures (measured_early _ c.args.count before.0 (g.T.Layout.seen c.in_ok-_item._item) got.prefix _
    fewer before.2 got.prefix_is (got.taken refl)
    (sym c.len.ensures ∙ (c.if-len-before.true ∙ c.len-before.ensures)))

pub returns : goal.returns
returns g c =
    let read = c.loop-i.invariant in
    let all : length read.0 ≡ c.args.count = omega (arith, read.1, c.loop-i.auto, c.loop-i-test.false) in
    (read.0, rw c.len-2.ensures (measured _ c.args.count read.0 all read.2))
