use Rattle.std.proofs.Common.{◌≡◌, ◌∙◌, ◌+◌, ◌*◌, ◌≤◌, ℕ, [], ◌++◌, length, ap, map, take, subst, subst₂, sym, arith}
use Rattle.std.proofs.lemmas.List.{append_assoc, append-nil, map-append, take_all}
use Rattle.speedy_layout.specs.FixedNumbers.{encoded_in}
use Rattle.speedy_layout.specs.Format.{Each}
use Rattle.speedy_layout.specs.Lists.{each_append}
use Rattle.speedy_read.proofs.StepLemmas.{steps_within, steps_done, step_length, step_behind}
use Rattle.speedy_read.proofs.room.append_in_steps.Goals as goal

pub loop-at-init : goal.loop-at-init
loop-at-init g c =
    let none : 0 * g.T.Digits.ByteArray.LENGTH ≡ 0 = omega arith in
    (omega arith, ([], sym (append-nil _), ap (λ n. take n c.args.digits.now) none))

pub slice_bounds-append_each-end : goal.slice_bounds-append_each-end
slice_bounds-append_each-end g c =
    let some = c.loop-at.at + c.min-some.result in
    subst (λ (n : ℕ). some * n ≤ length c.args.digits.now) (sym c.SIZE-in-loop-at-2.ensures)
    (steps_within g.met.T.FixedNumber.fixed.is_fixed.has_bytes c.SIZE.ensures some c.args.digits.now (omega arith))

pub append_each-numbers-requires : goal.append_each-numbers-requires
append_each-numbers-requires g c =
    let within =
    steps_within g.met.T.FixedNumber.fixed.is_fixed.has_bytes c.SIZE.ensures _ c.args.digits.now (omega arith) in (
      c.min-some.result,
      step_length c.loop-at.at c.min-some.result c.SIZE-in-loop-at.ensures c.SIZE-in-loop-at-2.ensures
          c.args.digits.now within,
      omega (arith, c.in_ok-numbers.ensures.one),
    )

pub loop-at-preserved : goal.loop-at-preserved
loop-at-preserved g c =
    let S = encoded_in g.T.Layout.layout.format c.args.order in
    let within = steps_within g.met.T.FixedNumber.fixed.is_fixed.has_bytes c.SIZE.ensures
    (c.loop-at.at + c.min-some.result) c.args.digits.now (omega arith) in
    let before = c.loop-at.invariant.1 in
    let more = c.append_each-numbers.ensures in (
      omega arith,
      (
        before.0 ++ more.0,
        more.1
            ∙ (ap (λ xs. xs ++ more.0) (c.in_ok-numbers.ensures.same ∙ before.1)
            ∙ append_assoc c.args.numbers.items before.0 more.0),
        subst₂ (λ vs b. Each S vs b) (sym (map-append g.T.Layout.seen before.0 more.0))
            (sym (step_behind c.loop-at.at c.min-some.result c.SIZE-in-loop-at.ensures c.SIZE-in-loop-at-2.ensures
            c.args.digits.now within))
            (each_append S _ _ _ _ before.2 more.2),
      ),
    )

pub returns : goal.returns
returns g c =
    let done = steps_done g.met.T.FixedNumber.fixed.is_fixed.has_bytes c.SIZE.ensures c.requires.0 c.loop-at.at
    c.args.digits.now c.requires.1 (omega arith) in
    let items = c.loop-at.invariant.1 in (
      items.0,
      items.1,
      subst (λ b. Each (encoded_in g.T.Layout.layout.format c.args.order)
          (map g.T.Layout.seen items.0) b) (take_all _ c.args.digits.now done) items.2,
    )
