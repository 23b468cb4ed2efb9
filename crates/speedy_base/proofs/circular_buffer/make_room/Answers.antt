use Rattle.std.proofs.Common.{◌+◌, ◌-◌, List, ℕ, length, slice_range, ap, ◌∙◌, sym, arith, take, ◌≡◌, ◌≤◌}
use Rattle.speedy_base.proofs.Stretches.{stretch_kept, stretch_moved}
use Rattle.speedy_base.proofs.circular_buffer.make_room.Goals as goal

pub returns-clause-bytes : goal.returns-clause-bytes
returns-clause-bytes c =
    let xs = c.args.memory.now in
    let moved = c.copy_within.new.self in
    let laid = c.lay_zeros-2.new.memory.items in
    let inside : c.args.end ≤ length xs.items = omega (arith, xs.ok.0, c.requires.held) in
    let all : c.args.end - c.args.start ≤ length moved.items =
    omega (arith, moved.ok.0, c.copy_within.ensures.len, c.requires.held) in
    let size : 0 + (c.args.end - c.args.start) ≡ c.args.end - c.args.start = omega arith in
    ap (λ k. slice_range laid 0 k) size
    ∙ stretch_kept moved.items laid 0 (c.args.end - c.args.start) all
    (ap (λ n. take n laid) (sym moved.ok.0) ∙ c.lay_zeros-2.ensures.bytes)
    ∙ ap (λ (l : List ℕ). slice_range l 0 (c.args.end - c.args.start)) c.copy_within.ensures.items
    ∙ stretch_moved xs.items c.args.start c.args.end c.requires.held.0 inside
