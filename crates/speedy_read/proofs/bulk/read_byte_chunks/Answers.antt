use Rattle.std.proofs.Common.{◌≡◌, ◌∙◌, ◌-◌, ℕ, ap, arith, length, refl, replicate, sym}
use Rattle.std.proofs.lemmas.List.{length-append, length-replicate}
use Rattle.speedy_read.specs.ReadingLemmas.{Kept-same, none_so_far}
use Rattle.speedy_read.proofs.ByteLemmas.{behind, filled_behind, more_bytes, all_bytes, bytes_refused}
use Rattle.speedy_read.proofs.ListLemmas.{refused_room}
use Rattle.speedy_read.proofs.bulk.read_byte_chunks.Goals as goal

pub loop-left-init : goal.loop-left-init
loop-left-init g c =
    (omega arith, ap length c.in_ok-bytes.ensures.empty ∙ omega arith, none_so_far (sym c.in_ok-bytes.ensures.empty))

pub loop-left-preserved : goal.loop-left-preserved
loop-left-preserved g c =
    let bytes = c.loop-left.bytes.items in
    let zeros = replicate c.in-Ok.size 0 in
    let slice = c.as_mut_slice.result.now in
    let start = c.args.length - c.loop-left.left in
    let at : start ≡ length bytes = sym c.loop-left.invariant.1 in
    let room = c.in-Ok.ensures.zeros in
    let most = c.read_at_once.ensures.most in
    let sized : length c.read_bytes.new.output ≡ length zeros =
    c.read_bytes.auto.output ∙ behind bytes zeros slice start (c.as_mut_slice.ensures.value ∙ room.2) at in
    let filled = filled_behind bytes zeros c.open_chunk.new.bytes.items slice c.read_bytes.new.output start _ room.2
    c.as_mut_slice.ensures.value at c.as_mut_slice.ensures.len sized in (
      omega (arith, room.0, room.1, most, c.loop-left.invariant.0),
      ap length filled
          ∙ (length-append bytes c.read_bytes.new.output
          ∙ omega (arith, at, most, sized, length-replicate {A = ℕ} c.in-Ok.size 0, c.loop-left.invariant.0, room.1)),
      more_bytes _ _ _ c.loop-left.invariant.2 c.in_ok-read_bytes.ensures filled,
    )

pub returns : goal.returns
returns g c =
    all_bytes _ c.loop-left.invariant.2 (omega (arith, c.loop-left.invariant.1))
    (rw c.as_slice.ensures.value at c.bytes_in_range.ensures)

pub returns-in_err-bytes : goal.returns-in_err-bytes
returns-in_err-bytes g c = refused_room _ _ _ Kept-same refl c.from_residual.ensures.1 c.in_err-bytes.ensures.empty

pub returns-in_default : goal.returns-in_default
returns-in_default g c =
    let so_far = c.loop-left.invariant.2 in
    refused_room _ _ _ so_far.kept so_far.got.no_fault refl c.error_out_of_memory.ensures

pub returns-in_err-read_bytes : goal.returns-in_err-read_bytes
returns-in_err-read_bytes g c =
    bytes_refused _ _ _ _ c.loop-left.invariant.1
    (let most = c.read_at_once.ensures.most in
    let size = behind c.loop-left.bytes.items (replicate c.in-Ok.size 0) c.as_mut_slice.result.now _
    (c.as_mut_slice.ensures.value ∙ c.in-Ok.ensures.zeros.2) (sym c.loop-left.invariant.1) in
    omega (
      arith,
      size,
      most,
      length-replicate {A = ℕ} c.in-Ok.size 0,
      c.in-Ok.ensures.zeros.1,
      c.loop-left.invariant.0,
    ))
    c.loop-left.invariant.2 c.from_residual-in_err-read_bytes.ensures.1
    c.in_err-read_bytes.ensures
