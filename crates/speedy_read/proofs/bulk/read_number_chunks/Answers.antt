use Rattle.std.proofs.Common.{◌∙◌, ◌*◌, Ok, Err, length, refl, ap, arith}
use Rattle.std.proofs.lemmas.List.{length-append, length-map, length-take-le}
use Rattle.speedy_read.specs.ReadingLemmas.{Kept-same, Kept-after, ends_input, none_so_far}
use Rattle.speedy_read.proofs.ListLemmas.{got_items, refused_room}
use Rattle.speedy_read.proofs.ChunkLemmas.{more_numbers, numbers_refused, count_of_digits, chunk_fits}
use Rattle.speedy_read.proofs.ChunkLemmas.{lent_is, lent_length, lent_read, lent_refused, not_lent}
use Rattle.speedy_read.proofs.bulk.read_number_chunks.Goals as goal

pub returns-in_err-numbers : goal.returns-in_err-numbers
returns-in_err-numbers g c = refused_room _ _ _ Kept-same refl c.from_residual.ensures.1 c.in_err-numbers.ensures.empty

pub loop-left-init : goal.loop-left-init
loop-left-init g c =
    let none = c.in_ok-numbers.ensures.empty in
    let same = ap length none in
    (omega arith, omega (arith, same), rw none (none_so_far refl))

-- ---- a chunk that is lent

pub append_in_steps-requires : goal.append_in_steps-requires
append_in_steps-requires g c =
    let lent = lent_is _ (Ok c.in-Some-Ok.digits) c.in-Some-Ok.is c.in-Some-Ok.field-0-is
    c.read_bytes_borrowed_from_reader.follows.holds-at-none in
    (c.min-some.result, lent_length _ lent ∙ ap (λ n. c.min-some.result * n) c.SIZE-in-loop-left.ensures)

pub returns-in-Err : goal.returns-in-Err
returns-in-Err g c =
    let so_far = c.loop-left.invariant.2 in
    let lent = lent_is _ (Ok c.in-Some-Ok.digits) c.in-Some-Ok.is c.in-Some-Ok.field-0-is
    c.read_bytes_borrowed_from_reader.follows.holds-at-none in
    refused_room _ _ _ (Kept-after so_far.kept lent.kept) (lent.answer.no_fault ∙ so_far.got.no_fault) refl
    c.error_out_of_memory.ensures

pub returns-in-Some-Err : goal.returns-in-Some-Err
returns-in-Some-Err g c =
    let lent = lent_is _ (Err c.in-Some-Err.field-0-0) c.in-Some-Err.is c.in-Some-Err.field-0-is
    c.read_bytes_borrowed_from_reader.follows.holds-at-none in
    numbers_refused g.T.Layout.layout.laws g.met.T.FixedNumber.fixed.is_fixed _ g.T.Layout.seen c.args.count
    c.loop-left.numbers.items c.min-some.result (omega (arith, c.loop-left.invariant.0, c.loop-left.invariant.1))
    (ap (λ n. c.min-some.result * n) c.SIZE-in-loop-left.ensures) c.loop-left.invariant.2 refl
    (lent_refused _ (ends_input g.met.C.Context.keeps_eof c.error_end_of_input.ensures) lent)

pub loop-left-preserved-in-Some-Ok : goal.loop-left-preserved-in-Some-Ok
loop-left-preserved-in-Some-Ok g c =
    let fixed = g.met.T.FixedNumber.fixed.is_fixed in
    let so_far = c.loop-left.invariant.2 in
    let added = c.in-Ok.ensures in
    let lent = lent_is _ (Ok c.in-Some-Ok.digits) c.in-Some-Ok.is c.in-Some-Ok.field-0-is
    c.read_bytes_borrowed_from_reader.follows.holds-at-none in
    let count = count_of_digits fixed g.T.Layout.seen _ added.0 c.in-Some-Ok.digits.now c.min-some.result added.2
    (lent_length _ lent ∙ ap (λ n. c.min-some.result * n) c.SIZE-in-loop-left.ensures) in (
      omega arith,
      ap length added.1
          ∙ (length-append c.loop-left.numbers.items added.0 ∙ omega (arith, count, c.loop-left.invariant.1)),
      rw added.1 (more_numbers g.T.Layout.layout.laws fixed {E = g.row.C-Error.Denot}
          {gives = g.C.Error.From.from_gives} {eof = g.C.Error.IsEof.eof} _ g.T.Layout.seen c.args.count
          c.loop-left.numbers.items added.0 _ (c.endianness-order.ensures ∙ ap (λ e. e.order) so_far.kept.mode) so_far
          (lent_read _ lent) added.2),
    )

-- ---- a chunk that is copied

pub returns-in_err-read_bytes : goal.returns-in_err-read_bytes
returns-in_err-read_bytes g c =
    let so_far = not_lent _ _ c.loop-left.invariant.2 c.in-None.is
    c.read_bytes_borrowed_from_reader.follows.holds-at-none in
    numbers_refused g.T.Layout.layout.laws g.met.T.FixedNumber.fixed.is_fixed _ g.T.Layout.seen c.args.count
    c.loop-left.numbers.items c.min-some.result (omega (arith, c.loop-left.invariant.0, c.loop-left.invariant.1))
    (length-take-le (c.min-some.result * c.SIZE-in-loop-left-2.result) c.loop-left.chunk
    (chunk_fits {some = c.min-some.result} g.met.T.FixedNumber.fixed.is_fixed.has_bytes (omega arith)
    c.SIZE-2.ensures c.SIZE-in-loop-left-2.ensures c.loop-left.auto.chunk) ∙ ap
    (λ n. c.min-some.result * n) c.SIZE-in-loop-left-2.ensures) so_far
    c.from_residual-in_err-read_bytes.ensures.1
    c.in_err-read_bytes.ensures

pub returns-in-Err-append_in_steps : goal.returns-in-Err-append_in_steps
returns-in-Err-append_in_steps g c =
    let so_far = not_lent _ _ c.loop-left.invariant.2 c.in-None.is
    c.read_bytes_borrowed_from_reader.follows.holds-at-none in
    refused_room _ _ _ (Kept-after so_far.kept c.in_ok-read_bytes.ensures.kept)
    (c.in_ok-read_bytes.ensures.answer.no_fault ∙ so_far.got.no_fault) refl
    c.error_out_of_memory-in-Err-append_in_steps.ensures

pub loop-left-preserved : goal.loop-left-preserved
loop-left-preserved g c =
    let fixed = g.met.T.FixedNumber.fixed.is_fixed in
    let so_far = not_lent _ _ c.loop-left.invariant.2 c.in-None.is
    c.read_bytes_borrowed_from_reader.follows.holds-at-none in
    let added = c.in-Ok-append_in_steps.ensures in
    let size = length-take-le (c.min-some.result * c.SIZE-in-loop-left-2.result) c.loop-left.chunk
    (chunk_fits {some = c.min-some.result} fixed.has_bytes (omega arith) c.SIZE-2.ensures
    c.SIZE-in-loop-left-2.ensures c.loop-left.auto.chunk) in
    let count = count_of_digits fixed g.T.Layout.seen _ added.0 c.read_bytes.new.output c.min-some.result added.2
    (c.read_bytes.auto.output ∙ (size ∙ ap (λ n. c.min-some.result * n) c.SIZE-in-loop-left-2.ensures)) in (
      omega arith,
      ap length added.1
          ∙ (length-append c.loop-left.numbers.items added.0 ∙ omega (arith, count, c.loop-left.invariant.1)),
      rw added.1 (more_numbers g.T.Layout.layout.laws fixed _ g.T.Layout.seen c.args.count
          c.loop-left.numbers.items added.0 _
          (c.endianness-order.ensures ∙ ap (λ e. e.order) c.loop-left.invariant.2.kept.mode) so_far
          c.in_ok-read_bytes.ensures added.2),
    )

pub returns : goal.returns
returns g c = got_items _ _ c.loop-left.invariant.2
    (length-map c.loop-left.numbers.items g.T.Layout.seen ∙ (c.loop-left.invariant.1 ∙ omega arith))
