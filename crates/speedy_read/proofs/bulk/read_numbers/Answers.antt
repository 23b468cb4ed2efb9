use Rattle.std.proofs.Common.{◌∙◌, ◌*◌, [], Ok, Err, ap, arith, refl, sym}
use Rattle.std.proofs.lemmas.List.{length-map}
use Rattle.speedy_read.specs.ReadingLemmas.{ends_input, none_so_far}
use Rattle.speedy_read.proofs.ListLemmas.{got_items, refused_early, refused_room}
use Rattle.speedy_read.proofs.ChunkLemmas.{all_digits, past_usize, more_numbers, numbers_refused, count_of_digits}
use Rattle.speedy_read.proofs.ChunkLemmas.{lent_is, lent_length, lent_read, lent_refused}
use Rattle.speedy_read.proofs.bulk.read_numbers.Goals as goal

pub returns-in_default : goal.returns-in_default
returns-in_default g c shown =
    refused_early (g.T.Layout.layout.laws _) c.args.count
    (ends_input g.met.C.Context.keeps_eof c.error_end_of_input.ensures)
    (λ told fit. past_usize (c.args.count * c.SIZE.result) _ _ c.in_default.ensures
    (ap (λ n. c.args.count * n) (c.SIZE.ensures ∙ sym g.met.T.FixedNumber.fixed.least_is)) fit)

pub numbers_of-requires : goal.numbers_of-requires
numbers_of-requires g c =
    lent_length _
    (lent_is _ (Ok c.in-Some-Ok.digits) c.in-Some-Ok.is c.in-Some-Ok.field-0-is
    c.read_bytes_borrowed_from_reader.follows.holds-at-none)
    ∙ all_digits c.args.count c.SIZE.result c.in-Some.ensures.1 c.SIZE.ensures

pub returns-in-Ok : goal.returns-in-Ok
returns-in-Ok g c shown =
    let laws = g.T.Layout.layout.laws in
    let fixed = g.met.T.FixedNumber.fixed.is_fixed in
    let seen = g.T.Layout.seen in
    let numbers = c.in-Ok.numbers.items in
    let lent = lent_is _ (Ok c.in-Some-Ok.digits) c.in-Some-Ok.is c.in-Some-Ok.field-0-is
    c.read_bytes_borrowed_from_reader.follows.holds-at-none in
    let size = lent_length _ lent ∙ all_digits c.args.count c.SIZE.result c.in-Some.ensures.1 c.SIZE.ensures in
    let count = count_of_digits fixed seen _ numbers c.in-Some-Ok.digits.now c.args.count c.in-Ok.ensures size in
    got_items _ _
    (more_numbers laws fixed {E = g.row.C-Error.Denot} {gives = g.C.Error.From.from_gives} {eof = g.C.Error.IsEof.eof} _
    seen c.args.count [] numbers _ c.endianness-order.ensures (none_so_far refl) (lent_read _ lent) c.in-Ok.ensures)
    (length-map numbers seen ∙ count)

pub returns-in-Err : goal.returns-in-Err
returns-in-Err g c shown =
    let lent = lent_is _ (Ok c.in-Some-Ok.digits) c.in-Some-Ok.is c.in-Some-Ok.field-0-is
    c.read_bytes_borrowed_from_reader.follows.holds-at-none in
    refused_room _ _ _ lent.kept lent.answer.no_fault refl c.error_out_of_memory.ensures

pub returns-in-Some-Err : goal.returns-in-Some-Err
returns-in-Some-Err g c shown =
    let lent = lent_is _ (Err c.in-Some-Err.field-0-0) c.in-Some-Err.is c.in-Some-Err.field-0-is
    c.read_bytes_borrowed_from_reader.follows.holds-at-none in
    let e = c.error_end_of_input-in-Some-Err.ensures in
    numbers_refused g.T.Layout.layout.laws g.met.T.FixedNumber.fixed.is_fixed _ g.T.Layout.seen c.args.count []
    c.args.count (omega arith) (all_digits c.args.count c.SIZE.result c.in-Some.ensures.1 c.SIZE.ensures)
    (none_so_far refl) refl
    (lent_refused _
    (ends_input g.met.C.Context.keeps_eof e) lent)
