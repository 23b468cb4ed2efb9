use Rattle.std.proofs.Common.{◌∙◌, ◌*◌, [], Ok, Err, ap, arith, length, refl, sym}
use Rattle.std.proofs.lemmas.List.{length-map}
use Rattle.speedy_read.specs.ReadingLemmas.{ends_input, none_so_far}
use Rattle.speedy_read.proofs.ListLemmas.{got_items, refused_early}
use Rattle.speedy_read.proofs.ChunkLemmas.{all_digits, past_usize, more_numbers, numbers_refused, lent_is, lent_length}
use Rattle.speedy_read.proofs.ChunkLemmas.{lent_read, lent_refused}
use Rattle.speedy_read.proofs.bulk.fill_numbers.Goals as goal

pub returns-in_default : goal.returns-in_default
returns-in_default g c =
    refused_early (g.T.Layout.layout.laws _) _ (ends_input g.met.C.Context.keeps_eof c.error_end_of_input.ensures)
    (λ told fit. past_usize (length c.args.places.now * c.SIZE.result) _ _ c.in_default.ensures
    (ap (λ n. length c.args.places.now * n) (c.SIZE.ensures ∙ sym g.met.T.FixedNumber.fixed.least_is)) fit)

pub take_each-requires : goal.take_each-requires
take_each-requires g c =
    lent_length _
    (lent_is _ (Ok c.in-Some-Ok.digits) c.in-Some-Ok.is c.in-Some-Ok.field-0-is
    c.read_bytes_borrowed_from_reader.follows.holds-at-none)
    ∙ all_digits _ c.SIZE.result c.in-Some.ensures.1 c.SIZE.ensures

pub returns-in-Some-Ok : goal.returns-in-Some-Ok
returns-in-Some-Ok g c =
    let laws = g.T.Layout.layout.laws in
    let fixed = g.met.T.FixedNumber.fixed.is_fixed in
    let seen = g.T.Layout.seen in
    let numbers = c.take_each.new.places in
    let lent = lent_is _ (Ok c.in-Some-Ok.digits) c.in-Some-Ok.is c.in-Some-Ok.field-0-is
    c.read_bytes_borrowed_from_reader.follows.holds-at-none in
    got_items _ _
    (more_numbers laws fixed {E = g.row.C-Error.Denot} {gives = g.C.Error.From.from_gives} {eof = g.C.Error.IsEof.eof} _
    seen (length numbers) [] numbers _ c.endianness-order.ensures (none_so_far refl) (lent_read _ lent)
    c.take_each.ensures) (length-map numbers seen ∙ c.take_each.auto.places)

pub returns-in-Some-Err : goal.returns-in-Some-Err
returns-in-Some-Err g c =
    let lent = lent_is _ (Err c.in-Some-Err.field-0-0) c.in-Some-Err.is c.in-Some-Err.field-0-is
    c.read_bytes_borrowed_from_reader.follows.holds-at-none in
    let e = c.error_end_of_input-in-Some-Err.ensures in
    numbers_refused g.T.Layout.layout.laws g.met.T.FixedNumber.fixed.is_fixed _ g.T.Layout.seen _ [] _ (omega arith)
    (all_digits _ c.SIZE.result c.in-Some.ensures.1 c.SIZE.ensures) (none_so_far refl) refl
    (lent_refused _
    (ends_input g.met.C.Context.keeps_eof e) lent)
