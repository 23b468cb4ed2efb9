use Rattle.std.proofs.Common.{◌∙◌, ◌*◌, Ok, Err, ap₂, refl}
use Rattle.std.proofs.lemmas.List.{length-map}
use Rattle.speedy_read.specs.Codes.{refused_covered}
use Rattle.speedy_read.specs.ReadingLemmas.{ends_input}
use Rattle.speedy_read.proofs.ArrayLemmas.{arrays_read, arrays_cover}
use Rattle.speedy_read.proofs.ChunkLemmas.{lent_is, lent_length, lent_read, lent_refused}
use Rattle.speedy_read.proofs.ListLemmas.{refused_room}
use Rattle.speedy_read.proofs.arrays.read_number_places.Goals as goal

pub places_of-requires : goal.places_of-requires
places_of-requires g c = (
  c.in_ok-width.ensures.1 ∙ ap₂ ◌*◌ c.count.ensures c.SIZE.ensures,
  lent_length _ (lent_is _ (Ok c.in-Some-Ok.digits) c.in-Some-Ok.is c.in-Some-Ok.field-0-is
      c.read_bytes_borrowed_from_reader.follows.holds-at-none) ∙ c.in_ok-size.ensures.1,
)

pub returns-in-Ok : goal.returns-in-Ok
returns-in-Ok g c =
    let lent = lent_is _ (Ok c.in-Some-Ok.digits) c.in-Some-Ok.is c.in-Some-Ok.field-0-is
    c.read_bytes_borrowed_from_reader.follows.holds-at-none in
    arrays_read g.T.Layout.layout.laws g.met.T.FixedNumber.fixed.is_fixed _ _ c.args.length _ c.endianness-order.ensures
    (length-map c.in-Ok.places.items _ ∙ c.in-Ok.ensures.whole) c.in-Ok.ensures.taken (lent_read _ lent)

pub returns-in-Err : goal.returns-in-Err
returns-in-Err g c =
    let lent = lent_is _ (Ok c.in-Some-Ok.digits) c.in-Some-Ok.is c.in-Some-Ok.field-0-is
    c.read_bytes_borrowed_from_reader.follows.holds-at-none in
    refused_room _ _ _ lent.kept lent.answer.no_fault refl c.error_out_of_memory.ensures

pub returns-in-Some-Err : goal.returns-in-Some-Err
returns-in-Some-Err g c =
    let lent = lent_is _ (Err c.in-Some-Err.field-0-0) c.in-Some-Err.is c.in-Some-Err.field-0-is
    c.read_bytes_borrowed_from_reader.follows.holds-at-none in
    let e = c.error_end_of_input.ensures in
    let ended = ends_input g.met.C.Context.keeps_eof e in
    refused_covered (arrays_cover g.T.Layout.layout.laws g.met.T.FixedNumber.fixed.is_fixed _
    (c.in_ok-width.ensures.1 ∙ ap₂ ◌*◌ c.count.ensures c.SIZE.ensures) c.args.length c.in_ok-size.ensures.1 _)
    refl (lent_refused _ ended lent)
