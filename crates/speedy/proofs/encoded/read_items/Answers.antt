use Rattle.std.proofs.Common.{refl, ◌∙◌, ap, ap₂, arith}
use Rattle.speedy_base.specs.Mode.{Mode}
use Rattle.speedy_layout.specs.Lists.{repeat}
use Rattle.speedy_read.specs.Reading.{ReaderState}
use Rattle.speedy_read.specs.WaysOfReading.{Counts}
use Rattle.speedy.proofs.EncodedReadLemmas.{list_is, plain_items, present_refused, unmeasured, lent_items, items_taken}
use Rattle.speedy.proofs.EncodedReadLemmas.{none_lent, counted_within, restated}
use Rattle.speedy.proofs.encoded.read_items.Goals as goal

pub returns-in_err-_nothing-clause-reads : goal.returns-in_err-_nothing-clause-reads
returns-in_err-_nothing-clause-reads g c =
    present_refused _ c.args.count 0 (λ _. omega arith) c.from_residual.ensures.1 c.in_err-_nothing.ensures.reads

pub returns-in-Err-clause-reads : goal.returns-in-Err-clause-reads
returns-in-Err-clause-reads g c =
    let same = none_lent c.in_ok-_nothing.ensures.reads in
    let mode : Mode = record { order = c.endianness-order.result; strict = c.demands_written_form-strict.result } in
    let format = g.T.InPlace.in_place.codec.format in
    restated format c.args.count
    (ap₂ (λ o s. let m : Mode = record { order = o; strict = s } in m) c.endianness-order.ensures
    c.demands_written_form-strict.ensures ∙ ap (λ (s : ReaderState). s.mode) same) refl
    (unmeasured (format mode) c.args.count g.met.C.Context.keeps_eof c.from.ensures
    (g.T.InPlace.in_place.no_memory mode) same (c.in-Some.ensures.1 ∙ ap (λ (s : ReaderState). s.remaining) same)
    c.in-Err.ensures)

pub returns-in_err-bytes-clause-reads : goal.returns-in_err-bytes-clause-reads
returns-in_err-bytes-clause-reads g c =
    let same = none_lent c.in_ok-_nothing.ensures.reads in
    let format = g.T.InPlace.in_place.codec.format in
    let within = counted_within c.in-Ok.ensures.1 in
    restated format c.args.count refl same
    (present_refused (format (g.R.LendingReader.state c.args.reader.now).mode) c.args.count c.in-Ok.size
    (λ _. rw c.in-Some.ensures.1 at within) c.from_residual-in_err-bytes.ensures.1 c.in_err-bytes.ensures.reads)

pub over-requires : goal.over-requires
over-requires g c =
    let mode : Mode = record { order = c.endianness-order.result; strict = c.demands_written_form-strict.result } in
    let codec = g.T.InPlace.in_place.codec in
    let items = c.in-Ok.ensures.0 in
    let found : Counts ((repeat c.args.count (codec.format mode)).encodes items) c.in-Ok.size
    (g.R.LendingReader.state c.read_lent.new.reader).remaining = rw c.in-Some.ensures.1 at c.in-Ok.ensures.1 in
    let lent = lent_items (codec.format mode) c.args.count items c.in-Some.ensures.0 found
    c.in_ok-bytes.ensures.reads in
    (items, ∣ rw lent (plain_items codec mode.order mode.strict c.args.count items found.prefix found.prefix_is) ∣₁)

pub returns-clause-reads : goal.returns-clause-reads
returns-clause-reads g c =
    let same = none_lent c.in_ok-_nothing.ensures.reads in
    let mode : Mode = record { order = c.endianness-order.result; strict = c.demands_written_form-strict.result } in
    let item = g.T.InPlace.in_place in
    let items = c.in-Ok.ensures.0 in
    let found : Counts ((repeat c.args.count (item.codec.format mode)).encodes items) c.in-Ok.size
    (g.R.LendingReader.state c.read_lent.new.reader).remaining = rw c.in-Some.ensures.1 at c.in-Ok.ensures.1 in
    let lent = lent_items (item.codec.format mode) c.args.count items c.in-Some.ensures.0 found
    c.in_ok-bytes.ensures.reads in
    let seen = list_is item c.over.result.decoded c.over.ensures.order c.over.ensures.count
    (c.over.ensures.bytes ∙ lent) items
    (plain_items item.codec mode.order mode.strict c.args.count items found.prefix found.prefix_is) in
    restated item.codec.format c.args.count
    (ap₂ (λ o s. let m : Mode = record { order = o; strict = s } in m) c.endianness-order.ensures
    c.demands_written_form-strict.ensures ∙ ap (λ (s : ReaderState). s.mode) same) same
    (items_taken (item.codec.format mode) c.args.count items c.in-Some.ensures.0 found c.in_ok-bytes.ensures.reads seen)
