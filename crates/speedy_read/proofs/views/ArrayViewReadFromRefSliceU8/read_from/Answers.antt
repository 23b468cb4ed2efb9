use Rattle.std.proofs.Common.{map, ap, ◌∙◌, lit<}
use Rattle.speedy_layout.specs.Views.{shown_items}
use Rattle.speedy_read.specs.ReadingLemmas.{ends_input}
use Rattle.speedy_read.proofs.LentLemmas.{lent_length}
use Rattle.speedy_read.proofs.ViewLemmas.{view_lent, view_not_lent, more_than_all, all_refused}
use Rattle.speedy_read.proofs.views.ArrayViewReadFromRefSliceU8.read_from.Goals as goal

pub returns-in_default-clause-reads : goal.returns-in_default-clause-reads
returns-in_default-clause-reads g c =
    more_than_all g.T.FixedSize.SIZE _ (g.met.T.ViewItem.one_size _) g.row.N c.in_default.ensures _
    (ends_input g.met.C.Context.keeps_eof c.error_end_of_input.ensures)
    c.in_ok-read_lent.ensures.reads

pub returns-in_err-read_lent-clause-reads : goal.returns-in_err-read_lent-clause-reads
returns-in_err-read_lent-clause-reads g c =
    all_refused g.T.FixedSize.SIZE _ (g.met.T.ViewItem.one_size _) g.row.N c.in_default.ensures
    c.from_residual.ensures.1 c.in_err-read_lent.ensures.reads

pub returns-in_err-bytes-clause-reads : goal.returns-in_err-bytes-clause-reads
returns-in_err-bytes-clause-reads g c =
    view_not_lent g.T.FixedSize.SIZE _ (g.met.T.ViewItem.one_size _) g.row.N c.from_residual-in_err-bytes.ensures.1
    (rw c.in-Some.ensures at c.in_err-bytes.ensures.reads)

pub over-requires : goal.over-requires
over-requires g c = (lit< tt, lent_length c.in_ok-bytes.ensures.reads ∙ c.in-Some.ensures)

pub returns-clause-reads : goal.returns-clause-reads
returns-clause-reads g c =
    let item = g.met.T.ViewItem in
    let lent = c.in_ok-bytes.ensures in
    view_lent g.T.FixedSize.SIZE _ (item.one_size _) g.row.N g.T.ViewItem.decoded g.T.Layout.seen item.some_bytes
    (λ bytes l are. c.encoded_as_little.ensures _ bytes (item.decodes bytes l are))
    (ap (λ b. map g.T.Layout.seen (shown_items g.T.ViewItem.decoded g.T.FixedSize.SIZE b)) c.over.ensures.bytes)
    lent.range (rw c.in-Some.ensures at lent.reads)
