use Rattle.std.specs.Prelude.{◌%◌}
use Rattle.std.proofs.Common.{List, map, refl, ap, ◌∙◌}
use Rattle.std.proofs.Math.Nat.{mul-mod_left}
use Rattle.speedy_layout.specs.Numbers.{unsigned_number_laws}
use Rattle.speedy_layout.specs.Views.{shown_items}
use Rattle.speedy_read.specs.Sequences.{refused_first, refused_second, second_decides}
use Rattle.speedy_read.proofs.LentLemmas.{borrowed_list_composes, lent_length}
use Rattle.speedy_read.proofs.ViewLemmas.{view_lent, view_not_lent}
use Rattle.speedy_read.proofs.views.SliceViewReadFromRefSliceU8.read_from.Goals as goal

pub over-requires : goal.over-requires
over-requires g c =
    let whole = lent_length c.in_ok-bytes.ensures.reads ∙ c.size_of_items.ensures in
    ap (λ n. n % g.T.FixedSize.SIZE) whole ∙ mul-mod_left c.in_ok-length.length g.T.FixedSize.SIZE

pub returns-in_err-length-clause-reads : goal.returns-in_err-length-clause-reads
returns-in_err-length-clause-reads g c =
    refused_first (borrowed_list_composes _ _) c.from_residual.ensures.1 c.in_err-length.ensures

pub returns-in_err-bytes-clause-reads : goal.returns-in_err-bytes-clause-reads
returns-in_err-bytes-clause-reads g c =
    refused_second (borrowed_list_composes _ _) (unsigned_number_laws 4 _)
    {A = List g.T.Layout.Seen} {seen = λ t. t} c.in_ok-length.ensures c.from_residual-in_err-bytes.ensures.1
    (view_not_lent g.T.FixedSize.SIZE _ (g.met.T.ViewItem.one_size _) _ refl
    (rw c.size_of_items.ensures at c.in_err-bytes.ensures.reads))

pub returns-clause-reads : goal.returns-clause-reads
returns-clause-reads g c =
    let item = g.met.T.ViewItem in
    let lent = c.in_ok-bytes.ensures in
    second_decides (borrowed_list_composes _ _) (unsigned_number_laws 4 _)
    {seen = λ view. map g.T.Layout.seen (shown_items g.T.ViewItem.decoded g.T.FixedSize.SIZE view.bytes.now)}
    c.in_ok-length.ensures
    (view_lent g.T.FixedSize.SIZE _ (item.one_size _) _ g.T.ViewItem.decoded g.T.Layout.seen item.some_bytes
    (λ bytes l are. c.encoded_as_little.ensures _ bytes (item.decodes bytes l are))
    (ap (λ b. map g.T.Layout.seen (shown_items g.T.ViewItem.decoded g.T.FixedSize.SIZE b)) c.over.ensures.bytes)
    lent.range (rw c.size_of_items.ensures at lent.reads))
    (λ _. refl)
